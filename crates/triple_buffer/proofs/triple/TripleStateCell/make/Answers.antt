use Rattle.std.proofs.Common.{rules, ◌++◌, ◌∷◌, ◌∙◌, [], ap, inl, refl, List, ℕ}
use Rattle.triple_buffer.proofs.OpeningStep.{opens}
use Rattle.triple_buffer.proofs.triple.TripleStateCell.make.Goals as goal

pub of_words-requires : goal.of_words-requires
of_words-requires g c =
    let row : List ℕ = c.copy_from_slice.new.self in
    let first = ◌∙◌ {A = List ℕ} c.in_ok-push.ensures.items (ap (λ l. l ++ 1 ∷ []) c.new-words.ensures.items) in
    let second = ◌∙◌ {A = List ℕ} c.in_ok-extend_from_slice.ensures.items (ap (λ l. l ++ row) first) in
    let third = ◌∙◌ {A = List ℕ} c.in_ok-extend_from_slice-2.ensures.items (ap (λ l. l ++ row) second) in
    let fourth = ◌∙◌ {A = List ℕ} c.in_ok-extend_from_slice-3.ensures.items (ap (λ l. l ++ row) third) in
    inl record { words = ◌∙◌ {A = List ℕ} c.as_slice.ensures.value fourth; seat = refl }

pub split_seat-reader-requires : goal.split_seat-reader-requires
split_seat-reader-requires g c =
    let made = c.in_ok-table.ensures {u = tt} in
    (made.2, search rules, opens _ _ _ _ made.5 (ap (λ m. m.0) made.4))
