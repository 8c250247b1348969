-- What was read of a cell of states was published.
use Rattle.std.proofs.Common.{◌≡◌, ℕ, zero, suc, ◌<◌, ◌^◌, List, [], ◌∷◌, map, get_or, sym, refl, ap, ◌∙◌, subst}
use Rattle.std.specs.List.{All}
use mathlib.Core.Option.{some, some-injective, some-ne-none}
use lib.ListN.{get_elem?}
use Rattle.audio_handoff.specs.Cell.{Pair, WereMade}
use Rattle.audio_handoff.proofs.CellLists.{below_length}
use Rattle.client_state.specs.State.{IsId, IsTidyState}
use Rattle.client_state.specs.Words.{words_of_state, state_of_words}
use Rattle.client_state.specs.declared.state.State.{State}
use Rattle.link_shared.specs.Ending.{WerePublished}

-- the row at a place is that of the state there
row_at : (states : List State) (j : ℕ) (row : List ℕ) → get_elem? (map words_of_state states) j ≡ some row → (state : State) × (get_elem? states j ≡ some state) × (words_of_state state ≡ row)
row_at [] j row e = absurd (some-ne-none row (sym e))
row_at (s ∷ states) zero row e = (s, refl, some-injective (words_of_state s) row e)
row_at (s ∷ states) (suc j) row e = row_at states j row e

at_get_or : (states : List State) (j : ℕ) (state : State) → get_elem? states j ≡ some state → get_or states j state ≡ state
at_get_or [] j state e = refl
at_get_or (s ∷ states) zero state e = some-injective s state e
at_get_or (s ∷ states) (suc j) state e = at_get_or states j state e

all_at : (P : State → Type 0) (states : List State) (j : ℕ) (state : State) → All P states → get_elem? states j ≡ some state → P state
all_at P states j state each e = subst P (at_get_or states j state e) (each j state (below_length states j state e))

pub were_published : (published : List State) (made : List (List ℕ)) (seen : List Pair) → ((state : State) → IsTidyState state → state.peers < 2 ^ 32 → IsId state.session → state_of_words (words_of_state state) ≡ state)
    → made ≡ map words_of_state published → All IsTidyState published → All (λ state. state.peers < 2 ^ 32) published → All (λ state. IsId state.session) published → WereMade made seen → WerePublished published seen
were_published published made seen back rows tidy peers_fit sessions_fit read k pair e =
    let at = row_at published pair.0 pair.1 (subst (λ (l : List (List ℕ)). get_elem? l pair.0 ≡ some pair.1) rows (read k pair e)) in
    let is = all_at IsTidyState published pair.0 at.0 tidy at.1 in
    let peers = all_at (λ state. state.peers < 2 ^ 32) published pair.0 at.0 peers_fit at.1 in
    let session = all_at (λ state. IsId state.session) published pair.0 at.0 sessions_fit at.1 in
    at.1 ∙ ap some (sym (back at.0 is peers session) ∙ ap state_of_words at.2)
