-- The lines of a text.
use Rattle.std.proofs.Common.{◌≡◌, refl, ◌∙◌, ap, ℕ, ◌≤◌, List, [], length, drop}
use Rattle.std.proofs.lemmas.List.{drop_all}
use Rattle.link_lines.specs.Lines.{lines_of}

lines_none : lines_of [] ≡ []
unfolding lines_of
lines_none = refl

-- no line begins at the end of a text
pub lines_end : (text : List ℕ) (at : ℕ) → length text ≤ at → lines_of (drop at text) ≡ []
lines_end text at all = ap lines_of (drop_all at text all) ∙ lines_none
