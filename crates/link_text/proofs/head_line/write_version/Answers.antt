use Rattle.std.proofs.Common.{List, ℕ, [], ◌∷◌, ap, arith, codes, sym}
use Rattle.std.proofs.lemmas.Fmt.{decimal_digit}
use Rattle.link_lines.specs.Words.{joined}
use Rattle.link_script.specs.ReplayScript.{ended}
use Rattle.link_text.proofs.head_line.write_version.Goals as goal

pub returns : goal.returns
returns c =
    rw (c.put.ensures.items, c.clear.ensures)
    (sym (ap (λ (digits : List ℕ). ended (joined (codes "replay" ∷ digits ∷ []))) (decimal_digit 2 (omega arith))))
