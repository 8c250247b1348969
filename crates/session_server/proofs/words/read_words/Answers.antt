use Rattle.std.proofs.Common.{ℕ, ◌≤◌, ◌<◌, ◌^◌, List, codes, inl, inr, to_z, unsigned_abs, w64, lit≤, ap, sym, subst, arith}
use Rattle.std.proofs.lemmas.Int.{to_z_pos}
use Rattle.session_server.specs.Words.{SaysOption, SaysQuantum}
use Rattle.session_server.proofs.words.read_words.Goals as goal

option_most : (words : List (List ℕ)) (name : List ℕ) (least most default n : ℕ) → default ≤ most → SaysOption words name least most default n → n ≤ most
option_most words name least most default n fits (inl absent) = omega (arith, fits, absent.1)
option_most words name least most default n fits (inr given) = given.2.to

-- a signed number is the same, where it is small
quantum_signed : (words : List (List ℕ)) (n : ℕ) → SaysQuantum words n → SaysQuantum words (unsigned_abs (to_z w64 n))
quantum_signed words n says =
    let small : n < 2 ^ 63 = omega (arith, option_most words (codes "--quantum") 0 (2 ^ 40) 4_000_000 n (lit≤ tt) says) in
    subst (SaysQuantum words) (sym (ap unsigned_abs (to_z_pos w64 n small))) says

pub returns-clause-asks : goal.returns-clause-asks
returns-clause-asks c =
    let at = c.in_ok-at.ensures.says in
    let opening = c.in_ok-opening.ensures.says in
    record {
      endpoint = at.0;
      endpoint_said = at.1;
      script = c.in_ok-_script._script;
      script_said = c.in_ok-_script.ensures.says;
      alone = c.in_ok-_script.ensures.alone;
      gates_said = opening.0;
      tempo_said = opening.1;
      sync_said = opening.2;
      quantum_said = quantum_signed _ _ c.in-Some.ensures.some;
      group_said = c.in-Some-option_in.ensures.some;
      events_said = c.in-Some-option_in-2.ensures.some;
      hours_said = c.in_ok-lasts.ensures.says;
      secret = c.in-Some-file_in._secret;
      secret_said = c.in-Some-file_in.ensures.some;
      end_said = c.in-Some-flag_in.ensures.some;
      input_said = c.in-Some-flag_in-2.ensures.some;
    }
