use Rattle.std.proofs.Common.{Option, List, ℕ, sym, ap, ◌∙◌, rules, unwrap_or}
use Rattle.std.specs.Option.{option_map, option_copied}
use Rattle.link_payload.specs.Fields.{start_in, no_start}
use Rattle.link_payload.proofs.ValueLemmas.{start_is, stored_start}
use Rattle.link_payload.proofs.read.start_or_none.Goals as goal

pub returns : goal.returns
returns c =
    let of_value = λ (v : Option (List ℕ)). unwrap_or (option_map start_in v) no_start in
    stored_start _ c.i64_at-beats.result.0 c.i64_at-stamp.result.0 (search rules) (search rules)
    ∙ start_is c.in-Some.value.now _ _ _ _ _ _ c.split_at.ensures.front c.split_at.ensures.back c.i64_at-beats.ensures.bytes c.i64_at-stamp.ensures.bytes (search rules) (search rules)
    ∙ ap of_value (sym (ap option_copied c.in-Some.is))
