use Rattle.std.proofs.Common.{None, Some}
use Rattle.std.specs.String.{string_bytes}
use Rattle.link_words.proofs.NameLemmas.{no_word, by_first, is_command, is_no_command}
use Rattle.link_words.specs.declared.command_name.CommandName.TheVariants as name
use Rattle.link_words.proofs.command_name.command_named.Goals as goal

pub returns-in_default : goal.returns-in_default
returns-in_default c = no_word c.args.words.now c.in_default.len_below

pub returns-in-replay : goal.returns-in-replay
returns-in-replay c =
    by_first c.args.words.now c.first-item.result (Some name.Replay) c.in-len1-up.len_at_least c.first-item.is
    (is_command (string_bytes c.first-item.result) name.Replay (rw c.as_str.ensures.value at c.in-replay.is))

pub returns-in-decode : goal.returns-in-decode
returns-in-decode c =
    by_first c.args.words.now c.first-item.result (Some name.Decode) c.in-len1-up.len_at_least c.first-item.is
    (is_command (string_bytes c.first-item.result) name.Decode (rw c.as_str.ensures.value at c.in-decode.is))

pub returns-in-load : goal.returns-in-load
returns-in-load c =
    by_first c.args.words.now c.first-item.result (Some name.Load) c.in-len1-up.len_at_least c.first-item.is
    (is_command (string_bytes c.first-item.result) name.Load (rw c.as_str.ensures.value at c.in-load.is))

pub returns-in-live : goal.returns-in-live
returns-in-live c =
    by_first c.args.words.now c.first-item.result (Some name.Live) c.in-len1-up.len_at_least c.first-item.is
    (is_command (string_bytes c.first-item.result) name.Live (rw c.as_str.ensures.value at c.in-live.is))

pub returns-in-filter : goal.returns-in-filter
returns-in-filter c =
    by_first c.args.words.now c.first-item.result (Some name.Filter) c.in-len1-up.len_at_least c.first-item.is
    (is_command (string_bytes c.first-item.result) name.Filter (rw c.as_str.ensures.value at c.in-filter.is))

pub returns-in-midi : goal.returns-in-midi
returns-in-midi c =
    by_first c.args.words.now c.first-item.result (Some name.Midi) c.in-len1-up.len_at_least c.first-item.is
    (is_command (string_bytes c.first-item.result) name.Midi (rw c.as_str.ensures.value at c.in-midi.is))

pub returns-in-control : goal.returns-in-control
returns-in-control c =
    by_first c.args.words.now c.first-item.result (Some name.Control) c.in-len1-up.len_at_least c.first-item.is
    (is_command (string_bytes c.first-item.result) name.Control (rw c.as_str.ensures.value at c.in-control.is))

pub returns-in_default-as_str : goal.returns-in_default-as_str
returns-in_default-as_str c =
    by_first c.args.words.now c.first-item.result None c.in-len1-up.len_at_least c.first-item.is
    (is_no_command (string_bytes c.first-item.result) (rw c.as_str.ensures.value at c.in_default-as_str.not-replay)
    (rw c.as_str.ensures.value at c.in_default-as_str.not-decode) (rw c.as_str.ensures.value at c.in_default-as_str.not-load)
    (rw c.as_str.ensures.value at c.in_default-as_str.not-live) (rw c.as_str.ensures.value at c.in_default-as_str.not-filter)
    (rw c.as_str.ensures.value at c.in_default-as_str.not-midi) (rw c.as_str.ensures.value at c.in_default-as_str.not-control))
