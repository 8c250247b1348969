-- How the program ends, from how the command ends that its words name.
use Rattle.std.proofs.Common.{◌≡◌, List, ℕ, Option, Some, Global, subst, sym, ◌∙◌}
use Rattle.std.specs.declared.string.String.{String}
use Rattle.link_words.specs.CommandNames.{BeginsBy, named_by}
use Rattle.link_words.proofs.NameLemmas.{begun_is}
use Rattle.link_words.specs.declared.command_name.CommandName.{CommandName}
use Rattle.link_commands.specs.Statuses.{IfNothingWritten}
use Rattle.link_commands.specs.declared.status.Status.{Status}
use Rattle.link_commands.specs.declared.status.Status.TheVariants as status
use Rattle.link_daemon.specs.Ends.{Ends, EndsNamed}
use Rattle.link_daemon.specs.AllSeen.{AllSeen}

-- as the command whose word is the first
pub as_named : (words : List (String Global)) (named : CommandName) (seed : ℕ) (before after : AllSeen) (end : Status)
    → BeginsBy named words → Ends words seed before after end → EndsNamed (Some named) words seed before after end
as_named words named seed before after end begun ends =
    subst (λ (f : Option CommandName). EndsNamed f words seed before after end) (begun_is words named begun) ends

-- words that begin with a command's word name no other
pub one_command : (words : List (String Global)) (named other : CommandName) → named_by words ≡ Some named → BeginsBy other words → named ≡ other
one_command words named other is begun =
    let both : Some named ≡ Some other = sym is ∙ begun_is words other begun in
    cc

-- where memory was wanting nothing is written
pub none_for_memory : (P : Type 0) (end : Status) → end ≡ status.Memory → IfNothingWritten end P → P
none_for_memory P end is holds = subst (λ (how : Status). IfNothingWritten how P) is holds
