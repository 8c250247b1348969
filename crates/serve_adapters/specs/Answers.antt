-- What calls of the system say of a client, of standard input and of a writer.
use Rattle.std.specs.Prelude.{◌==◌, ℕ, zero, suc, Bool, true, false, not, if◌then◌else◌, Ok, Err}
use Rattle.std.specs.IoError.{error_kind}
use Rattle.std.specs.declared.io.Error.{Error}
use Rattle.std.specs.declared.io.ErrorKind.{ErrorKind}
use Rattle.std.specs.declared.io.ErrorKind.TheVariants as kind
use Rattle.std.specs.declared.result.Result.{Result}
use Rattle.lk_talks.specs.declared.talks.Heard.{Heard}
use Rattle.lk_talks.specs.declared.talks.Heard.TheVariants as heard

-- the call would have had to wait, or a signal interrupted it
abbrev pub is_for_later : ErrorKind → Bool
is_for_later kind.WouldBlock = true
is_for_later kind.Interrupted = true
is_for_later _ = false

abbrev pub is_spent_by : ErrorKind → Bool
is_spent_by kind.WouldBlock = true
is_spent_by _ = false

-- Rule: A client that sends no more left, and one whose stream broke left too; a client is never a fault.
abbrev pub heard_at : Result ℕ Error → Heard
heard_at (Ok zero) = heard.Left
heard_at (Ok (suc n)) = heard.Got (suc n)
heard_at (Err error) = if is_for_later (error_kind error) then heard.Nothing else heard.Left

-- a read that would have had to wait
abbrev pub spent_at : Result ℕ Error → Bool
spent_at (Ok count) = false
spent_at (Err error) = is_spent_by (error_kind error)

-- an error only where no later write can come to anything
abbrev pub waits_at : Result ℕ Error → Result (Unit {0}) Error
waits_at (Ok count) = Ok tt
waits_at (Err error) = if is_for_later (error_kind error) then Ok tt else Err error

-- Rule: Standard input has ended where a read of it gives nothing, or can't be made any more.
abbrev pub ended_at : Result ℕ Error → Bool
ended_at (Ok count) = count == 0
ended_at (Err error) = not (is_for_later (error_kind error))
