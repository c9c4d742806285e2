-- What a pick sees of the records in use before its own place is asked. n is how many bytes memory has, d are the drives, r is the record
-- that wants to go, and p its place.
use Rattle.std.specs.Prelude.{ℕ, Bool, not, ◌&&◌, cond, List, take, Result, Ok, Err}
use Rattle.meaning.specs.Drives.{Drives}
use Rattle.meaning.specs.declared.Record.{Record}
use Rattle.meaning.specs.declared.refusals.Refusal.{Refusal}
use Rattle.meaning.specs.declared.refusals.Refusal.TheVariants.{Spoiled}
use Rattle.meaning.specs.Each.{some_of}
use Rattle.meaning.specs.Command.{finished}
use Rattle.meaning.specs.Touch.{conflict}
use Rattle.command.specs.Data.{bad_in}

-- an earlier command e makes r wait
abbrev pub blocking : Record → Record → Bool
blocking r e = not (finished e) && conflict e r

-- a bad record refuses the pick; where there is none, whether a command before p makes r wait
unfoldable pub looked_over : ℕ → Drives → Record → ℕ → List Record → Result Bool Refusal
unfolding bad_in finished conflict
looked_over n d r p t = cond (some_of (bad_in n d) t) (Err Spoiled) (Ok (some_of (blocking r) (take p t)))
