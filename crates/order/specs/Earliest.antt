-- The earliest unfinished command: a pick of it never waits, and the run as written is the run by picks of it.
use Rattle.std.specs.Prelude.{◌≡◌, ℕ, ◌<◌, true, false, List, get_or, take}
use Rattle.meaning.specs.Drives.{Drives}
use Rattle.meaning.specs.declared.Record.{Record}
use Rattle.meaning.specs.Each.{every_of}
use Rattle.meaning.specs.State.{State}
use Rattle.meaning.specs.Command.{finished, no_record}
use Rattle.meaning.specs.Pick.{pick_number}
use Rattle.meaning.specs.Run.{all_finished, run_number, by_picks, as_written}
use Rattle.order.specs.States.{earliest, written_picks}

-- of the first n commands, the earliest unfinished one stands at p
pub record Earliest (t : List Record) (n p : ℕ) : Type 0 where
  pub in_use : p < n
  pub unfinished : finished (get_or t p no_record) ≡ false
  pub before : every_of finished (take p t) ≡ true

-- where some command is unfinished there is such a one, at the place that the definition gives
abbrev pub EarliestIsThere : Type 0
EarliestIsThere = (t : List Record) (n : ℕ) → all_finished t n ≡ false → Earliest t n (earliest t)

-- no earlier unfinished command can conflict with it: a pick there gets 0
abbrev pub EarliestNeverWaits : Type 0
EarliestNeverWaits = (d : Drives) (n p : ℕ) (s : State) → run_number d n s ≡ 0 → Earliest s.table n p → pick_number d n p s ≡ 0

-- The definition of a run as written goes command by command. This says the same pick by pick: it is the run by the picks that it would
-- take, each of the earliest unfinished command, and none of them is refused.
abbrev pub WrittenIsPicks : Type 0
WrittenIsPicks = (d : Drives) (n b : ℕ) (s : State) → run_number d n s ≡ 0 → as_written d n b s ≡ by_picks d n (written_picks n b s.table) s
