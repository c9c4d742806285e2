-- What the statements of this crate say of a state, of whose table the first n records are in use: its earliest unfinished command, the
-- picks that a run as written would take, and the state after all that is left, done as written.
use Rattle.std.specs.Prelude.{ℕ, zero, suc, cond, List, [], ◌∷◌, get_or, set}
use Rattle.meaning.specs.Drives.{Drives}
use Rattle.meaning.specs.declared.Record.{Record}
use Rattle.meaning.specs.State.{State}
use Rattle.meaning.specs.Command.{finished, no_record}
use Rattle.meaning.specs.Step.{stepped}
use Rattle.meaning.specs.Run.{steps_left, all_finished, as_written, ran_to}

-- the place of the earliest unfinished command, or past the last record where there is none
unfoldable pub earliest : List Record → ℕ
earliest [] = 0
earliest (r ∷ rs) = let later = suc (earliest rs) in cond (finished r) later 0

-- the picks that a run as written takes with a budget: each of the earliest unfinished command, as the table then is
unfoldable pub written_picks : ℕ → ℕ → List Record → List ℕ
unfolding earliest
written_picks n zero t = []
written_picks n (suc budget) t =
    let p = earliest t in
    let more = written_picks n budget (set t p (stepped (get_or t p no_record))) in
    cond (all_finished t n) [] (p ∷ more)

-- the state after all that is left, done as written; where 1 or 9 is given nothing is done
unfoldable pub rest : Drives → ℕ → State → State
rest d n s = (ran_to d n (as_written d n (steps_left s.table n)) s).state
