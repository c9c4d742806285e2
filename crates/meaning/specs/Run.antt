-- The two runs, by a list of picks (Run 1 to 4) and as written (Run 5), and the whole of either. Both test 1 and 9 first (Run 8).
use Rattle.std.specs.Prelude.{◌≡◌, ℕ, zero, suc, ◌+◌, ◌-◌, min, Bool, false, cond, List, [], ◌∷◌, ◌++◌, take, drop, eqb}
use Rattle.meaning.specs.First.{first_of}
use Rattle.meaning.specs.Each.{every_of, sum_of}
use Rattle.meaning.specs.Drives.{Drives}
use Rattle.meaning.specs.declared.Record.{Record}
use Rattle.meaning.specs.declared.Ran.{Ran}
use Rattle.meaning.specs.Store.{Store}
use Rattle.meaning.specs.State.{State}
use Rattle.meaning.specs.Sizes.{sizes_wrong}
use Rattle.meaning.specs.Command.{steps_of, finished, remaining}
use Rattle.meaning.specs.Step.{step, stepped}
use Rattle.meaning.specs.Pick.{spoiled, run_rows, pick_number, step_at}

-- a chain's steps, from its start: the sum of the steps of its commands (Run 6)
unfoldable pub chain_steps : List Record → ℕ → ℕ
unfolding steps_of
chain_steps t n = sum_of steps_of (take n t)

-- the steps that remain of the first n commands
unfoldable pub steps_left : List Record → ℕ → ℕ
unfolding remaining
steps_left t n = sum_of remaining (take n t)

-- all commands are finished
unfoldable pub all_finished : List Record → ℕ → Bool
unfolding finished
all_finished t n = every_of finished (take n t)

-- 1 and 9, which both runs test first; otherwise 0
unfoldable pub run_number : Drives → ℕ → State → ℕ
unfolding sizes_wrong spoiled
run_number d n s = first_of (run_rows d n s) 0

-- what a run has come to
pub record Tally : Type 0 where
  pub steps : ℕ
  pub refused : ℕ
  pub state : State

abbrev pub at_start : State → Tally
at_start s = record { steps = 0; refused = 0; state = s }

-- ---- by picks

-- one pick of a run: where it is refused it is passed over, and counted (Run 2 and 4)
unfoldable pub one_pick : Drives → ℕ → ℕ → Tally → Tally
unfolding pick_number step_at
one_pick d n p y =
    cond (eqb (pick_number d n p y.state) 0)
    (record { steps = y.steps + 1; refused = y.refused; state = step_at d p y.state })
    (record { steps = y.steps; refused = y.refused + 1; state = y.state })

unfoldable pub picks_from : Drives → ℕ → List ℕ → Tally → Tally
unfolding one_pick
picks_from d n [] y = y
picks_from d n (p ∷ ps) y = picks_from d n ps (one_pick d n p y)

unfoldable pub by_picks : Drives → ℕ → List ℕ → State → Tally
unfolding picks_from
by_picks d n ps s = picks_from d n ps (at_start s)

-- ---- as written

-- k steps of one command, one after another: its record, and the store
unfoldable pub advanced : ℕ → Record → Record
unfolding stepped
advanced zero r = r
advanced (suc k) r = advanced k (stepped r)

unfoldable pub steps_done : Drives → ℕ → Record → Store → Store
unfolding step stepped
steps_done d zero r s = s
steps_done d (suc k) r s = steps_done d k (stepped r) (step d r s)

-- of each command in turn as many steps as are left of it, or of the budget b: always the earliest
-- unfinished command
unfoldable pub written : Drives → ℕ → List Record → Store → Tally
unfolding remaining advanced steps_done
written d b [] s = at_start (record { table = []; store = s })
written d b (r ∷ rs) s =
    let k = min b (remaining r) in
    let rest = written d (b - k) rs (steps_done d k r s) in
    record {
      steps = k + rest.steps;
      refused = rest.refused;
      state = record { table = advanced k r ∷ rest.state.table; store = rest.state.store };
    }

-- the same of the first n records of a table; those past them are left alone
unfoldable pub as_written : Drives → ℕ → ℕ → State → Tally
unfolding written
as_written d n b s =
    let w = written d b (take n s.table) s.store in
    record {
      steps = w.steps;
      refused = w.refused;
      state = record { table = w.state.table ++ drop n s.table; store = w.state.store };
    }

-- ---- the whole of a run

-- what a run comes to that would come to `go s`: on 1 and 9 nothing is done
unfoldable pub ran_to : Drives → ℕ → (State → Tally) → State → Tally
unfolding run_number
ran_to d n go s = cond (eqb (run_number d n s) 0) (go s) (at_start s)

-- what it answers: on 1 and 9 that number, zero counts and "not finished"
unfoldable pub run_reply : Drives → ℕ → (State → Tally) → State → Ran
unfolding ran_to all_finished
run_reply d n go s =
    let y = ran_to d n go s in
    record {
      steps = y.steps;
      refused = y.refused;
      number = run_number d n s;
      finished = cond (eqb (run_number d n s) 0) (all_finished y.state.table n) false;
    }

-- The whole of a run: r is what it answers, s' the state after it. `go` is `by_picks d n ps` for a run by picks, `as_written d n b` for a
-- run as written with the budget b.
unfoldable pub RunGives : Drives → ℕ → (State → Tally) → State → Ran → State → Type 0
unfolding run_reply
RunGives d n go s r s' = (r ≡ run_reply d n go s) × (s' ≡ (ran_to d n go s).state)
