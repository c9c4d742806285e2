-- The counts add up: of picks, of a run as written, of any list of calls, and of a whole chain.
use Rattle.std.specs.Prelude.{◌≡◌, ◌↔◌, ℕ, ◌+◌, ◌≤◌, min, true, List, length}
use Rattle.meaning.specs.Drives.{Drives}
use Rattle.meaning.specs.declared.Record.{Record}
use Rattle.meaning.specs.declared.Walked.{Walked}
use Rattle.meaning.specs.declared.Ran.{Ran}
use Rattle.meaning.specs.State.{State}
use Rattle.meaning.specs.Walk.{WalkGives}
use Rattle.meaning.specs.Run.{chain_steps, steps_left, all_finished, by_picks, as_written, RunGives}
use Rattle.order.specs.Calls.{Call, MakeAll}

-- no step remains exactly if all commands are finished
abbrev pub NoneLeft : Type 0
NoneLeft = (t : List Record) (n : ℕ) → (all_finished t n ≡ true) ↔ (steps_left t n ≡ 0)

-- What the two runs report where they give 0, known by their contracts alone
pub record ReportsAddUp : Type 0 where
  -- each pick is a step or a refusal, and a step is one less that remains
  pub picks : (d : Drives) (n : ℕ) (ps : List ℕ) (s : State) (r : Ran) (s' : State) → RunGives d n (by_picks d n ps) s r s' → r.number ≡ 0
      → (r.steps + r.refused ≡ length ps) × (r.steps + steps_left s'.table n ≡ steps_left s.table n)
  -- all are finished exactly if the steps taken are all that remained
  pub finished : (d : Drives) (n : ℕ) (ps : List ℕ) (s : State) (r : Ran) (s' : State) → RunGives d n (by_picks d n ps) s r s' → r.number ≡ 0
      → (r.finished ≡ true) ↔ (r.steps ≡ steps_left s.table n)
  -- as written: no pick is refused, and the steps taken are the smaller of the budget and the steps that remained
  pub smaller : (d : Drives) (n b : ℕ) (s : State) (r : Ran) (s' : State) → RunGives d n (as_written d n b) s r s' → r.number ≡ 0
      → (r.refused ≡ 0) × (r.steps ≡ min b (steps_left s.table n))
  pub enough : (d : Drives) (n b : ℕ) (s : State) (r : Ran) (s' : State) → RunGives d n (as_written d n b) s r s' → r.number ≡ 0
      → (r.finished ≡ true) ↔ (steps_left s.table n ≤ b)

-- any calls: the steps that they take, and those that then remain, are those that remained before
abbrev pub CallsAddUp : Type 0
CallsAddUp =
    (d : Drives) (n : ℕ) (cs : List Call) (s : State) (k : ℕ) (s' : State)
    → MakeAll d n cs s k s'
    → k + steps_left s'.table n ≡ steps_left s.table n

-- the accepted steps that finish a chain number exactly the sum of the steps of its commands, in whatever calls they are taken
abbrev pub ChainAddsUp : Type 0
ChainAddsUp =
    (d : Drives) (start : ℕ) (s : State) (w : Walked) (t : List Record) (cs : List Call) (k : ℕ) (s' : State)
    → WalkGives d start s w t
    → w.number ≡ 0
    → MakeAll d w.commands cs (record { table = t; store = s.store }) k s'
    → (all_finished s'.table w.commands ≡ true) ↔ (k ≡ chain_steps t w.commands)
