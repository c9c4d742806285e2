-- What is refused changes no byte of memory, of any image or of the table (Demand 1): of the walk, of a pick and of either run.
-- What each gives is taken by its contract; s is the state before, s' after.
use Rattle.std.specs.Prelude.{◌≡◌, ◌≢◌, ℕ, false, List}
use Rattle.meaning.specs.Drives.{Drives}
use Rattle.meaning.specs.declared.Record.{Record}
use Rattle.meaning.specs.declared.Walked.{Walked}
use Rattle.meaning.specs.declared.Ran.{Ran}
use Rattle.meaning.specs.State.{State}
use Rattle.meaning.specs.Walk.{WalkGives}
use Rattle.meaning.specs.Pick.{PickGives}
use Rattle.meaning.specs.Run.{Tally, RunGives}

-- a refused run takes no step, counts no pick and is not finished (Run 8)
pub record NothingDone (s : State) (r : Ran) (s' : State) : Type 0 where
  pub unchanged : s' ≡ s
  pub steps : r.steps ≡ 0
  pub refused : r.refused ≡ 0
  pub finished : r.finished ≡ false

pub record RefusedChangesNothing : Type 0 where
  -- memory and images are lent to the walk for reading only; the number of commands is 0
  pub walk : (d : Drives) (start : ℕ) (s : State) (w : Walked) (t' : List Record)
      → WalkGives d start s w t'
      → w.number ≢ 0
      → (t' ≡ s.table) × (w.commands ≡ 0)
  pub pick : (d : Drives) (n p : ℕ) (s : State) (k : ℕ) (s' : State) → PickGives d n p s k s' → k ≢ 0 → s' ≡ s
  -- either run: `go` is what it would come to
  pub run : (d : Drives) (n : ℕ) (go : State → Tally) (s : State) (r : Ran) (s' : State)
      → RunGives d n go s r s'
      → r.number ≢ 0
      → NothingDone s r s'
