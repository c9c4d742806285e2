-- For each number of a pick and of a run, exactly when it is given (Pick 2 to 7, Run 8 and 9), and what it is to conflict (Touch 4).
-- d are the drives, n the number of commands, p the place picked, s the state before and s' after.
use Rattle.std.specs.Prelude.{◌≡◌, ◌↔◌, ◌≢◌, ◌⊎◌, ℕ, ◌≤◌, true, List, [], ◌∷◌, get_or}
use Rattle.meaning.specs.Drives.{Drives}
use Rattle.meaning.specs.declared.Record.{Record}
use Rattle.meaning.specs.declared.Ran.{Ran}
use Rattle.meaning.specs.Store.{memory}
use Rattle.meaning.specs.State.{State}
use Rattle.meaning.specs.Command.{no_record}
use Rattle.meaning.specs.Touch.{conflict}
use Rattle.meaning.specs.Pick.{PickGives}
use Rattle.meaning.specs.Run.{Tally, RunGives}
use Rattle.meaning.specs.Table.{Case, ◌⇒◌, Otherwise, Given}
use Rattle.meaning.specs.Conditions.{SizesWrong, Finished, Spoiled, ReadsAt, WritesAt, Conflict, Waits}

module _ (d : Drives) (n : ℕ) where
  abbrev pub pick_table : ℕ → State → List Case
  pick_table p s =
      SizesWrong d s ⇒ 1
      ∷ Spoiled d n s ⇒ 9
      -- there is no such place
      ∷ (n ≤ p) ⇒ 8
      -- the command there is finished
      ∷ Finished (get_or s.table p no_record) ⇒ 7
      -- an earlier unfinished command conflicts with it
      ∷ Waits s.table p ⇒ 6
      ∷ Otherwise ⇒ 0
      ∷ []

  -- both runs test 1 and 9 first
  abbrev pub run_table : State → List Case
  run_table s = SizesWrong d s ⇒ 1 ∷ Spoiled d n s ⇒ 9 ∷ Otherwise ⇒ 0 ∷ []

abbrev pub PickExactlyWhen : ℕ → Type 0
PickExactlyWhen N =
    (d : Drives) (n p : ℕ) (s : State) (k : ℕ) (s' : State)
    → PickGives d n p s k s'
    → (k ≡ N) ↔ Given (pick_table d n p s) N

-- of either run: `go` is what it would come to
abbrev pub RunExactlyWhen : ℕ → Type 0
RunExactlyWhen N =
    (d : Drives) (n : ℕ) (go : State → Tally) (s : State) (r : Ran) (s' : State)
    → RunGives d n go s r s'
    → (r.number ≡ N) ↔ Given (run_table d n s) N

-- what number 6 asks is decided by ranges, and comes to: one of the two writes a byte or a sector that the other reads or writes
abbrev pub ConflictExactlyWhen : Type 0
ConflictExactlyWhen = (r s : Record) → (conflict r s ≡ true) ↔ Conflict r s

-- Two commands of different units conflict through memory alone, data and status bytes, whatever their sectors: one of the two writes a byte of
-- memory that the other reads or writes.
abbrev pub MeetInMemory : Record → Record → Type 0
MeetInMemory r s =
    (x : ℕ)
    × ((WritesAt r memory x × (ReadsAt s memory x ⊎ WritesAt s memory x)) ⊎ (WritesAt s memory x × (ReadsAt r memory x ⊎ WritesAt r memory x)))

abbrev pub ConflictOfTwoUnits : Type 0
ConflictOfTwoUnits = (r s : Record) → r.unit ≢ s.unit → (conflict r s ≡ true) ↔ MeetInMemory r s
