-- What the tables of the walk, of a pick and of a run say of each of their numbers, written out. `WalkExactlyWhen`, `PickExactlyWhen` and
-- `RunExactlyWhen` say the same of every number at once.
use Rattle.std.specs.Prelude.{◌≡◌, ◌↔◌, ℕ, ◌≤◌, List, get_or}
use Rattle.meaning.specs.Drives.{Drives}
use Rattle.meaning.specs.declared.Record.{Record}
use Rattle.meaning.specs.declared.Walked.{Walked}
use Rattle.meaning.specs.declared.Ran.{Ran}
use Rattle.meaning.specs.Store.{memory}
use Rattle.meaning.specs.State.{State, most_commands}
use Rattle.meaning.specs.Walk.{WalkGives}
use Rattle.meaning.specs.Command.{no_record}
use Rattle.meaning.specs.Pick.{PickGives}
use Rattle.meaning.specs.Run.{Tally, RunGives}
use Rattle.meaning.specs.Table.{Otherwise}
use Rattle.meaning.specs.Conditions.{Odd, SizesWrong, Finished, Spoiled, Waits}
use Rattle.promises.specs.WalkNumbers.{OutOfMemory, SharesEarlier, Ends, Comes}

-- neither 1 nor 2 is given, and X
abbrev pub Past2 : Drives → ℕ → State → Type 0 → Type 0
Past2 d start s X = (¬ SizesWrong d s) × ((¬ Odd start) × X)

-- m is memory; k is the place of the IOPB at which the number is given, the first place being 0
pub record WalkByNumber (m : List ℕ) (d : Drives) (start : ℕ) (s : State) (w : Walked) : Type 0 where
  -- sizes are wrong
  pub walk_1_exactly_when : (w.number ≡ 1) ↔ SizesWrong d s
  -- the first address is odd
  pub walk_2_exactly_when : (w.number ≡ 2) ↔ ((¬ SizesWrong d s) × Odd start)
  -- the chain goes past 32 commands
  pub walk_5_exactly_when : (w.number ≡ 5) ↔ Past2 d start s ((k : ℕ) × Comes m start k × (most_commands ≤ k))
  -- an IOPB has not all its 30 bytes in memory
  pub walk_3_exactly_when : (w.number ≡ 3)
      ↔ Past2 d start s ((k : ℕ) × Comes m start k × ((¬ (most_commands ≤ k)) × OutOfMemory m start k))
  -- an IOPB shares a byte with an earlier one of the chain
  pub walk_4_exactly_when : (w.number ≡ 4)
      ↔ Past2 d start s
      ((k : ℕ) × Comes m start k × ((¬ (most_commands ≤ k)) × ((¬ OutOfMemory m start k) × SharesEarlier m start k)))
  -- the chain has come to its end
  pub walk_0_exactly_when : (w.number ≡ 0)
      ↔ Past2 d start s
      ((k : ℕ)
      × Comes m start k
      × ((¬ (most_commands ≤ k)) × ((¬ OutOfMemory m start k) × ((¬ SharesEarlier m start k) × Ends m start k))))

abbrev pub EachWalkNumber : Type 0
EachWalkNumber =
    (d : Drives) (start : ℕ) (s : State) (w : Walked) (t' : List Record)
    → WalkGives d start s w t'
    → WalkByNumber (s.store memory) d start s w

-- r is the record at the place picked
pub record PickByNumber (d : Drives) (n p : ℕ) (s : State) (r : Record) (k : ℕ) : Type 0 where
  -- sizes are wrong
  pub pick_1_exactly_when : (k ≡ 1) ↔ SizesWrong d s
  -- the table is spoiled
  pub pick_9_exactly_when : (k ≡ 9) ↔ ((¬ SizesWrong d s) × Spoiled d n s)
  -- there is no such place
  pub pick_8_exactly_when : (k ≡ 8) ↔ ((¬ SizesWrong d s) × ((¬ Spoiled d n s) × (n ≤ p)))
  -- the command there is finished
  pub pick_7_exactly_when : (k ≡ 7) ↔ ((¬ SizesWrong d s) × ((¬ Spoiled d n s) × ((¬ (n ≤ p)) × Finished r)))
  -- an earlier unfinished command conflicts with it
  pub pick_6_exactly_when : (k ≡ 6)
      ↔ ((¬ SizesWrong d s) × ((¬ Spoiled d n s) × ((¬ (n ≤ p)) × ((¬ Finished r) × Waits s.table p))))
  -- otherwise
  pub pick_0_exactly_when : (k ≡ 0)
      ↔ ((¬ SizesWrong d s)
      × ((¬ Spoiled d n s) × ((¬ (n ≤ p)) × ((¬ Finished r) × ((¬ Waits s.table p) × Otherwise)))))

abbrev pub EachPickNumber : Type 0
EachPickNumber =
    (d : Drives) (n p : ℕ) (s : State) (k : ℕ) (s' : State)
    → PickGives d n p s k s'
    → PickByNumber d n p s (get_or s.table p no_record) k

pub record RunByNumber (d : Drives) (n : ℕ) (s : State) (r : Ran) : Type 0 where
  pub run_1_exactly_when : (r.number ≡ 1) ↔ SizesWrong d s
  pub run_9_exactly_when : (r.number ≡ 9) ↔ ((¬ SizesWrong d s) × Spoiled d n s)
  pub run_0_exactly_when : (r.number ≡ 0) ↔ ((¬ SizesWrong d s) × ((¬ Spoiled d n s) × Otherwise))

abbrev pub EachRunNumber : Type 0
EachRunNumber =
    (d : Drives) (n : ℕ) (go : State → Tally) (s : State) (r : Ran) (s' : State)
    → RunGives d n go s r s'
    → RunByNumber d n s r
