-- The walk: for each of its numbers exactly when it is given (Walk 4 to 10), and what an accepted chain leaves in the table (Record 4, 7).
-- d are the drives, s the state before the walk, w what it answers and t' the table after it.
use Rattle.std.specs.Prelude.{◌≡◌, ◌↔◌, ◌≢◌, ◌⊎◌, ℕ, zero, suc, ◌+◌, ◌≤◌, ◌<◌, List, [], ◌∷◌, length, get_or}
use Rattle.meaning.specs.Drives.{Drives}
use Rattle.meaning.specs.declared.Record.{Record}
use Rattle.meaning.specs.declared.Walked.{Walked}
use Rattle.meaning.specs.Store.{memory}
use Rattle.meaning.specs.State.{State, most_commands}
use Rattle.meaning.specs.Fields.{iopb_bytes, chen, next_address}
use Rattle.meaning.specs.Code.{copied_at}
use Rattle.meaning.specs.Walk.{record_of, WalkGives}
use Rattle.meaning.specs.Command.{no_record}
use Rattle.meaning.specs.Table.{Case, ◌⇒◌, Given, NoneOf}
use Rattle.meaning.specs.Conditions.{Odd, Shares, SizesWrong}

-- m is memory
module _ (m : List ℕ) (start : ℕ) where
  -- the address of the k-th IOPB, the first being 0, as far as each names a next one
  abbrev pub reached : ℕ → ℕ
  reached zero = start
  reached (suc k) = next_address m (reached k)

  -- its 30 bytes are not all in memory
  abbrev pub OutOfMemory : ℕ → Type 0
  OutOfMemory k = length m < reached k + iopb_bytes

  -- it shares a byte with an earlier IOPB of the chain
  abbrev pub SharesEarlier : ℕ → Type 0
  SharesEarlier k = (j : ℕ) × (j < k) × Shares (reached j) (reached k)

  -- CHEN is clear, or it is set and the next address is odd: the chain ends with this IOPB
  abbrev pub Ends : ℕ → Type 0
  Ends k = (chen m (reached k) ≢ 1) ⊎ Odd (next_address m (reached k))

  -- at each IOPB 5, 3, 4, and 0 where the chain ends; the 33rd is place 32
  abbrev pub at_iopb : ℕ → List Case
  at_iopb k =
      (most_commands ≤ k) ⇒ 5
      ∷ OutOfMemory k ⇒ 3
      ∷ SharesEarlier k ⇒ 4
      ∷ Ends k ⇒ 0
      ∷ []

  -- the chain comes to its k-th IOPB: at none before it does a case hold
  abbrev pub Comes : ℕ → Type 0
  Comes k = (j : ℕ) → j < k → NoneOf (at_iopb j)

  -- the first IOPB where a case holds gives N
  abbrev pub InTurn : ℕ → Type 0
  InTurn N = (k : ℕ) × Comes k × Given (at_iopb k) N

-- 1, then 2, then from IOPB to IOPB
abbrev pub walk_table : Drives → ℕ → State → ℕ → List Case
walk_table d start s N =
    SizesWrong d s ⇒ 1
    ∷ Odd start ⇒ 2
    ∷ InTurn (s.store memory) start N ⇒ N
    ∷ []

abbrev pub WalkExactlyWhen : ℕ → Type 0
WalkExactlyWhen N =
    (d : Drives) (start : ℕ) (s : State) (w : Walked) (t' : List Record)
    → WalkGives d start s w t'
    → (w.number ≡ N) ↔ Given (walk_table d start s N) N

-- the record of the IOPB at a, by its copied bytes and the drive of its own unit
abbrev pub walked_at : Drives → List ℕ → ℕ → Record
walked_at d m a = let c = copied_at m a in record_of c a (d.on c.unit) m

-- t' holds a record for each IOPB up to the k-th, where the chain ends; records past them are left alone
pub record Filled (m : List ℕ) (d : Drives) (start : ℕ) (t : List Record) (w : Walked) (t' : List Record) (k : ℕ) : Type 0 where
  pub comes : Comes m start k
  pub ends : Given (at_iopb m start k) 0
  pub commands : w.commands ≡ suc k
  pub records : (j : ℕ) → j ≤ k → get_or t' j no_record ≡ walked_at d m (reached m start j)
  pub others : (j : ℕ) → k < j → get_or t' j no_record ≡ get_or t j no_record
  pub size : length t' ≡ length t

abbrev pub WalkFills : Type 0
WalkFills =
    (d : Drives) (start : ℕ) (s : State) (w : Walked) (t' : List Record)
    → WalkGives d start s w t'
    → w.number ≡ 0
    → (k : ℕ) × Filled (s.store memory) d start s.table w t' k
