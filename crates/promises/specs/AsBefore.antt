-- With unit 0 there and units 1 to 3 absent everything is as it was when the board had one drive, but for status byte 2 of a command whose
-- unit is not 0 where drive 0 is protected: now 03H, before 13H. `base` is the board as it was, by the same definitions at other drives: a
-- transfer of a unit other than 0 got 42H, and all else went by drive 0, whatever the unit.
use Rattle.std.specs.Prelude.{◌≡◌, ◌↔◌, ◌≢◌, ◌⊎◌, ℕ, ◌+◌, ◌≤◌, Bool, true, false, cond, List, map, length, get_or, eqb}
use Rattle.std.proofs.Common.{arith, ne_eqb}
use Rattle.meaning.specs.declared.Drive.{Drive}
use Rattle.meaning.specs.declared.Record.{Record}
use Rattle.meaning.specs.declared.Ran.{Ran}
use Rattle.meaning.specs.Drives.{Drives, most_units, alone, drives_of}
use Rattle.meaning.specs.Store.{Space, memory, Store}
use Rattle.meaning.specs.State.{State}
use Rattle.meaning.specs.Sizes.{sizes_wrong}
use Rattle.meaning.specs.Look.{look_number, look_part, looked_part}
use Rattle.meaning.specs.Walk.{walk_reply, walk_leaves}
use Rattle.meaning.specs.Step.{closing, step}
use Rattle.meaning.specs.Pick.{spoiled, pick_number, picked, PickGives}
use Rattle.meaning.specs.Run.{Tally, run_number, by_picks, as_written, ran_to, run_reply, RunGives}

-- ---- the two boards

-- drive d with its present mark so
abbrev pub marked : Bool → Drive → Drive
marked b d =
    record {
      cylinder = d.cylinder;
      head = d.head;
      sector = d.sector;
      last_sector = d.last_sector;
      protected = d.protected;
      present = b;
    }

pub base_above : (d : Drive) (u : ℕ) → most_units ≤ u → (marked (eqb u 0) d).present ≡ false
base_above d u h = ne_eqb u 0 (λ e. omega arith)

abbrev pub base : Drive → Drives
base d = record { on = λ u. marked (eqb u 0) d; absent_above = base_above d }

abbrev pub today : Drive → Drives
today d = drives_of (alone d)

-- ---- numbers and records

-- a record without the number of its first sector, unless its unit is 0: of an absent unit that number is worked out on no drive of its own,
-- and nothing is moved by it
abbrev pub shown : Record → Record
shown r =
    record {
      iopb = r.iopb;
      address = r.address;
      sector = cond (eqb r.unit 0) r.sector 0;
      taken = r.taken;
      ranges = r.ranges;
      count = r.count;
      unit = r.unit;
      byte0 = r.byte0;
      code = r.code;
      fitted = r.fitted;
      list = r.list;
    }

-- the numbers and counts of every call are the same, and so are the records that a walk, a pick or a run leaves
pub record SameReplies (d : Drive) : Type 0 where
  pub sizes : (s : State) → sizes_wrong (today d) s ≡ sizes_wrong (base d) s
  pub spoils : (n : ℕ) (s : State) → spoiled (today d) n s ≡ spoiled (base d) n s
  pub look_number_lem : (u n : ℕ) (s : Store) → look_number (today d) u n s ≡ look_number (base d) u n s
  pub look_part_lem : (u n : ℕ) (s : Store) → look_part (today d) u n s ≡ look_part (base d) u n s
  pub looked_part_lem : (u n : ℕ) (s : Store) → looked_part (today d) u n s ≡ looked_part (base d) u n s
  pub walk : (start : ℕ) (s : State) → walk_reply (today d) start s ≡ walk_reply (base d) start s
  pub records : (start : ℕ) (s : State) → map shown (walk_leaves (today d) start s) ≡ map shown (walk_leaves (base d) start s)
  pub pick : (n p : ℕ) (s : State) → pick_number (today d) n p s ≡ pick_number (base d) n p s
  pub pick_table_lem : (n p : ℕ) (s : State) → (picked (today d) n p s).table ≡ (picked (base d) n p s).table
  pub run : (n : ℕ) (s : State) → run_number (today d) n s ≡ run_number (base d) n s

-- what a run answers and the table that it leaves are the same, of either run
pub record SameRun (d : Drive) (n : ℕ) (go go' : State → Tally) (s : State) : Type 0 where
  pub reply : run_reply (today d) n go s ≡ run_reply (base d) n go' s
  pub table : (ran_to (today d) n go s).state.table ≡ (ran_to (base d) n go' s).state.table

pub record SameRuns (d : Drive) : Type 0 where
  pub by_picks_lem : (n : ℕ) (ps : List ℕ) (s : State) → SameRun d n (by_picks (today d) n ps) (by_picks (base d) n ps) s
  pub as_written_lem : (n b : ℕ) (s : State) → SameRun d n (as_written (today d) n b) (as_written (base d) n b) s

-- ---- every byte

-- where drive 0 is open: whatever a pick or a run gives, it gave
pub record SameBytes (d : Drive) : Type 0 where
  pub pick : (n p : ℕ) (s : State) (k : ℕ) (s' : State) → PickGives (today d) n p s k s' ↔ PickGives (base d) n p s k s'
  pub by_picks_lem : (n : ℕ) (ps : List ℕ) (s : State) (r : Ran) (s' : State)
      → RunGives (today d) n (by_picks (today d) n ps) s r s' ↔ RunGives (base d) n (by_picks (base d) n ps) s r s'
  pub as_written_lem : (n b : ℕ) (s : State) (r : Ran) (s' : State)
      → RunGives (today d) n (as_written (today d) n b) s r s' ↔ RunGives (base d) n (as_written (base d) n b) s r s'

-- In any case: one step from the same store leaves the same store but for one byte of memory, status byte 2 of its command; and for a command
-- of unit 0 the very same. A later command may have that byte among its data and write it to the disk, so where drive 0 is protected no more
-- is said of the bytes that many steps leave.
pub record SameButByteTwo (d : Drive) : Type 0 where
  pub of_unit_0 : (r : Record) (s : Store) → r.unit ≡ 0 → step (today d) r s ≡ step (base d) r s
  pub lengths : (r : Record) (s : Store) (p : Space) → length (step (today d) r s p) ≡ length (step (base d) r s p)
  pub bytes : (r : Record) (s : Store) (p : Space) (x : ℕ) → ¬ ((p ≡ memory) × (x ≡ r.iopb + 2))
      → get_or (step (today d) r s p) x 0 ≡ get_or (step (base d) r s p) x 0
  -- the bytes of a close: byte 2 is another exactly where drive 0 is protected and the unit is not 0
  pub others : (r : Record) (j : ℕ) → j ≢ 2 → get_or (closing (today d) r) j 0 ≡ get_or (closing (base d) r) j 0
  pub same : (r : Record) → (r.unit ≡ 0) ⊎ (d.protected ≡ false) → closing (today d) r ≡ closing (base d) r
  pub now_03 : (r : Record) → r.unit ≢ 0 → get_or (closing (today d) r) 2 0 ≡ 0x03
  pub before_13 : (r : Record) → d.protected ≡ true → get_or (closing (base d) r) 2 0 ≡ 0x13

-- d is drive 0, and it is there
pub record AsItWas (d : Drive) : Type 0 where
  pub replies : SameReplies d
  pub runs : SameRuns d
  pub open_drive_lem : d.protected ≡ false → SameBytes d
  pub any_drive : SameButByteTwo d

abbrev pub AloneAsBefore : Type 0
AloneAsBefore = (d : Drive) → d.present ≡ true → AsItWas d
