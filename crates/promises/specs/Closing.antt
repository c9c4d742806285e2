-- What the four status bytes hold after the last step of a command, bit by bit (Step 6 to 9). d are the drives, l drives as they are lent, r
-- the record of the command, s memory and disks before the step.
use Rattle.std.specs.Prelude.{◌≡◌, ◌↔◌, ◌≢◌, ℕ, ◌+◌, ◌<◌, true, false, List, get_or}
use Rattle.meaning.specs.declared.LentDrives.{LentDrives}
use Rattle.meaning.specs.Drives.{Drives, most_units, drives_of}
use Rattle.meaning.specs.declared.Copied.{Copied}
use Rattle.meaning.specs.declared.Record.{Record}
use Rattle.meaning.specs.Store.{memory, Store}
use Rattle.meaning.specs.Fields.{bit}
use Rattle.meaning.specs.Walk.{record_of}
use Rattle.meaning.specs.Step.{step}
use Rattle.promises.specs.AbsentUnits.{lent_for}
use Rattle.promises.specs.Fitted.{Told}
use Rattle.promises.specs.StepMoves.{MayStep, Last}

-- `byte` gives bytes 0 to 3; bit 7 of byte 0 is ERRS, bit 6 DONE, and its other bits are those of the copied byte 0
pub record StatusBytes (d : Drives) (r : Record) (byte : ℕ → ℕ) : Type 0 where
  pub errs : (bit 7 (byte 0) ≡ 1) ↔ (r.code ≢ 0)
  pub done : bit 6 (byte 0) ≡ 1
  pub copied : (k : ℕ) → k < 6 → bit k (byte 0) ≡ bit k r.byte0
  pub one_byte : byte 0 < 256
  pub code : byte 1 ≡ r.code
  pub unprotected : (d.on r.unit).protected ≡ false → byte 2 ≡ 0x03
  pub protected : (d.on r.unit).protected ≡ true → byte 2 ≡ 0x13
  pub internal : byte 3 ≡ r.fitted

abbrev pub ClosingBytes : Type 0
ClosingBytes =
    (d : Drives) (r : Record) (s : Store)
    → MayStep d r s
    → Last r
    → StatusBytes d r (λ j. get_or (step d r s memory) (r.iopb + j) 0)

-- a unit of what is lent is there and protected
abbrev pub ThereAndProtected : LentDrives → ℕ → Type 0
ThereAndProtected l u = (u < most_units) × (((lent_for l u).present ≡ true) × ((lent_for l u).protected ≡ true))

-- Byte 2 goes by the command's own unit, whatever its code and command: 13H exactly where that unit is there and protected, otherwise 03H.
abbrev pub ByteTwoExactlyWhen : Type 0
ByteTwoExactlyWhen =
    (l : LentDrives) (r : Record) (s : Store)
    → MayStep (drives_of l) r s
    → Last r
    → let byte2 = get_or (step (drives_of l) r s memory) (r.iopb + 2) 0 in
    ((byte2 ≡ 0x13) ↔ ThereAndProtected l r.unit) × ((byte2 ≡ 0x03) ↔ (¬ ThereAndProtected l r.unit))

-- Of a command that the walk filled in, with any of its steps taken since: when byte 3 is which number. c is what the walk copied from the
-- IOPB at a, m memory then.
abbrev pub ByteThreeExactlyWhen : Type 0
ByteThreeExactlyWhen =
    (c : Copied) (a : ℕ) (m : List ℕ) (d : Drives) (r : Record) (s : Store)
    → r.fitted ≡ (record_of c a (d.on c.unit) m).fitted
    → MayStep d r s
    → Last r
    → (N : ℕ)
    → (get_or (step d r s memory) (r.iopb + 3) 0 ≡ N) ↔ Told c (d.on c.unit) m N
