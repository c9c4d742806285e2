-- The drives, asked by unit (Board 4 and 11): which units are there, and what drive each has.
use Rattle.std.specs.Prelude.{◌≡◌, ℕ, ◌≤◌, Bool, false, cond, [], ◌∷◌, get_or, ltb}
use Rattle.std.proofs.Common.{ap, le-ltb}
use Rattle.meaning.specs.declared.Drive.{Drive}
use Rattle.meaning.specs.declared.LentDrives.{LentDrives}

-- units are 0 to 3 (Board 4)
abbrev pub most_units : ℕ
most_units = 4

-- Drives are asked by unit, as a store is by space. A unit above 3 is always absent.
pub record Drives : Type 0 where
  pub on : ℕ → Drive
  pub absent_above : (u : ℕ) → most_units ≤ u → (on u).present ≡ false

-- what an absent unit counts as, wherever a rule asks for its drive: maxima of 0, and open (Board 11)
abbrev pub no_drive : Drive
no_drive = record { cylinder = 0; head = 0; sector = 0; last_sector = 0; protected = false; present = false }

-- a drive that is there; nothing is looked at of one that is absent
abbrev pub there : Drive → Drive
there d = cond d.present d no_drive

-- unit 0 alone
abbrev pub alone : Drive → LentDrives
alone d = record { units = d ∷ no_drive ∷ no_drive ∷ no_drive ∷ [] }

-- the drive of a unit, out of what a caller lends
unfoldable pub drive_of : LentDrives → ℕ → Drive
drive_of l u = cond (ltb u most_units) (there (get_or l.units u no_drive)) no_drive

pub above_absent : (l : LentDrives) (u : ℕ) → most_units ≤ u → (drive_of l u).present ≡ false
unfolding drive_of
above_absent l u h = ap (λ (b : Bool). (cond b (there (get_or l.units u no_drive)) no_drive).present) (le-ltb u most_units h)

abbrev pub drives_of : LentDrives → Drives
drives_of l = record { on = drive_of l; absent_above = above_absent l }
