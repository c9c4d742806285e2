-- What is lent for an absent unit has no say, in no reply of any call (Board 11): neither its maxima and its protect mark, nor its image.
use Rattle.std.specs.Prelude.{◌≡◌, ℕ, ◌<◌, true, List, get_or}
use Rattle.meaning.specs.declared.Drive.{Drive}
use Rattle.meaning.specs.declared.LentDrives.{LentDrives}
use Rattle.meaning.specs.declared.Record.{Record}
use Rattle.meaning.specs.Drives.{Drives, most_units, no_drive, drive_of, drives_of}
use Rattle.meaning.specs.Store.{memory, disk, Store}
use Rattle.meaning.specs.State.{state_in}
use Rattle.meaning.specs.Sizes.{store_wrong}
use Rattle.meaning.specs.Look.{look_number}
use Rattle.meaning.specs.Walk.{walk_reply, walk_leaves}
use Rattle.meaning.specs.Pick.{pick_number}
use Rattle.meaning.specs.Run.{run_number}
use Rattle.meaning.specs.Conditions.{Present}

-- ---- drives

-- what is lent for a unit, whether it is there or not
abbrev pub lent_for : LentDrives → ℕ → Drive
lent_for l u = get_or l.units u no_drive

-- the same units are there, each with the same drive
pub record SameThere (l l' : LentDrives) : Type 0 where
  pub present : (u : ℕ) → u < most_units → (lent_for l u).present ≡ (lent_for l' u).present
  pub drives : (u : ℕ) → u < most_units → (lent_for l u).present ≡ true → lent_for l u ≡ lent_for l' u

-- then they are the same drives to every rule, so whatever holds with the one, as a contract, holds with the other
pub record SameDrives (l l' : LentDrives) : Type 1 where
  pub on : (u : ℕ) → drive_of l u ≡ drive_of l' u
  pub replies : (P : Drives → Type 0) → P (drives_of l) → P (drives_of l')

abbrev pub AbsentDriveHasNoSay : Type 1
AbsentDriveHasNoSay = (l l' : LentDrives) → SameThere l l' → SameDrives l l'

-- ---- images

-- the same memory, and the same disk of each unit that is there
pub record SameStore (d : Drives) (s s' : Store) : Type 0 where
  pub bytes : s memory ≡ s' memory
  pub disks : (u : ℕ) → Present d u → s (disk u) ≡ s' (disk u)

-- then every number is the same, and so is all that a walk gives; t is a table
pub record SameNumbers (d : Drives) (s s' : Store) : Type 0 where
  pub store : store_wrong d s ≡ store_wrong d s'
  pub look : (u n : ℕ) → look_number d u n s ≡ look_number d u n s'
  pub walk : (start : ℕ) (t : List Record) → walk_reply d start (state_in s t) ≡ walk_reply d start (state_in s' t)
  pub records : (start : ℕ) (t : List Record) → walk_leaves d start (state_in s t) ≡ walk_leaves d start (state_in s' t)
  pub pick : (n p : ℕ) (t : List Record) → pick_number d n p (state_in s t) ≡ pick_number d n p (state_in s' t)
  pub run : (n : ℕ) (t : List Record) → run_number d n (state_in s t) ≡ run_number d n (state_in s' t)

abbrev pub AbsentImageHasNoSay : Type 0
AbsentImageHasNoSay = (d : Drives) (s s' : Store) → SameStore d s s' → SameNumbers d s s'
