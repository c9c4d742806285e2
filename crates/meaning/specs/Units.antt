-- Examples with several drives, on both sides of each line (Line 64 to 76), as rows of one table under one statement, `unit_rows`, which holds
-- by computing the definitions. Units 0 and 1 have drives like the bench's, unit 1 a protected one; units 2 and 3 are absent.
use Rattle.std.specs.Prelude.{◌≡◌, refl, ℕ, ◌*◌, true, false, List, [], ◌∷◌, ◌++◌, map, length, get_or, drop, replicate}
use Rattle.meaning.specs.declared.Drive.{Drive}
use Rattle.meaning.specs.declared.LentDrives.{LentDrives}
use Rattle.meaning.specs.declared.Copied.{Copied}
use Rattle.meaning.specs.declared.Record.{Record}
use Rattle.meaning.specs.Store.{lent, images}
use Rattle.meaning.specs.State.{State, state_of}
use Rattle.meaning.specs.Sectors.{sector_bytes, maximum_on, per_cylinder, sector_count, largest_sector, sector_number, maxima_right, image_right}
use Rattle.meaning.specs.Drives.{no_drive, drive_of, drives_of}
use Rattle.meaning.specs.Look.{look_number}
use Rattle.meaning.specs.Fields.{byte_of}
use Rattle.meaning.specs.Ranges.{crosses}
use Rattle.meaning.specs.Links.{no_links}
use Rattle.meaning.specs.Code.{copied_at, link_count, links_in, code_of, fitted_of, early_code, links_read}
use Rattle.meaning.specs.Walk.{record_of}
use Rattle.meaning.specs.Command.{steps_of, finished}
use Rattle.meaning.specs.Touch.{conflict}
use Rattle.meaning.specs.Step.{closing}
use Rattle.meaning.specs.Pick.{pick_number}
use Rattle.meaning.specs.Run.{run_number}
use Rattle.meaning.specs.Deck.{memory_bytes}
use Rattle.meaning.specs.Bench.{no_records}
use Rattle.meaning.specs.Starred.{◌≔◌, deck_record}
use Rattle.meaning.specs.LastHead.{open_drive}
use Rattle.meaning.specs.Scatter.{drive}

-- ---- drives

-- units 0 and 1; the others are absent
abbrev pub two : Drive → Drive → LentDrives
two d e = record { units = d ∷ e ∷ no_drive ∷ no_drive ∷ [] }

-- the same drive, taken away: what is lent for it is as it was
abbrev pub away : Drive → Drive
away d = record { cylinder = d.cylinder; head = d.head; sector = d.sector; last_sector = d.last_sector; protected = d.protected; present = false }

-- unit 1 is protected; both are open
abbrev pub standing : LentDrives
standing = two (drive false) (drive true)

abbrev pub both_open : LentDrives
both_open = two (drive false) (drive false)

-- ---- what a row asks

-- a command of a unit by its byte 0, its sector on cylinder 0 and head 0, and its count; its data is at 400H
abbrev pub command : ℕ → ℕ → ℕ → ℕ → Copied
command unit byte0 sector count =
    record {
      byte0 = byte0;
      subfunction = 0;
      unit = unit;
      byte6 = 0;
      head = 0;
      sector = sector;
      count = count;
      cylinder = 0;
      address = 0x400;
      next = 0;
    }

-- a record of one sector, sector 0 of a unit, with code 00: its IOPB, its data address and its byte 0
abbrev pub accepted : ℕ → ℕ → ℕ → ℕ → Record
accepted unit iopb address byte0 =
    record { iopb = iopb; address = address; sector = 0; taken = 0; ranges = 0; count = 1; unit = unit; byte0 = byte0; code = 0; fitted = 0; list = no_links }

pub data Asks : Type 0 where
  -- the code of a command and status byte 2 after its close
  closed : LentDrives → Copied → Asks
  -- the unit of an IOPB with this byte 5
  unit_of : ℕ → Asks
  -- the number of a first pick at place 1 of a table of two commands
  pick_one : Record → Record → Asks
  -- the number of a run of one command
  run_one : LentDrives → Record → Asks
  -- the numbers of a run of no commands and of a look at sector 0 of unit 0, with an image of so many sectors for unit 1
  over_one : LentDrives → ℕ → Asks
  -- the number of a look at a sector of a unit, with an image of so many sectors for unit 1
  looked : ℕ → ℕ → ℕ → Asks

-- an image of so many sectors, and a board whose unit 1 has it
abbrev image : ℕ → List ℕ
image sectors = replicate (sector_bytes * sectors) 0

abbrev lent_images : ℕ → List (List ℕ)
lent_images sectors = images (image 32) (image sectors) [] []

abbrev state_with : ℕ → List Record → State
state_with sectors rs = state_of (replicate memory_bytes 0) (lent_images sectors) (rs ++ drop (length rs) no_records)

abbrev closed_on : LentDrives → Record → List ℕ
closed_on l r = r.code ∷ get_or (closing (drives_of l) r) 2 0 ∷ []

abbrev pub answer : Asks → List ℕ
answer (closed l c) = closed_on l (record_of c 0 (drive_of l c.unit) (replicate memory_bytes 0))
answer (unit_of byte5) = (copied_at (deck_record (5 ≔ byte5 ∷ [])) 0).unit ∷ []
answer (pick_one r q) = pick_number (drives_of both_open) 2 1 (state_with 32 (r ∷ q ∷ [])) ∷ []
answer (run_one l r) = run_number (drives_of l) 1 (state_with 32 (r ∷ [])) ∷ []
answer (over_one l n) = run_number (drives_of l) 0 (state_with n []) ∷ look_number (drives_of l) 0 0 (lent [] (lent_images n)) ∷ []
answer (looked u k n) = look_number (drives_of standing) u k (lent [] (lent_images n)) ∷ []

pub record Example : Type 0 where
  pub asks : Asks
  pub gives : List ℕ

infix 69 ◌⇒◌
abbrev pub ◌⇒◌ : Asks → List ℕ → Example
a ⇒ ns = record { asks = a; gives = ns }

abbrev pub Answered : List Example → Type 0
Answered rs = map (λ (r : Example). answer r.asks) rs ≡ map (λ (r : Example). r.gives) rs

-- ---- the rows

-- Line 64 to 70: the code, and status byte 2
abbrev pub codes : List Example
codes =
    -- Line 64: a Read Data of units 0 to 5 and 7
    closed standing (command 0 2 0 1) ⇒ (0x00 ∷ 0x03 ∷ [])
    ∷ closed standing (command 1 2 0 1) ⇒ (0x00 ∷ 0x13 ∷ [])
    ∷ closed standing (command 2 2 0 1) ⇒ (0x42 ∷ 0x03 ∷ [])
    ∷ closed standing (command 3 2 0 1) ⇒ (0x42 ∷ 0x03 ∷ [])
    ∷ closed standing (command 4 2 0 1) ⇒ (0x42 ∷ 0x03 ∷ [])
    ∷ closed standing (command 5 2 0 1) ⇒ (0x42 ∷ 0x03 ∷ [])
    ∷ closed standing (command 7 2 0 1) ⇒ (0x42 ∷ 0x03 ∷ [])
    -- and of unit 1 where its protected drive was taken away (Board 11)
    ∷ closed (two (drive false) (away (drive true))) (command 1 2 0 1) ⇒ (0x42 ∷ 0x03 ∷ [])
    -- Line 65: a Write Data
    ∷ closed standing (command 0 1 0 1) ⇒ (0x00 ∷ 0x03 ∷ [])
    ∷ closed standing (command 1 1 0 1) ⇒ (0x90 ∷ 0x13 ∷ [])
    ∷ closed standing (command 2 1 0 1) ⇒ (0x42 ∷ 0x03 ∷ [])
    -- Line 66: a No Operation
    ∷ closed standing (command 0 0 0 0) ⇒ (0x00 ∷ 0x03 ∷ [])
    ∷ closed standing (command 1 0 0 0) ⇒ (0x00 ∷ 0x13 ∷ [])
    ∷ closed standing (command 2 0 0 0) ⇒ (0x00 ∷ 0x03 ∷ [])
    ∷ closed standing (command 7 0 0 0) ⇒ (0x00 ∷ 0x03 ∷ [])
    -- Line 67: command 5
    ∷ closed standing (command 1 5 0 0) ⇒ (0x14 ∷ 0x13 ∷ [])
    ∷ closed standing (command 2 5 0 0) ⇒ (0x14 ∷ 0x03 ∷ [])
    -- Line 68: count 0
    ∷ closed standing (command 2 2 0 0) ⇒ (0x42 ∷ 0x03 ∷ [])
    ∷ closed standing (command 1 2 0 0) ⇒ (0x13 ∷ 0x13 ∷ [])
    -- Line 69: a smaller drive on unit 1
    ∷ closed (two (drive false) (open_drive 0 0 3 3)) (command 1 2 3 1) ⇒ (0x00 ∷ 0x03 ∷ [])
    ∷ closed (two (drive false) (open_drive 0 0 3 3)) (command 1 2 4 1) ⇒ (0x12 ∷ 0x03 ∷ [])
    ∷ closed (two (drive false) (open_drive 0 0 3 3)) (command 0 2 4 1) ⇒ (0x00 ∷ 0x03 ∷ [])
    -- Line 70: bits 7-3 of byte 5 are ignored
    ∷ unit_of 0x08 ⇒ (0 ∷ [])
    ∷ unit_of 0xF9 ⇒ (1 ∷ [])
    ∷ unit_of 0x04 ⇒ (4 ∷ [])
    ∷ []

-- Line 71 to 76: numbers
abbrev pub numbers : List Example
numbers =
    -- Line 71: a write of sector 0 of unit 0, and a read of sector 0 of unit 1, of unit 0
    pick_one (accepted 0 0 0x400 1) (accepted 1 32 0x800 2) ⇒ (0 ∷ [])
    ∷ pick_one (accepted 0 0 0x400 1) (accepted 0 32 0x800 2) ⇒ (6 ∷ [])
    -- Line 72: their data meets
    ∷ pick_one (accepted 0 0 0x400 1) (accepted 1 32 0x400 2) ⇒ (6 ∷ [])
    -- Line 73: an image of a wrong size, and a drive that cannot be, for a unit that is there, and for an absent one
    ∷ over_one both_open 33 ⇒ (1 ∷ 1 ∷ [])
    ∷ over_one (two (drive false) (away (drive false))) 33 ⇒ (0 ∷ 0 ∷ [])
    ∷ over_one (two (drive false) (open_drive 1 1 7 8)) 32 ⇒ (1 ∷ 1 ∷ [])
    ∷ over_one (two (drive false) (away (open_drive 1 1 7 8))) 32 ⇒ (0 ∷ 0 ∷ [])
    -- Line 74: looks
    ∷ looked 1 31 32 ⇒ (0 ∷ [])
    ∷ looked 1 32 32 ⇒ (10 ∷ [])
    ∷ looked 2 32 32 ⇒ (11 ∷ [])
    ∷ looked 4 0 32 ⇒ (11 ∷ [])
    ∷ looked 255 0 32 ⇒ (11 ∷ [])
    ∷ looked 2 0 33 ⇒ (1 ∷ [])
    -- Line 75: records of a read, of a No Operation
    ∷ run_one standing (accepted 1 0 0x400 2) ⇒ (0 ∷ [])
    ∷ run_one standing (accepted 2 0 0x400 2) ⇒ (9 ∷ [])
    ∷ run_one standing (accepted 4 0 0x400 2) ⇒ (9 ∷ [])
    ∷ run_one standing (accepted 255 0 0x400 2) ⇒ (9 ∷ [])
    ∷ run_one standing (accepted 255 0 0x400 0) ⇒ (0 ∷ [])
    -- Line 76: unit 1 is taken away; unit 0 is protected
    ∷ run_one (two (drive false) (away (drive true))) (accepted 1 0 0x400 2) ⇒ (9 ∷ [])
    ∷ run_one (two (drive true) (drive false)) (accepted 0 0 0x400 1) ⇒ (9 ∷ [])
    ∷ []

pub unit_rows : Answered (codes ++ numbers)
unfolding byte_of copied_at link_count links_in code_of fitted_of early_code links_read record_of closing maxima_right image_right maximum_on per_cylinder sector_count largest_sector sector_number drive_of look_number run_number pick_number conflict crosses steps_of finished
unit_rows = refl
