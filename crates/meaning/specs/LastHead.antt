-- Examples with a shorter last head, worked by computing the definitions: what the bench's drive, whose heads are equal, does not show
-- (Line 27 to 38). Two cylinders of three heads; heads 0 and 1 have 5 sectors, the last head has 2: so 12 sectors on a cylinder, 24 in all.
use Rattle.std.specs.Prelude.{◌≡◌, refl, ℕ, ◌*◌, true, false, List, [], ◌∷◌, map, replicate}
use Rattle.std.proofs.Math.Option.{Option, some, none}
use Rattle.meaning.specs.declared.Drive.{Drive}
use Rattle.meaning.specs.declared.Place.{Place}
use Rattle.meaning.specs.Store.{lent, images}
use Rattle.meaning.specs.Drives.{alone, drive_of, drives_of}
use Rattle.meaning.specs.State.{state_of, most_commands}
use Rattle.meaning.specs.Sectors.{sector_bytes, maximum_on, per_cylinder, sector_count, largest_sector, sector_number, maxima_right, image_right}
use Rattle.meaning.specs.Place.{place_at, number_of, place_after, placed}
use Rattle.meaning.specs.Look.{look_number}
use Rattle.meaning.specs.Code.{code_of}
use Rattle.meaning.specs.Command.{no_record}
use Rattle.meaning.specs.Run.{run_number}

-- a drive by its maxima: of cylinders, of heads, of sectors, and of sectors on the last head
abbrev pub open_drive : ℕ → ℕ → ℕ → ℕ → Drive
open_drive cylinder head sector last = record { cylinder = cylinder; head = head; sector = sector; last_sector = last; protected = false; present = true }

abbrev pub short_last : Drive
short_last = open_drive 1 2 4 1

-- what a row asks
pub data Asks : Type 0 where
  -- the code of a Read Data from this place on, of so many sectors, to address 400H of 4,096 bytes
  code_from : Drive → Place → ℕ → Asks
  -- the number of the sector at a place, and that of the place after it, if there is one
  number_at : Drive → Place → Asks
  number_after : Drive → Place → Asks
  -- the call for the place of a number: its number, cylinder, head and sector
  place_for : Drive → ℕ → Asks
  -- the numbers of a run, and of a look at sector 0, over an image of so many sectors
  over : Drive → ℕ → Asks

abbrev maybe_number : Drive → Option Place → List ℕ
maybe_number d none = []
maybe_number d (some p) = number_of d p ∷ []

abbrev pub answer : Asks → List ℕ
answer (code_from d p n) =
    code_of
    (record {
      byte0 = 2;
      subfunction = 0;
      unit = 0;
      byte6 = 0;
      head = p.head;
      sector = p.sector;
      count = n;
      cylinder = p.cylinder;
      address = 0x400;
      next = 0;
    })
    d 4096 []
    ∷ []
answer (number_at d p) = number_of d p ∷ []
answer (number_after d p) = maybe_number d (place_after d p)
answer (place_for d n) = let r = placed d n in r.number ∷ r.place.cylinder ∷ r.place.head ∷ r.place.sector ∷ []
answer (over d n) =
    let is = images (replicate (sector_bytes * n) 0) [] [] [] in
    let ds = drives_of (alone d) in
    run_number ds 0 (state_of [] is (replicate most_commands no_record)) ∷ look_number ds 0 0 (lent [] is) ∷ []

pub record Example : Type 0 where
  pub asks : Asks
  pub gives : List ℕ

infix 69 ◌⇒◌
abbrev pub ◌⇒◌ : Asks → List ℕ → Example
a ⇒ n = record { asks = a; gives = n }

abbrev pub Answered : List Example → Type 0
Answered rs = map (λ (r : Example). answer r.asks) rs ≡ map (λ (r : Example). r.gives) rs

abbrev pub rows : List Example
rows =
    -- Line 27, 28: the drive's last sector; one more
    code_from short_last (place_at 1 2 1) 1 ⇒ (0x00 ∷ [])
    ∷ code_from short_last (place_at 1 2 1) 2 ⇒ (0x10 ∷ [])
    -- Line 29 to 31: sector 2 on the last head, and on another; sector 5 on another
    ∷ code_from short_last (place_at 0 2 2) 1 ⇒ (0x12 ∷ [])
    ∷ code_from short_last (place_at 0 1 2) 1 ⇒ (0x00 ∷ [])
    ∷ code_from short_last (place_at 0 1 5) 1 ⇒ (0x12 ∷ [])
    -- Line 32: a transfer over the end of the short head
    ∷ code_from short_last (place_at 0 2 1) 4 ⇒ (0x00 ∷ [])
    -- Line 33, 34: after the last sector of a head comes the next head; after that of the last head, the next cylinder; then nothing
    ∷ number_at short_last (place_at 0 1 4) ⇒ (9 ∷ [])
    ∷ number_after short_last (place_at 0 1 4) ⇒ (10 ∷ [])
    ∷ number_at short_last (place_at 0 2 0) ⇒ (10 ∷ [])
    ∷ number_after short_last (place_at 0 2 1) ⇒ (12 ∷ [])
    ∷ number_at short_last (place_at 1 0 0) ⇒ (12 ∷ [])
    ∷ number_after short_last (place_at 1 2 1) ⇒ []
    -- Line 35: the place of the last number, and one more
    ∷ place_for short_last 23 ⇒ (0 ∷ 1 ∷ 2 ∷ 1 ∷ [])
    ∷ place_for short_last 24 ⇒ (10 ∷ 0 ∷ 0 ∷ 0 ∷ [])
    -- Line 36: an image of 24 sectors, one less, one more, and as many as equal heads would have
    ∷ over short_last 24 ⇒ (0 ∷ 0 ∷ [])
    ∷ over short_last 23 ⇒ (1 ∷ 1 ∷ [])
    ∷ over short_last 25 ⇒ (1 ∷ 1 ∷ [])
    ∷ over short_last 30 ⇒ (1 ∷ 1 ∷ [])
    -- Line 37: a last head longer than the others, with an image of the size that its numbers would have; the place of a number there
    ∷ over (open_drive 1 2 4 5) 32 ⇒ (1 ∷ 1 ∷ [])
    ∷ place_for (open_drive 1 2 4 5) 0 ⇒ (1 ∷ 0 ∷ 0 ∷ 0 ∷ [])
    -- Line 38: one head only, which is the last
    ∷ code_from (open_drive 3 0 5 2) (place_at 3 0 2) 1 ⇒ (0x00 ∷ [])
    ∷ code_from (open_drive 3 0 5 2) (place_at 3 0 3) 1 ⇒ (0x12 ∷ [])
    ∷ over (open_drive 3 0 5 2) 12 ⇒ (0 ∷ 0 ∷ [])
    ∷ []

pub last_head_rows : Answered rows
unfolding maximum_on per_cylinder sector_count largest_sector sector_number maxima_right image_right drive_of place_after placed look_number code_of run_number
last_head_rows = refl
