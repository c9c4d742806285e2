-- Examples at the edge of 16 and of 32 bits, worked by computing the definitions (Line 51 to 55): the largest drive, which has 2 to the 32
-- sectors, one that is a little smaller, and drives whose count or size would be that of the image if it were cut to fewer bits.
use Rattle.std.specs.Prelude.{refl, List, [], ◌∷◌}
use Rattle.meaning.specs.declared.Drive.{Drive}
use Rattle.meaning.specs.Sectors.{maximum_on, per_cylinder, sector_count, largest_sector, sector_number, maxima_right, image_right}
use Rattle.meaning.specs.Place.{place_at, place_after, placed}
use Rattle.meaning.specs.Drives.{drive_of}
use Rattle.meaning.specs.Look.{look_number}
use Rattle.meaning.specs.Run.{run_number}
use Rattle.meaning.specs.LastHead.{open_drive, number_at, number_after, place_for, over, Example, ◌⇒◌, Answered}

-- every maximum is the largest of its width: 65,536 cylinders of 256 heads of 256 sectors
abbrev pub largest_drive : Drive
largest_drive = open_drive 65535 255 255 255

abbrev pub rows : List Example
rows =
    -- Line 51: the largest drive's last place, and that nothing comes after it
    number_at largest_drive (place_at 65535 255 255) ⇒ (4_294_967_295 ∷ [])
    ∷ number_after largest_drive (place_at 65535 255 255) ⇒ []
    ∷ place_for largest_drive 4_294_967_295 ⇒ (0 ∷ 65535 ∷ 255 ∷ 255 ∷ [])
    -- Line 52: with a last head that is one sector shorter, the last number, and one more
    ∷ place_for (open_drive 65535 255 255 254) 4_294_901_759 ⇒ (0 ∷ 65535 ∷ 255 ∷ 254 ∷ [])
    ∷ place_for (open_drive 65535 255 255 254) 4_294_901_760 ⇒ (10 ∷ 0 ∷ 0 ∷ 0 ∷ [])
    -- Line 53: an empty image for the largest drive, whose count is 0 in 32 bits
    ∷ over largest_drive 0 ⇒ (1 ∷ 1 ∷ [])
    -- Line 54: an image of 32 sectors for a drive of 65,568, which are 32 in 16 bits; for one of 32
    ∷ over (open_drive 682 2 31 31) 32 ⇒ (1 ∷ 1 ∷ [])
    ∷ over (open_drive 0 0 31 31) 32 ⇒ (0 ∷ 0 ∷ [])
    -- Line 55: the same image for a drive of 8,388,640 sectors, whose bytes are those of 32 in 32 bits
    ∷ over (open_drive 52428 4 31 31) 32 ⇒ (1 ∷ 1 ∷ [])
    ∷ []

pub width_rows : Answered rows
unfolding maximum_on per_cylinder sector_count largest_sector sector_number maxima_right image_right drive_of place_after placed look_number run_number
width_rows = refl
