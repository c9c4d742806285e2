-- What a drive is: its sectors, their numbers and their places on the disk, and the size of an image.
-- A `Drive` holds zero-based maxima; what is counted here are numbers of things.
use Rattle.std.specs.Prelude.{ℕ, ◌+◌, ◌-◌, ◌*◌, Bool, ◌&&◌, cond, leb, eqb}
use Rattle.meaning.specs.declared.Drive.{Drive}
use Rattle.meaning.specs.Store.{disk, Area, area}

-- the bytes of a sector (Board 2)
abbrev pub sector_bytes : ℕ
sector_bytes = 512

-- the most bytes of an image (Board 2)
abbrev pub image_limit : ℕ
image_limit = 16_777_216

-- a count is one more than the maximum, since a maximum is counted from zero (Drive 1)
abbrev pub count_of : ℕ → ℕ
count_of maximum = maximum + 1

-- the sectors of a track, but for that of the last head of a cylinder, which has a maximum of its own (Drive 2)
abbrev pub per_track : Drive → ℕ
per_track d = count_of d.sector

abbrev pub per_last_track : Drive → ℕ
per_last_track d = count_of d.last_sector

-- the maximum sector of a head: the last head is the one whose number is the maximum head, also where it is the only one (Drive 2)
unfoldable pub maximum_on : Drive → ℕ → ℕ
maximum_on d head = cond (eqb head d.head) d.last_sector d.sector

-- the sectors of a cylinder: a whole track for each head before the last, and the last head's (Drive 7)
unfoldable pub per_cylinder : Drive → ℕ
per_cylinder d = d.head * per_track d + per_last_track d

-- how many sectors the drive has (Drive 4)
unfoldable pub sector_count : Drive → ℕ
sector_count d = count_of d.cylinder * per_cylinder d

-- the largest sector number: sectors are numbered from 0 (Drive 4)
unfoldable pub largest_sector : Drive → ℕ
largest_sector d = sector_count d - 1

-- a sector's number: whole cylinders before it, whole tracks before it on its cylinder, and sectors before it on its track
-- (Drive 3)
unfoldable pub sector_number : Drive → ℕ → ℕ → ℕ → ℕ
sector_number d cylinder head sector = cylinder * per_cylinder d + head * per_track d + sector

-- sector n of a unit lies on its disk from byte 512 n on: nothing else says where a sector is (Drive 5)
abbrev pub on_disk : ℕ → ℕ → Area
on_disk u n = area (disk u) (sector_bytes * n) sector_bytes

-- a drive that can be: its last head has no more sectors than the others (Size 5)
unfoldable pub maxima_right : Drive → Bool
maxima_right d = leb d.last_sector d.sector

-- an image of n bytes for a drive that can be: it is within its limit, and has exactly the bytes of the drive's sectors (Size 2, 3 and 5)
unfoldable pub image_right : Drive → ℕ → Bool
image_right d n = maxima_right d && (leb n image_limit && eqb n (sector_bytes * sector_count d))
