-- The two tests for an end, of the drive and of memory. Each answers whether the end is passed, and how many whole sectors would have
-- fitted from the same start on (Code 9, 11 and 17). Nothing else says where sectors or data pass an end.
use Rattle.std.specs.Prelude.{ℕ, ◌+◌, ◌-◌, ◌/◌, min, ltb}
use Rattle.meaning.specs.declared.Drive.{Drive}
use Rattle.meaning.specs.declared.End.{End}
use Rattle.meaning.specs.Ranges.{Range}
use Rattle.meaning.specs.Sectors.{sector_bytes, sector_count}

-- so many sectors from a first one on: what would have fitted are the drive's sectors from there on
abbrev pub drive_end : Drive → ℕ → ℕ → End
drive_end d first count = record { past = ltb (sector_count d) (first + count); fitted = sector_count d - first }

-- a range in a memory of n bytes: what would have fitted are the whole pieces of 512 bytes from its address to the end; `-` stops at 0,
-- so an address past the end counts as 0
abbrev pub memory_end : ℕ → Range → End
memory_end n r = record { past = ltb n (r.from + r.many); fitted = (n - r.from) / sector_bytes }

-- as one byte: 255 where it is more (Code 18)
abbrev pub most_posted : ℕ
most_posted = 255

abbrev pub as_byte : ℕ → ℕ
as_byte fitted = min fitted most_posted
