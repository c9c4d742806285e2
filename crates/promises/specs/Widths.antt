-- Numbers of 32 bits (Drive 8): where the maxima have their widths, no product that a sector's number or the drive's count is made of needs
-- more, and no sector's number does. The count itself can, by one bit, and is a sum of two numbers that do not.
use Rattle.std.specs.Prelude.{◌≡◌, ℕ, ◌+◌, ◌*◌, ◌≤◌, ◌<◌}
use Rattle.meaning.specs.declared.Drive.{Drive}
use Rattle.meaning.specs.Sectors.{per_track, per_cylinder, sector_count, sector_number}
use Rattle.meaning.specs.Widths.{largest_drive}

-- the numbers of so many bits: 8 for a head or a sector, 16 for a cylinder (Board 3, IOPB 10 to 12)
abbrev pub Fits8 : ℕ → Type 0
Fits8 n = n < 256

abbrev pub Fits16 : ℕ → Type 0
Fits16 n = n < 65_536

abbrev pub Fits32 : ℕ → Type 0
Fits32 n = n < 4_294_967_296

-- the maxima of a drive, in their widths
pub record Widths (d : Drive) : Type 0 where
  pub of_cylinder : Fits16 d.cylinder
  pub of_head : Fits8 d.head
  pub of_sector : Fits8 d.sector
  pub of_last_sector : Fits8 d.last_sector

-- also for a cylinder and a head that are above their maxima: the walk works out their sector's number too (Record 4)
pub record Within32 (d : Drive) : Type 0 where
  pub tracks : (head : ℕ) → Fits8 head → Fits32 (head * per_track d)
  pub cylinders : (cylinder : ℕ) → Fits16 cylinder → Fits32 (cylinder * per_cylinder d)
  pub number : (cylinder head sector : ℕ) → Fits16 cylinder → Fits8 head → Fits8 sector → Fits32 (sector_number d cylinder head sector)
  pub count_is_sum : sector_count d ≡ d.cylinder * per_cylinder d + per_cylinder d
  pub count_at_most : sector_count d ≤ 4_294_967_296

abbrev pub ProductsFit : Type 0
ProductsFit = (d : Drive) → Widths d → Within32 d

-- It speaks: the largest drive has these widths, and reaches both bounds (Line 51).
pub record SpeaksOfWidths : Type 0 where
  pub widths : Widths largest_drive
  pub largest_product : 65535 * per_cylinder largest_drive ≡ 4_294_901_760
  pub largest_count : sector_count largest_drive ≡ 4_294_967_296
