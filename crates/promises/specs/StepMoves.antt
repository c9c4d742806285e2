-- A step moves one named sector, closes one command, or both, and all other bytes stay (Demand 2), byte by byte.
-- The sector is one of the command's own unit. d are the drives, r the record of the command, s memory and disks before the step, s' after.
use Rattle.std.specs.Prelude.{◌≡◌, ◌≢◌, ◌⊎◌, ℕ, ◌+◌, ◌*◌, ◌<◌, List, length, get_or, take}
use Rattle.meaning.specs.Drives.{Drives}
use Rattle.meaning.specs.declared.Record.{Record}
use Rattle.meaning.specs.Store.{Space, memory, disk, Store}
use Rattle.meaning.specs.Sectors.{sector_bytes}
use Rattle.meaning.specs.Ranges.{Range, bytes}
use Rattle.meaning.specs.Links.{bytes_in}
use Rattle.meaning.specs.Pieces.{byte_at}
use Rattle.meaning.specs.Command.{steps_of}
use Rattle.meaning.specs.Touch.{data_bytes}
use Rattle.meaning.specs.Step.{sector_at, closing, step}
use Rattle.meaning.specs.Conditions.{Within, Absent, StoreWrong, Reads, Writes, Finished, BadRecord}

-- a step that numbers 1, 9 and 7 do not refuse
pub record MayStep (d : Drives) (r : Record) (s : Store) : Type 0 where
  pub sizes : ¬ StoreWrong d s
  pub sound : ¬ BadRecord d s r
  pub unfinished : ¬ Finished r

-- step k, counted from 0, moves the sector of its own unit whose number is that of the first one + k, and bytes 512 k to 512 k + 511 of its
-- data, which is its ranges laid end to end (Step 3)
abbrev pub sector_of : Record → ℕ
sector_of r = r.sector + r.taken

abbrev pub own_disk : Record → Space
own_disk r = disk r.unit

abbrev pub on_image : Record → ℕ
on_image r = (sector_at r r.taken).from

-- where byte j of this sector is in memory
abbrev pub in_memory : Record → ℕ → ℕ
in_memory r j = byte_at (data_bytes r) (sector_bytes * r.taken + j)

-- byte o of the k-th of some ranges is, laid end to end, the byte after those of the ranges before it and o more
abbrev pub ByteOfRange : Type 0
ByteOfRange =
    (rs : List Range) (k o : ℕ)
    → k < length rs
    → o < (get_or rs k (bytes 0 0)).many
    → byte_at rs (bytes_in (take k rs) + o) ≡ (get_or rs k (bytes 0 0)).from + o

-- the last step also closes the command (Step 4)
abbrev pub Last : Record → Type 0
Last r = r.taken + 1 ≡ steps_of r

-- What this step writes, at byte x of a space: a Read's sector in memory, a Write's on its own disk, and the four status bytes of the last step.
abbrev pub Fetched : Record → Space → ℕ → Type 0
Fetched r p x = Reads r × ((p ≡ memory) × ((j : ℕ) × (j < sector_bytes) × (x ≡ in_memory r j)))

abbrev pub Kept : Record → Space → ℕ → Type 0
Kept r p x = Writes r × ((p ≡ own_disk r) × Within x (on_image r) sector_bytes)

abbrev pub Posted : Record → Space → ℕ → Type 0
Posted r p x = Last r × ((p ≡ memory) × Within x r.iopb 4)

pub record Moved (d : Drives) (r : Record) (s s' : Store) : Type 0 where
  -- a Read's sector comes into memory; where ranges overlap the later range of the list stays, and the close, after its sector has moved,
  -- may lay a status byte over it
  pub fetched : Reads r
      → (j : ℕ)
      → j < sector_bytes
      → ((i : ℕ) → j < i → i < sector_bytes → in_memory r i ≢ in_memory r j)
      → ¬ Posted r memory (in_memory r j)
      → get_or (s' memory) (in_memory r j) 0 ≡ get_or (s (own_disk r)) (on_image r + j) 0
  -- a Write's sector comes onto the disk of its own unit
  pub kept : Writes r → (j : ℕ) → j < sector_bytes → get_or (s' (own_disk r)) (on_image r + j) 0 ≡ get_or (s memory) (in_memory r j) 0
  -- the last step posts the four bytes of the close
  pub posted : Last r → (j : ℕ) → j < 4 → get_or (s' memory) (r.iopb + j) 0 ≡ get_or (closing d r) j 0
  -- all other bytes stay, of every space
  pub stays : (p : Space) (x : ℕ) → ¬ Fetched r p x → ¬ Kept r p x → ¬ Posted r p x → get_or (s' p) x 0 ≡ get_or (s p) x 0
  pub sizes : (p : Space) → length (s' p) ≡ length (s p)
  -- so the disk of every other unit is as it was, and that of an absent unit always is
  pub other_disks : (u : ℕ) → u ≢ r.unit → s' (disk u) ≡ s (disk u)
  pub absent_disks : (u : ℕ) → Absent d u → s' (disk u) ≡ s (disk u)
  -- it moves a sector, or closes the command, or both
  pub moves_or_closes : (Reads r ⊎ Writes r) ⊎ Last r

abbrev pub StepMovesOne : Type 0
StepMovesOne = (d : Drives) (r : Record) (s : Store) → MayStep d r s → Moved d r s (step d r s)
