-- What the tables of the rules ask of sizes, records and commands, in words: each as a proposition over numbers, bytes and sectors.
-- The tests of the other files are proved to mean exactly these (proofs/Ranges, proofs/Conditions, proofs/Conflict).
use Rattle.std.specs.Prelude.{◌≡◌, ◌↔◌, ◌≢◌, ◌⊎◌, ℕ, ◌+◌, ◌*◌, ◌%◌, ◌≤◌, ◌<◌, true, false, List, [], ◌∷◌, length, get_or}
use Rattle.meaning.specs.declared.Drive.{Drive}
use Rattle.meaning.specs.declared.Record.{Record}
use Rattle.meaning.specs.Store.{Space, memory, disk, Store}
use Rattle.meaning.specs.Ranges.{Range, overlap}
use Rattle.meaning.specs.State.{State, most_commands}
use Rattle.meaning.specs.Sectors.{sector_bytes, image_limit, sector_count}
use Rattle.meaning.specs.Drives.{Drives, most_units}
use Rattle.meaning.specs.Fields.{iopb_bytes}
use Rattle.meaning.specs.Sizes.{memory_limit}
use Rattle.meaning.specs.Code.{command_in, read, write}
use Rattle.meaning.specs.Command.{steps_of, no_record}
use Rattle.meaning.specs.Links.{most_links, bytes_in}
use Rattle.meaning.specs.Touch.{data_bytes}

-- x is one of the n bytes, or sectors, from a on
abbrev pub Within : ℕ → ℕ → ℕ → Type 0
Within x a n = (a ≤ x) × (x < a + n)

abbrev pub Odd : ℕ → Type 0
Odd a = a % 2 ≡ 1

-- x of a space, a byte of memory or a sector of a disk, lies in a range
abbrev pub LiesIn : Range → Space → ℕ → Type 0
LiesIn r p x = (p ≡ r.space) × Within x r.from r.many

-- two ranges overlap exactly if something lies in both
abbrev pub OverlapIsSharing : Type 0
OverlapIsSharing = (r s : Range) → (overlap r s ≡ true) ↔ ((p : Space) × (x : ℕ) × LiesIn r p x × LiesIn s p x)

-- two IOPBs, at a and at b, share a byte
abbrev pub Shares : ℕ → ℕ → Type 0
Shares a b = (x : ℕ) × Within x a iopb_bytes × Within x b iopb_bytes

-- a drive whose last head has more sectors than the others
abbrev pub MaximaWrong : Drive → Type 0
MaximaWrong d = d.sector < d.last_sector

-- such a drive, or an image of n bytes over its limit, or not of the drive's size
abbrev pub ImageWrong : Drive → ℕ → Type 0
ImageWrong d n = MaximaWrong d ⊎ (image_limit < n) ⊎ (n ≢ sector_bytes * sector_count d)

-- a unit is there, or absent
abbrev pub Present : Drives → ℕ → Type 0
Present d u = (d.on u).present ≡ true

abbrev pub Absent : Drives → ℕ → Type 0
Absent d u = (d.on u).present ≡ false

-- one of the four units is there, with such a drive or image
abbrev pub ImagesWrong : Drives → Store → Type 0
ImagesWrong d s = (u : ℕ) × (u < most_units) × (Present d u × ImageWrong (d.on u) (length (s (disk u))))

-- memory over its limit, or such a unit
abbrev pub StoreWrong : Drives → Store → Type 0
StoreWrong d s = (memory_limit < length (s memory)) ⊎ ImagesWrong d s

-- or a table shorter than 32
abbrev pub SizesWrong : Drives → State → Type 0
SizesWrong d s = StoreWrong d s.store ⊎ (length s.table < most_commands)

-- a Read Data with code 00, a Write Data with code 00
abbrev pub Reads : Record → Type 0
Reads r = (r.code ≡ 0) × (command_in r.byte0 ≡ read)

abbrev pub Writes : Record → Type 0
Writes r = (r.code ≡ 0) × (command_in r.byte0 ≡ write)

-- no step of it is left
abbrev pub Finished : Record → Type 0
Finished r = steps_of r ≤ r.taken

-- one of the elements of a list is such a one
abbrev pub SomeOf : {A : Type 0} → (A → Type 0) → List A → Type 0
SomeOf P [] = ⊥
SomeOf P (x ∷ xs) = P x ⊎ SomeOf P xs

-- a range ends past the end of a memory of n bytes
abbrev pub Outside : ℕ → Range → Type 0
Outside n x = n < x.from + x.many

-- an absent unit, count zero, more ranges than a record can hold, a range of its data outside memory, ranges that do not add up to its
-- sectors, sectors outside the drive of its own unit, or writing to a protected one
abbrev pub BadTransfer : Drives → Store → Record → Type 0
BadTransfer d s r =
    Absent d r.unit
    ⊎ (r.count ≡ 0)
    ⊎ (most_links < r.ranges)
    ⊎ SomeOf (Outside (length (s memory))) (data_bytes r)
    ⊎ (bytes_in (data_bytes r) ≢ sector_bytes * r.count)
    ⊎ (sector_count (d.on r.unit) < r.sector + r.count)
    ⊎ (Writes r × ((d.on r.unit).protected ≡ true))

-- its IOPB not all in memory, or more steps taken than it has, or a transfer of that kind
abbrev pub BadRecord : Drives → Store → Record → Type 0
BadRecord d s r =
    (length (s memory) < r.iopb + iopb_bytes) ⊎ (steps_of r < r.taken) ⊎ ((Reads r ⊎ Writes r) × BadTransfer d s r)

-- over 32 commands, or a record in use is such a one
abbrev pub Spoiled : Drives → ℕ → State → Type 0
Spoiled d n s = (most_commands < n) ⊎ ((k : ℕ) × (k < n) × (k < length s.table) × BadRecord d s.store (get_or s.table k no_record))

-- What a command reads, and what it writes, at x of a space: byte x of memory, or sector x of a disk.
abbrev pub InData : Record → Space → ℕ → Type 0
InData r p x = SomeOf (λ y. LiesIn y p x) (data_bytes r)

abbrev pub InStatus : Record → Space → ℕ → Type 0
InStatus r p x = (p ≡ memory) × Within x r.iopb 4

abbrev pub InSectors : Record → Space → ℕ → Type 0
InSectors r p x = (p ≡ disk r.unit) × Within x r.sector r.count

abbrev pub ReadsAt : Record → Space → ℕ → Type 0
ReadsAt r p x = (Writes r × InData r p x) ⊎ (Reads r × InSectors r p x)

abbrev pub WritesAt : Record → Space → ℕ → Type 0
WritesAt r p x = (Reads r × InData r p x) ⊎ (Writes r × InSectors r p x) ⊎ InStatus r p x

-- one of them writes a byte or sector that the other reads or writes
abbrev pub Disturbs : Record → Record → Type 0
Disturbs r s = (p : Space) × (x : ℕ) × WritesAt r p x × (ReadsAt s p x ⊎ WritesAt s p x)

abbrev pub Conflict : Record → Record → Type 0
Conflict r s = Disturbs r s ⊎ Disturbs s r

-- an earlier unfinished command conflicts with the one at p
abbrev pub Waits : List Record → ℕ → Type 0
Waits t p =
    (k : ℕ)
    × (k < p)
    × (k < length t)
    × ((¬ Finished (get_or t k no_record)) × Conflict (get_or t k no_record) (get_or t p no_record))
