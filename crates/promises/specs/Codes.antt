-- The code each command will get: its three tables in words, and when each code is given. Several rows give 00, 10H and 4BH, so it is said
-- by rows: a code is given exactly when some row that gives it is the first that applies (Code 1 to 12 and 14 to 16).
-- c is what the walk copied, d the drive of the command's own unit, m memory.
use Rattle.std.specs.Prelude.{◌≡◌, ◌↔◌, ◌≢◌, ◌⊎◌, ℕ, ◌+◌, ◌*◌, ◌<◌, true, false, List, [], ◌∷◌, ◌++◌, length}
use Rattle.meaning.specs.declared.Drive.{Drive}
use Rattle.meaning.specs.Drives.{Drives}
use Rattle.meaning.specs.declared.Copied.{Copied}
use Rattle.meaning.specs.declared.Link.{Link}
use Rattle.meaning.specs.Sectors.{sector_bytes, sector_count}
use Rattle.meaning.specs.Fields.{bit}
use Rattle.meaning.specs.Ranges.{Range}
use Rattle.meaning.specs.Links.{link_bytes, ranges_of, bytes_in}
use Rattle.meaning.specs.Code.{nop, write, read, command_in, gathers, first_sector, link_count, links_in, code_of}
use Rattle.meaning.specs.Table.{Case, ◌⇒◌, Otherwise, NoneOf, FirstAt, GivesAt}
use Rattle.meaning.specs.Conditions.{Odd, Absent, SomeOf, Outside}

-- CHEN is bit 5 of byte 0, SGM bit 4
abbrev pub Chen : Copied → Type 0
Chen c = bit 5 c.byte0 ≡ 1

abbrev pub Sgm : Copied → Type 0
Sgm c = bit 4 c.byte0 ≡ 1

-- what every command is asked
abbrev pub command_table : Copied → List Case
command_table c =
    (Chen c × Odd c.next) ⇒ 0x1E
    ∷ ((read < command_in c.byte0) ⊎ (Sgm c × (command_in c.byte0 ≡ nop)) ⊎ (c.subfunction ≢ 0)) ⇒ 0x14
    ∷ (command_in c.byte0 ≡ nop) ⇒ 0x00
    ∷ []

-- the sector is above the maximum of its own head: the last head of a cylinder has its own
abbrev pub SectorAbove : Drive → Copied → Type 0
SectorAbove d c = ((c.head ≡ d.head) × (d.last_sector < c.sector)) ⊎ ((c.head ≢ d.head) × (d.sector < c.sector))

-- what only a transfer is asked before its data is looked at: first whether its drive is there at all, whether any sectors are asked for, and
-- whether it is a place of the drive that is named
abbrev pub place_table : Copied → Drive → List Case
place_table c d =
    (d.present ≡ false) ⇒ 0x42
    ∷ (c.count ≡ 0) ⇒ 0x13
    ∷ (d.cylinder < c.cylinder) ⇒ 0x10
    ∷ (d.head < c.head) ⇒ 0x11
    ∷ SectorAbove d c ⇒ 0x12
    ∷ []

-- then the end of the drive, and its protect mark
abbrev pub PastDrive : Copied → Drive → Type 0
PastDrive c d = sector_count d < first_sector d c + c.count

abbrev pub Forbidden : Copied → Drive → Type 0
Forbidden c d = (command_in c.byte0 ≡ write) × (d.protected ≡ true)

abbrev pub transfer_table : Copied → Drive → List Case
transfer_table c d = place_table c d ++ (PastDrive c d ⇒ 0x10 ∷ Forbidden c d ⇒ 0x90 ∷ [])

-- its link list, which it has with SGM alone: as many elements as byte 6 says, from the data address on
abbrev pub links_of_command : List ℕ → Copied → List Link
links_of_command m c = links_in m c

-- where its data lies: in the ranges of its list, or from the data address on
abbrev pub Data : List ℕ → Copied → List Range
Data m c = ranges_of (gathers c) c.address c.count (links_of_command m c)

module _ (c : Copied) (m : List ℕ) where
  -- what its data is asked: first its list, and then the end of memory
  abbrev pub list_table : List Case
  list_table =
      (Sgm c × (length m < c.address + link_bytes * link_count c)) ⇒ 0x4B
      ∷ (bytes_in (Data m c) ≢ sector_bytes * c.count) ⇒ 0x1C
      ∷ SomeOf (λ x. Odd x.address) (links_of_command m c) ⇒ 0x1F
      ∷ []

  abbrev pub PastMemory : Type 0
  PastMemory = SomeOf (Outside (length m)) (Data m c)

  abbrev pub data_table : List Case
  data_table = list_table ++ (PastMemory ⇒ 0x4B ∷ Otherwise ⇒ 0x00 ∷ [])

module _ (c : Copied) (d : Drive) (m : List ℕ) where
  -- the one after the other
  abbrev pub code_table : List Case
  code_table = command_table c ++ (transfer_table c d ++ data_table c m)

  abbrev pub CodeExactlyWhen : ℕ → Type 0
  CodeExactlyWhen code = (code_of c d (length m) (links_in m c) ≡ code) ↔ ((k : ℕ) × (FirstAt code_table k × GivesAt code_table k code))

-- So 42H, a drive that is not ready, is given exactly where none of what every command is asked gives a code and its own unit is absent.
abbrev pub NotReadyExactlyWhen : Type 0
NotReadyExactlyWhen =
    (d : Drives) (c : Copied) (m : List ℕ)
    → (code_of c (d.on c.unit) (length m) (links_in m c) ≡ 0x42) ↔ (NoneOf (command_table c) × Absent d c.unit)
