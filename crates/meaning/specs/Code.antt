-- The code that each command will get, and how many sectors would have fitted: fixed at the walk, from the copied bytes and the copied link
-- list (Code 1 to 12 and 14 to 18).
use Rattle.std.specs.Prelude.{ℕ, ◌+◌, ◌*◌, ◌/◌, ◌%◌, Bool, not, ◌&&◌, ◌||◌, cond, List, [], ◌∷◌, length, ltb, eqb}
use Rattle.meaning.specs.First.{Row, first_of, told_of, ◌↝◌, ◌telling◌}
use Rattle.meaning.specs.Each.{some_of}
use Rattle.meaning.specs.declared.Drive.{Drive}
use Rattle.meaning.specs.declared.Link.{Link}
use Rattle.meaning.specs.Ranges.{Range, bytes}
use Rattle.meaning.specs.Links.{link_bytes, most_links, links_at, ranges_of, bytes_in}
use Rattle.meaning.specs.Sectors.{sector_bytes, maximum_on, sector_number}
use Rattle.meaning.specs.Ends.{drive_end, memory_end, as_byte}
use Rattle.meaning.specs.Fields as iopb
use Rattle.meaning.specs.declared.Copied.{Copied}

-- what the walk copies from the IOPB at a
unfoldable pub copied_at : List ℕ → ℕ → Copied
copied_at m a =
    record {
      byte0 = iopb.byte_of m a 0;
      subfunction = iopb.subfunction m a;
      unit = iopb.unit m a;
      byte6 = iopb.byte_of m a 6;
      head = iopb.head m a;
      sector = iopb.sector m a;
      count = iopb.count m a;
      cylinder = iopb.cylinder m a;
      address = iopb.data_address m a;
      next = iopb.next_address m a;
    }

-- the codes of No Operation, Write Data and Read Data
abbrev pub nop : ℕ
nop = 0

abbrev pub write : ℕ
write = 1

abbrev pub read : ℕ
read = 2

-- bits of a copied byte 0: bit 5 is CHEN, bit 4 SGM, bits 3-0 the command
abbrev pub command_in : ℕ → ℕ
command_in byte0 = byte0 % 16

abbrev pub chained : Copied → Bool
chained c = eqb (iopb.bit 5 c.byte0) 1

abbrev pub gathers : Copied → Bool
gathers c = eqb (iopb.bit 4 c.byte0) 1

abbrev pub odd : ℕ → Bool
odd a = eqb (a % 2) 1

-- the number of the command's first sector
abbrev pub first_sector : Drive → Copied → ℕ
first_sector d c = sector_number d c.cylinder c.head c.sector

-- how many elements the link list has: bits 7-3 of byte 6, where 0 means 32 (IOPB 17, Link 1)
abbrev pub links_field : Copied → ℕ
links_field c = c.byte6 / 8 % 32

unfoldable pub link_count : Copied → ℕ
link_count c = cond (eqb (links_field c) 0) most_links (links_field c)

-- the list of a command that has one, as it lies in memory m; none where SGM is clear (Link 3)
unfoldable pub links_in : List ℕ → Copied → List Link
links_in m c = cond (gathers c) (links_at m c.address (link_count c)) []

-- the list is not all in a memory of n bytes
abbrev pub list_outside : Copied → ℕ → Bool
list_outside c n = ltb n (c.address + link_bytes * link_count c)

-- a range that ends past the end of a memory of n bytes, be it empty or not
abbrev pub outside : ℕ → Range → Bool
outside n r = (memory_end n r).past

-- what its row tells of a command whose sectors go past the end of the drive, with a link list or without one (Code 18)
abbrev pub fitted_on_drive : Copied → Drive → ℕ
fitted_on_drive c d = as_byte (drive_end d (first_sector d c) c.count).fitted

-- and of one with a range outside a memory of n bytes: with a list nothing, without one what would have fitted from its data address on
abbrev pub fitted_in_memory : Copied → ℕ → ℕ
fitted_in_memory c n = cond (gathers c) 0 (as_byte (memory_end n (bytes c.address (sector_bytes * c.count))).fitted)

-- What every command is asked, row by row. A No Operation that comes this far has nothing more to be asked.
abbrev pub command_rows : Copied → List Row
command_rows c =
    -- Code 1: CHEN set and the next address odd, a next alignment error
    (chained c && odd c.next) ↝ 0x1E
    -- Code 2: a command above 2, or SGM with No Operation, or byte 4 not zero
    ∷ (ltb read (command_in c.byte0) || gathers c && eqb (command_in c.byte0) nop || not (eqb c.subfunction 0)) ↝ 0x14
    -- Code 3: a No Operation
    ∷ eqb (command_in c.byte0) nop ↝ 0x00
    ∷ []

-- What only a transfer is asked, row by row, before its data is looked at. Here and below, d is the drive of the command's own unit.
abbrev pub transfer_rows : Copied → Drive → List Row
transfer_rows c d =
    -- Code 4: a unit that is absent, so a drive that is not ready
    not d.present ↝ 0x42
    -- Code 5: no sector is asked for
    ∷ eqb c.count 0 ↝ 0x13
    -- Code 6 to 8: cylinder, then head, then sector above its maximum, the sector above that of its own head
    ∷ ltb d.cylinder c.cylinder ↝ 0x10
    ∷ ltb d.head c.head ↝ 0x11
    ∷ ltb (maximum_on d c.head) c.sector ↝ 0x12
    -- Code 9: the sectors go past the end of the drive
    ∷ (drive_end d (first_sector d c) c.count).past ↝ 0x10 telling fitted_on_drive c d
    -- Code 10: a Write Data on a protected drive
    ∷ (eqb (command_in c.byte0) write && d.protected) ↝ 0x90
    ∷ []

-- What its data is asked: n is the length of memory, xs its link list, if it has one.
abbrev pub data_rows : Copied → ℕ → List Link → List Row
data_rows c n xs =
    -- Code 14: the list is not all in memory, a bus error
    (gathers c && list_outside c n) ↝ 0x4B
    -- Code 15: the lengths do not add up to the sectors
    ∷ not (eqb (bytes_in (ranges_of (gathers c) c.address c.count xs)) (sector_bytes * c.count)) ↝ 0x1C
    -- Code 16: a range of the list begins at an odd address
    ∷ some_of (λ x. odd x.address) xs ↝ 0x1F
    -- Code 11: a range goes past the end of memory, a bus error
    ∷ some_of (outside n) (ranges_of (gathers c) c.address c.count xs) ↝ 0x4B telling fitted_in_memory c n
    ∷ []

-- the first that applies wins; 00 otherwise (Code 12)
unfoldable pub code_of : Copied → Drive → ℕ → List Link → ℕ
code_of c d n xs = first_of (command_rows c) (first_of (transfer_rows c d) (first_of (data_rows c n xs) 0x00))

-- how many sectors would have fitted, as one byte: what the row tells that gives the code, and that is nothing, 0, of every row but two
-- (Code 18)
unfoldable pub fitted_of : Copied → Drive → ℕ → List Link → ℕ
fitted_of c d n xs = told_of (command_rows c) (told_of (transfer_rows c d) (told_of (data_rows c n xs) 0))

-- the code of a command by the rows that do not look at its data
unfoldable pub early_code : Copied → Drive → ℕ
early_code c d = first_of (command_rows c) (first_of (transfer_rows c d) 0x00)

-- the walk reads the list of a command to which none of those rows gives a code, if it is all in memory (Link 6)
unfoldable pub links_read : List ℕ → Copied → Drive → List Link
links_read m c d = cond (eqb (early_code c d) 0 && not (list_outside c (length m))) (links_in m c) []
