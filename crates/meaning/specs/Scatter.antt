-- Examples with link lists, on both sides of each line (Line 39 to 50), with the drive and memory of the bench, as rows of one table under one
-- statement, `scatter_rows`, which holds by computing the definitions.
use Rattle.std.specs.Prelude.{◌≡◌, refl, ℕ, ◌+◌, ◌*◌, ◌/◌, ◌%◌, Bool, true, false, List, [], ◌∷◌, ◌++◌, map, length, get_or, replicate}
use Rattle.meaning.specs.declared.Drive.{Drive}
use Rattle.meaning.specs.Sectors.{maximum_on, per_cylinder, sector_count, sector_number, maxima_right, image_right}
use Rattle.meaning.specs.Drives.{Drives, alone, drive_of, drives_of}
use Rattle.meaning.specs.Store.{images}
use Rattle.meaning.specs.Fields.{byte_of}
use Rattle.meaning.specs.Ranges.{crosses}
use Rattle.meaning.specs.State.{State, state_of}
use Rattle.meaning.specs.Sizes.{sizes_wrong}
use Rattle.meaning.specs.Links.{link_at, links_at}
use Rattle.meaning.specs.Code.{copied_at, link_count, links_in, code_of, early_code, links_read}
use Rattle.meaning.specs.Walk.{Chain, refused, accepted, record_of, chain_at, filled}
use Rattle.meaning.specs.Command.{steps_of, finished}
use Rattle.meaning.specs.Touch.{conflict}
use Rattle.meaning.specs.Pick.{pick_number}
use Rattle.meaning.specs.Deck.{memory_bytes, bench_image}
use Rattle.meaning.specs.Bench.{no_records}
use Rattle.meaning.specs.Starred.{Byte, ◌≔◌, put, commands_in, no_command}

-- the bench's drive, protected or not
abbrev pub drive : Bool → Drive
drive protected = record { cylinder = 1; head = 1; sector = 7; last_sector = 7; protected = protected; present = true }

abbrev drives : Bool → Drives
drives protected = drives_of (alone (drive protected))

-- memory with these bytes, and else zeros
abbrev pub with_bytes : List Byte → State
with_bytes vs = state_of (put (replicate memory_bytes 0) vs) (images bench_image [] [] []) no_records

-- the element at a: a range of so many bytes at an address
abbrev pub element : ℕ → ℕ → ℕ → List Byte
element a many address = a ≔ (many / 256) ∷ (a + 1) ≔ (many % 256) ∷ (a + 6) ≔ (address / 256) ∷ (a + 7) ≔ (address % 256) ∷ []

-- an IOPB at a: its byte 0, byte 6 and the address of its list, a count of one sector and the next address
abbrev pub command : ℕ → ℕ → ℕ → ℕ → ℕ → List Byte
command a byte0 byte6 list next =
    a ≔ byte0 ∷ (a + 6) ≔ byte6 ∷ (a + 9) ≔ 1 ∷ (a + 0x12) ≔ (list / 256) ∷ (a + 0x13) ≔ (list % 256) ∷ (a + 0x17) ≔ next ∷ []

-- a Read Data with SGM by a list of so many elements at an address
abbrev pub reading : ℕ → ℕ → List Byte
reading elements list = command 0 0x12 (8 * elements) list 0

-- what a row of the table asks
pub data Asks : Type 0 where
  -- the code of the command at 0, on a drive that is protected or not
  code_on : Bool → List Byte → Asks
  -- the number of a first pick at place 1
  pick_one : List Byte → Asks

abbrev pub pick_in : State → Chain → ℕ
pick_in s (refused n) = 255
pick_in s (accepted rs) = pick_number (drives false) (length rs) 1 (record { table = filled (accepted rs) no_records; store = s.store })

abbrev pub answer : Asks → ℕ
answer (code_on protected vs) = (get_or (commands_in (chain_at (drives protected) 0 (with_bytes vs))) 0 no_command).code
answer (pick_one vs) = pick_in (with_bytes vs) (chain_at (drives false) 0 (with_bytes vs))

pub record Example : Type 0 where
  pub asks : Asks
  pub gives : ℕ

infix 69 ◌⇒◌
abbrev pub ◌⇒◌ : Asks → ℕ → Example
a ⇒ n = record { asks = a; gives = n }

-- on a drive that is open
abbrev pub open_code : List Byte → Asks
open_code vs = code_on false vs

-- two reads, by lists of two ranges of 256 bytes each; the second's lie at a and at b
abbrev pub two_reads : ℕ → ℕ → List Byte
two_reads a b =
    command 0 0x32 0x10 0x400 0x20
    ++ command 0x20 0x12 0x10 0x410 0
    ++ element 0x400 256 0x800
    ++ element 0x408 256 0xA00
    ++ element 0x410 256 a
    ++ element 0x418 256 b

abbrev pub rows : List Example
rows =
    -- Line 39 and 40: a list of one range for the one sector; a byte too few, and too many
    open_code (reading 1 0x400 ++ element 0x400 512 0x800) ⇒ 0x00
    ∷ open_code (reading 1 0x400 ++ element 0x400 511 0x800) ⇒ 0x1C
    ∷ open_code (reading 1 0x400 ++ element 0x400 513 0x800) ⇒ 0x1C
    -- Line 41: too many by exactly 65,536
    ∷ open_code (reading 2 0x400 ++ element 0x400 0x8200 0x800 ++ element 0x408 0x8000 0x800) ⇒ 0x1C
    -- Line 42: an odd address, and with it a wrong length
    ∷ open_code (reading 1 0x400 ++ element 0x400 512 0x801) ⇒ 0x1F
    ∷ open_code (reading 1 0x400 ++ element 0x400 511 0x801) ⇒ 0x1C
    -- Line 43: at the end of memory, past it, and past it at an odd address
    ∷ open_code (reading 1 0x400 ++ element 0x400 512 0xE00) ⇒ 0x00
    ∷ open_code (reading 1 0x400 ++ element 0x400 512 0xE02) ⇒ 0x4B
    ∷ open_code (reading 1 0x400 ++ element 0x400 512 0xE01) ⇒ 0x1F
    -- Line 44: an empty range beside it, at the end of memory, past it, and at an odd address
    ∷ open_code (reading 2 0x400 ++ element 0x400 512 0x800 ++ element 0x408 0 0x1000) ⇒ 0x00
    ∷ open_code (reading 2 0x400 ++ element 0x400 512 0x800 ++ element 0x408 0 0x1002) ⇒ 0x4B
    ∷ open_code (reading 2 0x400 ++ element 0x400 512 0x800 ++ element 0x408 0 0x801) ⇒ 0x1F
    -- Line 45: a list that ends with memory, one that does not, and one at an odd address
    ∷ open_code (reading 1 0xFF8 ++ element 0xFF8 512 0x800) ⇒ 0x00
    ∷ open_code (reading 1 0xFF9) ⇒ 0x4B
    ∷ open_code (reading 1 0xFF7 ++ element 0xFF7 512 0x800) ⇒ 0x00
    -- Line 46: 0 means 32 elements, whatever the interrupt level is; 31 are one too few
    ∷ open_code (command 0 0x12 0x00 0x400 0 ++ element 0x4F8 512 0x800) ⇒ 0x00
    ∷ open_code (command 0 0x12 0x07 0x400 0 ++ element 0x4F8 512 0x800) ⇒ 0x00
    ∷ open_code (command 0 0x12 0xF8 0x400 0 ++ element 0x4F8 512 0x800) ⇒ 0x1C
    -- Line 47: No Operation with SGM, and without
    ∷ open_code (command 0 0x10 8 0x400 0 ++ element 0x400 512 0x800) ⇒ 0x14
    ∷ open_code (command 0 0x00 8 0x400 0 ++ element 0x400 512 0x800) ⇒ 0x00
    -- Line 48: a Write Data by a list that is not in memory, on a protected drive and on an open one
    ∷ code_on true (command 0 0x11 8 0xFF9 0) ⇒ 0x90
    ∷ open_code (command 0 0x11 8 0xFF9 0) ⇒ 0x4B
    -- Line 49 and 50: the last ranges of both meet; the ranges of the one lie among those of the other
    ∷ pick_one (two_reads 0xC00 0xA00) ⇒ 6
    ∷ pick_one (two_reads 0x900 0xB00) ⇒ 0
    ∷ []

abbrev pub Answered : List Example → Type 0
Answered rs = map (λ (r : Example). answer r.asks) rs ≡ map (λ (r : Example). r.gives) rs

pub scatter_rows : Answered rows
unfolding byte_of copied_at link_at links_at link_count links_in code_of early_code links_read record_of chain_at sizes_wrong maxima_right image_right maximum_on per_cylinder sector_count sector_number drive_of bench_image pick_number conflict crosses steps_of finished
scatter_rows = refl
