-- Examples of how much would have fitted, worked by computing the definitions, on both sides of each line (Line 56 to 63): near the end of
-- the drive, near the end of memory, and where nothing is told.
use Rattle.std.specs.Prelude.{◌≡◌, refl, ℕ, true, false, List, [], ◌∷◌, map}
use Rattle.meaning.specs.declared.Drive.{Drive}
use Rattle.meaning.specs.declared.Place.{Place}
use Rattle.meaning.specs.declared.Link.{Link}
use Rattle.meaning.specs.declared.Copied.{Copied}
use Rattle.meaning.specs.Sectors.{maximum_on, per_cylinder, sector_count, sector_number}
use Rattle.meaning.specs.Place.{place_at}
use Rattle.meaning.specs.Code.{link_count, code_of, fitted_of}
use Rattle.meaning.specs.LastHead.{open_drive}
use Rattle.meaning.specs.Scatter.{drive}

-- 300 sectors, 30 on a cylinder
abbrev pub larger : Drive
larger = open_drive 9 2 9 9

-- a command by its byte 0, its first place, its count and its address; a list would have one element
abbrev pub command : ℕ → Place → ℕ → ℕ → Copied
command byte0 p count address =
    record {
      byte0 = byte0;
      subfunction = 0;
      unit = 0;
      byte6 = 8;
      head = p.head;
      sector = p.sector;
      count = count;
      cylinder = p.cylinder;
      address = address;
      next = 0;
    }

-- Read Data, Write Data, and Read Data by a link list
abbrev pub reading : Place → ℕ → ℕ → Copied
reading p count address = command 0x02 p count address

abbrev pub writing : Place → ℕ → ℕ → Copied
writing p count address = command 0x01 p count address

abbrev pub gathering : Place → ℕ → ℕ → Copied
gathering p count address = command 0x12 p count address

abbrev pub first : Place
first = place_at 0 0 0

-- the last place of the bench's drive
abbrev pub last : Place
last = place_at 1 1 7

abbrev pub range : ℕ → ℕ → List Link
range many address = record { address = address; length = many; unused = 0 } ∷ []

-- a row: what is asked of which command, on which drive, with how many bytes of memory and which list; its code, and what would have fitted
pub record Example : Type 0 where
  pub copied : Copied
  pub on : Drive
  pub bytes : ℕ
  pub list : List Link
  pub code : ℕ
  pub fitted : ℕ

abbrev pub row : Copied → Drive → ℕ → List Link → ℕ → ℕ → Example
row c d n xs code fitted = record { copied = c; on = d; bytes = n; list = xs; code = code; fitted = fitted }

-- on the bench: its drive, open, and its memory; and with 65,536 bytes of memory on the larger drive
abbrev pub on_bench : Copied → ℕ → ℕ → Example
on_bench c code fitted = row c (drive false) 4096 [] code fitted

abbrev pub in_full_memory : ℕ → ℕ → ℕ → Example
in_full_memory address code fitted = row (reading first 128 address) larger 65536 [] code fitted

abbrev pub rows : List Example
rows =
    -- Line 56: the drive's last sector; one more; very many more
    on_bench (reading last 1 0x400) 0x00 0
    ∷ on_bench (reading last 2 0x400) 0x10 1
    ∷ on_bench (reading last 65535 0x400) 0x10 1
    -- Line 57: 254, 255 and 256 sectors before the end
    ∷ row (reading (place_at 1 1 6) 300 0x400) larger 4096 [] 0x10 254
    ∷ row (reading (place_at 1 1 5) 300 0x400) larger 4096 [] 0x10 255
    ∷ row (reading (place_at 1 1 4) 300 0x400) larger 4096 [] 0x10 255
    -- Line 58: 1 byte, 512, 513, 127 sectors, one byte more, and 128 sectors before the end of memory
    ∷ in_full_memory 0xFFFF 0x4B 0
    ∷ in_full_memory 0xFE00 0x4B 1
    ∷ in_full_memory 0xFDFF 0x4B 1
    ∷ in_full_memory 0x200 0x4B 127
    ∷ in_full_memory 0x1FF 0x4B 127
    ∷ in_full_memory 0 0x00 0
    -- Line 59: at the end of memory, and past it
    ∷ on_bench (reading first 1 0x1000) 0x4B 0
    ∷ on_bench (reading first 1 0x1001) 0x4B 0
    ∷ on_bench (reading first 1 0xFFFF_FFFF) 0x4B 0
    -- Line 60: a cylinder above its maximum
    ∷ on_bench (reading (place_at 2 0 0) 1 0x400) 0x10 0
    ∷ on_bench (reading (place_at 2 0 0) 40 0x400) 0x10 0
    -- Line 61: with a list: past the drive's end, a range outside memory, one where a whole sector would have fitted, the list itself outside
    ∷ row (gathering last 2 0x400) (drive false) 4096 (range 1024 0x800) 0x10 1
    ∷ row (gathering first 1 0x400) (drive false) 4096 (range 512 0xE02) 0x4B 0
    ∷ row (gathering first 2 0x400) (drive false) 4096 (range 1024 0xC02) 0x4B 0
    ∷ row (gathering first 1 0xFF9) (drive false) 4096 [] 0x4B 0
    -- Line 62: past both ends; the same on a protected drive
    ∷ on_bench (reading last 2 0xE00) 0x10 1
    ∷ row (writing last 2 0xE00) (drive true) 4096 [] 0x10 1
    -- Line 63: past the end of memory on a protected drive, and on an open one
    ∷ row (writing first 2 0xE00) (drive true) 4096 [] 0x90 0
    ∷ on_bench (writing first 2 0xE00) 0x4B 1
    ∷ []

abbrev codes : Example → ℕ
codes x = code_of x.copied x.on x.bytes x.list

abbrev fitteds : Example → ℕ
fitteds x = fitted_of x.copied x.on x.bytes x.list

abbrev pub Answered : List Example → Type 0
Answered rs = (map codes rs ≡ map (λ x. x.code) rs) × (map fitteds rs ≡ map (λ x. x.fitted) rs)

pub fitted_rows : Answered rows
unfolding code_of fitted_of link_count maximum_on per_cylinder sector_count sector_number
fitted_rows = (refl, refl)
