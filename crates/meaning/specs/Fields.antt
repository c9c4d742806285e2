-- The thirty bytes of an IOPB, field by field (IOPB 1 to 16). m is memory and a the IOPB's address. Where the thirty bytes are not all
-- in memory every field is 0, as a viewer shows it (View 7).
--
use Rattle.std.specs.Prelude.{ℕ, ◌+◌, ◌*◌, ◌/◌, ◌%◌, ◌^◌, Bool, cond, List, length, get_or, leb}

-- the bytes of an IOPB (IOPB 1)
abbrev pub iopb_bytes : ℕ
iopb_bytes = 30

-- all thirty bytes at a are in memory
abbrev pub all_in : List ℕ → ℕ → Bool
all_in m a = leb (a + iopb_bytes) (length m)

-- byte k of the IOPB at a
unfoldable pub byte_of : List ℕ → ℕ → ℕ → ℕ
byte_of m a k = cond (all_in m a) (get_or m (a + k) 0) 0

-- bit k of a byte
abbrev pub bit : ℕ → ℕ → ℕ
bit k b = b / 2 ^ k % 2

-- numbers of several bytes have the high byte first (IOPB 2)
abbrev pub two_bytes : List ℕ → ℕ → ℕ → ℕ
two_bytes m a k = byte_of m a k * 256 + byte_of m a (k + 1)

abbrev pub four_bytes : List ℕ → ℕ → ℕ → ℕ
four_bytes m a k = two_bytes m a k * 65536 + two_bytes m a (k + 2)

module _ (m : List ℕ) (a : ℕ) where
  -- byte 0: bit 7 is ERRS, bit 6 DONE, bit 5 CHEN, bit 4 SGM, bits 3-0 the command (IOPB 3)
  abbrev pub errs : ℕ
  errs = bit 7 (byte_of m a 0)

  abbrev pub done : ℕ
  done = bit 6 (byte_of m a 0)

  abbrev pub chen : ℕ
  chen = bit 5 (byte_of m a 0)

  abbrev pub sgm : ℕ
  sgm = bit 4 (byte_of m a 0)

  abbrev pub command : ℕ
  command = byte_of m a 0 % 16

  -- byte 1: the completion code (IOPB 4)
  abbrev pub completion : ℕ
  completion = byte_of m a 1

  -- byte 2: bit 4 is WRPT, bit 1 ONCL, bit 0 DRDY (IOPB 5)
  abbrev pub wrpt : ℕ
  wrpt = bit 4 (byte_of m a 2)

  abbrev pub oncl : ℕ
  oncl = bit 1 (byte_of m a 2)

  abbrev pub drdy : ℕ
  drdy = bit 0 (byte_of m a 2)

  -- byte 3: the internal status (IOPB 6)
  abbrev pub internal : ℕ
  internal = byte_of m a 3

  -- byte 4: the subfunction (IOPB 7)
  abbrev pub subfunction : ℕ
  subfunction = byte_of m a 4

  -- byte 5: the unit, bits 2-0 (IOPB 8 and 16)
  abbrev pub unit : ℕ
  unit = byte_of m a 5 % 8

  -- bytes 8-9: the count of sectors (IOPB 9)
  abbrev pub count : ℕ
  count = two_bytes m a 8

  -- bytes A-B, C, D: cylinder, head, sector (IOPB 10 to 12)
  abbrev pub cylinder : ℕ
  cylinder = two_bytes m a 0xA

  abbrev pub head : ℕ
  head = byte_of m a 0xC

  abbrev pub sector : ℕ
  sector = byte_of m a 0xD

  -- bytes 10-13: the data address (IOPB 13)
  abbrev pub data_address : ℕ
  data_address = four_bytes m a 0x10

  -- bytes 14-17: the address of the next IOPB (IOPB 14)
  abbrev pub next_address : ℕ
  next_address = four_bytes m a 0x14
