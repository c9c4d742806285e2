-- A deck, and the memory, drives and image that it is run on (Bench 1 to 6). b is the bytes of a deck.
use Rattle.std.specs.Prelude.{ℕ, ◌+◌, ◌*◌, ◌/◌, ◌%◌, Bool, true, not, ◌&&◌, cond, length, get_or, take, drop, replicate, leb, eqb}
use mathlib.Core.List.{List, [], ◌++◌, foldl}
use Rattle.std.proofs.lemmas.List.Edits.{sets}
use Rattle.meaning.specs.Each.{every_of, up_to}
use Rattle.meaning.specs.declared.Drive.{Drive}
use Rattle.meaning.specs.declared.LentDrives.{LentDrives}
use Rattle.meaning.specs.Sectors.{sector_bytes}
use Rattle.meaning.specs.Drives.{alone}
use Rattle.meaning.specs.Fields.{iopb_bytes}

-- Bench 1: records of 32 bytes, with no header, 1 to 32 of them
abbrev pub record_bytes : ℕ
record_bytes = 32

abbrev pub most_records : ℕ
most_records = 32

abbrev pub record_count : List ℕ → ℕ
record_count b = length b / record_bytes

-- byte j of record k
abbrev pub byte_in : List ℕ → ℕ → ℕ → ℕ
byte_in b k j = get_or b (record_bytes * k + j) 0

-- Bench 3: byte 31 of the first record is 0 or 1; all other bytes 30 and 31 are 0
unfoldable pub fillers_right : List ℕ → ℕ → Bool
fillers_right b k = eqb (byte_in b k 30) 0 && leb (byte_in b k 31) (cond (eqb k 0) 1 0)

-- Bench 4: anything else is no deck
unfoldable pub is_deck : List ℕ → Bool
unfolding fillers_right
is_deck b =
    not (eqb (length b) 0)
    && eqb (length b % record_bytes) 0
    && leb (record_count b) most_records
    && every_of (fillers_right b) (up_to (record_count b))

-- Bench 3 and 6: maxima 1, 1 and 7, the last head's 7 too, and byte 31 of the first record protects it
unfoldable pub bench_drive : List ℕ → Drive
bench_drive b = record { cylinder = 1; head = 1; sector = 7; last_sector = 7; protected = eqb (byte_in b 0 31) 1; present = true }

-- Bench 6: all other units are absent
abbrev pub bench_drives : List ℕ → LentDrives
bench_drives b = alone (bench_drive b)

-- Bench 5: zeros, with the IOPB of record k at 32 x k
abbrev pub memory_bytes : ℕ
memory_bytes = 4096

unfoldable pub lay_record : List ℕ → List ℕ → ℕ → List ℕ
lay_record b m k = sets m (record_bytes * k) (take iopb_bytes (drop (record_bytes * k) b))

unfoldable pub bench_memory : List ℕ → List ℕ
unfolding lay_record
bench_memory b = foldl (lay_record b) (replicate memory_bytes 0) (up_to (record_count b))

-- Bench 6: 32 sectors, and every byte of sector n is n
unfoldable pub sectors_to : ℕ → List ℕ
sectors_to n = foldl (λ i k. i ++ replicate sector_bytes k) [] (up_to n)

unfoldable pub bench_image : List ℕ
unfolding sectors_to
bench_image = sectors_to 32
