-- The starred examples: lines on both sides of each rule, with the drive and memory of the bench, as rows of one table under one
-- statement, `starred_rows`, which holds by computing the definitions. Rows of our own stand beside them, under `our_rows`: what the twelve
-- do not see.
use Rattle.std.specs.Prelude.{◌≡◌, refl, ℕ, List, [], ◌∷◌, ◌++◌, map, length, get_or, set, replicate}
use Rattle.meaning.specs.declared.Record.{Record}
use Rattle.meaning.specs.Sectors.{maximum_on, per_cylinder, sector_count, sector_number, maxima_right, image_right}
use Rattle.meaning.specs.Drives.{drives_of, drive_of}
use Rattle.meaning.specs.Store.{images}
use Rattle.meaning.specs.Fields.{byte_of}
use Rattle.meaning.specs.Ranges.{crosses}
use Rattle.meaning.specs.State.{state_of}
use Rattle.meaning.specs.Sizes.{sizes_wrong}
use Rattle.meaning.specs.Code.{copied_at, link_count, links_in, code_of, fitted_of, early_code, links_read}
use Rattle.meaning.specs.Walk.{Chain, refused, accepted, record_of, chain_at, filled}
use Rattle.meaning.specs.Command.{steps_of, finished, no_record}
use Rattle.meaning.specs.Touch.{conflict}
use Rattle.meaning.specs.Step.{closing}
use Rattle.meaning.specs.Pick.{pick_number}
use Rattle.meaning.specs.Run.{run_number}
use Rattle.meaning.specs.Deck.{bench_drive, bench_drives, bench_memory, bench_image}
use Rattle.meaning.specs.Bench.{no_records, bench_state}

-- byte `at` of a record is `is`
pub record Byte : Type 0 where
  pub at : ℕ
  pub is : ℕ

infix 70 ◌≔◌
abbrev pub ◌≔◌ : ℕ → ℕ → Byte
p ≔ v = record { at = p; is = v }

-- each record's other bytes are 00
abbrev pub put : List ℕ → List Byte → List ℕ
put b [] = b
put b (v ∷ vs) = put (set b v.at v.is) vs

abbrev pub deck_record : List Byte → List ℕ
deck_record vs = put (replicate 32 0) vs

-- the example deck (Bench 10)
abbrev pub example_deck : List ℕ
example_deck =
    deck_record (0 ≔ 0x22 ∷ 9 ≔ 0x01 ∷ 0xC ≔ 0x01 ∷ 0xD ≔ 0x02 ∷ 0x12 ≔ 0x04 ∷ 0x17 ≔ 0x20 ∷ [])
    ++ deck_record (0 ≔ 0x21 ∷ 9 ≔ 0x01 ∷ 0xB ≔ 0x01 ∷ 0x12 ≔ 0x04 ∷ 0x17 ≔ 0x40 ∷ [])
    ++ deck_record (0 ≔ 0x02 ∷ [])

-- the chain that a deck lays in the bench's memory
abbrev pub chain_of : List ℕ → Chain
chain_of b = chain_at (drives_of (bench_drives b)) 0 (bench_state b)

-- the commands of a chain, none where the walk refuses, and what stands for the first one then: its code is one that no command gets
abbrev pub commands_in : Chain → List Record
commands_in (refused n) = []
commands_in (accepted rs) = rs

abbrev pub no_command : Record
no_command = record { iopb = 0; address = 0; sector = 0; taken = 0; ranges = 0; count = 0; unit = 0; byte0 = 0; code = 255; fitted = 0; list = [] }

-- the number of a first pick at place p on a deck's chain; 255 where there is none
abbrev pub pick_in : List ℕ → ℕ → Chain → ℕ
pick_in b p (refused n) = 255
pick_in b p (accepted rs) =
    pick_number (drives_of (bench_drives b)) (length rs) p (state_of (bench_memory b) (images bench_image [] [] []) (filled (accepted rs) no_records))

-- what a row of the table asks
pub data Asks : Type 0 where
  -- the code of a command whose thirty bytes are these and else 00; byte 1F says whether the drive is protected
  code_of_command : List Byte → Asks
  -- the number of a first pick at this place of a deck
  first_pick : List ℕ → ℕ → Asks
  -- how many commands a chain has whose first IOPB has these bytes
  commands_of : List Byte → Asks
  -- this byte of an IOPB of these bytes, once its command is closed
  status_byte : List Byte → ℕ → Asks
  -- the number of a run of so many commands, over so many bytes of memory, the bench's image and a table of so many records
  run_over : ℕ → ℕ → ℕ → Asks

pub record Example : Type 0 where
  pub asks : Asks
  pub gives : ℕ

infix 69 ◌⇒◌
abbrev pub ◌⇒◌ : Asks → ℕ → Example
a ⇒ n = record { asks = a; gives = n }

abbrev pub first : List Byte → Record
first vs = get_or (commands_in (chain_of (deck_record vs))) 0 no_command

abbrev pub answer : Asks → ℕ
answer (code_of_command vs) = (first vs).code
answer (first_pick b p) = pick_in b p (chain_of b)
answer (commands_of vs) = length (commands_in (chain_of (deck_record vs)))
answer (status_byte vs j) = get_or (closing (drives_of (bench_drives (deck_record vs))) (first vs)) j 0
answer (run_over n m t) = run_number (drives_of (bench_drives [])) n (state_of (replicate m 0) (images bench_image [] [] []) (replicate t no_record))

abbrev pub Answered : List Example → Type 0
Answered rs = map (λ (r : Example). answer r.asks) rs ≡ map (λ (r : Example). r.gives) rs

-- Line 1 to 10, 21 and 22: a Read Data has its count at byte 9, cylinder at B, head at C, sector at D, address at 12 and 13
abbrev pub rows : List Example
rows =
    -- cylinder 1, head 1, sector 7, count 1, address 400H; count 2
    code_of_command (0 ≔ 2 ∷ 9 ≔ 1 ∷ 0xB ≔ 1 ∷ 0xC ≔ 1 ∷ 0xD ≔ 7 ∷ 0x12 ≔ 0x04 ∷ []) ⇒ 0x00
    ∷ code_of_command (0 ≔ 2 ∷ 9 ≔ 2 ∷ 0xB ≔ 1 ∷ 0xC ≔ 1 ∷ 0xD ≔ 7 ∷ 0x12 ≔ 0x04 ∷ []) ⇒ 0x10
    -- cylinder 2 with head 2; head 2; sector 8
    ∷ code_of_command (0 ≔ 2 ∷ 9 ≔ 1 ∷ 0xB ≔ 2 ∷ 0xC ≔ 2 ∷ 0x12 ≔ 0x04 ∷ []) ⇒ 0x10
    ∷ code_of_command (0 ≔ 2 ∷ 9 ≔ 1 ∷ 0xC ≔ 2 ∷ 0x12 ≔ 0x04 ∷ []) ⇒ 0x11
    ∷ code_of_command (0 ≔ 2 ∷ 9 ≔ 1 ∷ 0xD ≔ 8 ∷ 0x12 ≔ 0x04 ∷ []) ⇒ 0x12
    -- count 0 with cylinder 9
    ∷ code_of_command (0 ≔ 2 ∷ 0xB ≔ 9 ∷ 0x12 ≔ 0x04 ∷ []) ⇒ 0x13
    -- count 1 at address E00H; at E01H
    ∷ code_of_command (0 ≔ 2 ∷ 9 ≔ 1 ∷ 0x12 ≔ 0x0E ∷ []) ⇒ 0x00
    ∷ code_of_command (0 ≔ 2 ∷ 9 ≔ 1 ∷ 0x12 ≔ 0x0E ∷ 0x13 ≔ 0x01 ∷ []) ⇒ 0x4B
    -- CHEN with an odd next address, command 5; command 5, not chained
    ∷ code_of_command (0 ≔ 0x25 ∷ 0x17 ≔ 0x21 ∷ []) ⇒ 0x1E
    ∷ code_of_command (0 ≔ 0x05 ∷ []) ⇒ 0x14
    -- the example deck: pick 1 first, pick 2 first
    ∷ first_pick example_deck 1 ⇒ 6
    ∷ first_pick example_deck 2 ⇒ 0
    ∷ []

pub starred_rows : Answered rows
unfolding byte_of copied_at link_count links_in code_of early_code links_read record_of chain_at sizes_wrong maxima_right image_right maximum_on per_cylinder sector_count sector_number bench_memory bench_image bench_drive drive_of pick_number conflict crosses steps_of finished
starred_rows = refl

-- ---- ours

-- a write of sectors 0 to 2, and a read of sector 2 into other memory
abbrev later_sector : List ℕ
later_sector =
    deck_record (0 ≔ 0x21 ∷ 9 ≔ 3 ∷ 0x12 ≔ 0x04 ∷ 0x17 ≔ 0x20 ∷ [])
    ++ deck_record (0 ≔ 0x02 ∷ 9 ≔ 1 ∷ 0xD ≔ 2 ∷ 0x12 ≔ 0x0C ∷ [])

-- a read into the bytes of the second IOPB, which is a No Operation's
abbrev over_status : List ℕ
over_status = deck_record (0 ≔ 0x22 ∷ 9 ≔ 1 ∷ 0x13 ≔ 0x20 ∷ 0x17 ≔ 0x20 ∷ []) ++ deck_record []

-- two reads of sector 3, the first into address 400H, the second into 100H times h
abbrev two_reads : ℕ → List ℕ
two_reads h =
    deck_record (0 ≔ 0x22 ∷ 9 ≔ 1 ∷ 0xD ≔ 3 ∷ 0x12 ≔ 0x04 ∷ 0x17 ≔ 0x20 ∷ [])
    ++ deck_record (0 ≔ 0x02 ∷ 9 ≔ 1 ∷ 0xD ≔ 3 ∷ 0x12 ≔ h ∷ [])

abbrev pub ours : List Example
ours =
    -- sectors that overlap past the first only; data over status bytes (Shortcut 1)
    first_pick later_sector 1 ⇒ 6
    ∷ first_pick over_status 1 ⇒ 6
    -- into separate memory, and into the same (Line 25, 26)
    ∷ first_pick (two_reads 0x08) 1 ⇒ 0
    ∷ first_pick (two_reads 0x04) 1 ⇒ 6
    -- a No Operation of unit 1 (Code 3); a Read Data of unit 4, and count zero (Code 4)
    ∷ code_of_command (5 ≔ 1 ∷ []) ⇒ 0x00
    ∷ code_of_command (0 ≔ 2 ∷ 5 ≔ 4 ∷ 0x12 ≔ 0x04 ∷ []) ⇒ 0x42
    -- a protected drive: a write, also past the end of memory, and a read (Line 11, 12)
    ∷ code_of_command (0 ≔ 1 ∷ 9 ≔ 1 ∷ 0x12 ≔ 0x0F ∷ 0x1F ≔ 1 ∷ []) ⇒ 0x90
    ∷ code_of_command (0 ≔ 2 ∷ 9 ≔ 1 ∷ 0x12 ≔ 0x04 ∷ 0x1F ≔ 1 ∷ []) ⇒ 0x00
    -- CHEN with an odd next address ends the chain (Walk 2); with an even one another follows
    ∷ commands_of (0 ≔ 0x20 ∷ 0x17 ≔ 0x41 ∷ []) ⇒ 1
    ∷ commands_of (0 ≔ 0x20 ∷ 0x17 ≔ 0x40 ∷ []) ⇒ 2
    -- the status bytes of a command that fails, with ERRS and DONE set before; byte 2 on a protected drive (Step 6 to 9)
    ∷ status_byte (0 ≔ 0xC5 ∷ []) 0 ⇒ 0xC5
    ∷ status_byte (0 ≔ 0xC0 ∷ []) 0 ⇒ 0x40
    ∷ status_byte (0 ≔ 0x05 ∷ []) 1 ⇒ 0x14
    ∷ status_byte (0 ≔ 0x05 ∷ []) 2 ⇒ 0x03
    ∷ status_byte (0 ≔ 0x05 ∷ 0x1F ≔ 1 ∷ []) 2 ⇒ 0x13
    ∷ status_byte (0 ≔ 0x05 ∷ 1 ≔ 1 ∷ 2 ≔ 1 ∷ 3 ≔ 1 ∷ []) 3 ⇒ 0x00
    ∷ status_byte (0 ≔ 2 ∷ 3 ≔ 9 ∷ 9 ≔ 3 ∷ 0xB ≔ 1 ∷ 0xC ≔ 1 ∷ 0xD ≔ 6 ∷ 0x12 ≔ 0x04 ∷ []) 3 ⇒ 2
    -- memory at its limit and over it (Size 1), a table of 31 records (Size 4), 32 commands and 33 (Spoiled 1), and 1 before 9 (Run 8)
    ∷ run_over 32 65_536 32 ⇒ 0
    ∷ run_over 32 65_537 32 ⇒ 1
    ∷ run_over 0 30 31 ⇒ 1
    ∷ run_over 33 30 32 ⇒ 9
    ∷ run_over 33 30 31 ⇒ 1
    ∷ []

pub our_rows : Answered ours
unfolding byte_of copied_at link_count links_in code_of fitted_of early_code links_read record_of chain_at sizes_wrong maxima_right image_right maximum_on per_cylinder sector_count sector_number bench_memory bench_image bench_drive drive_of pick_number conflict crosses steps_of finished closing run_number
our_rows = refl
