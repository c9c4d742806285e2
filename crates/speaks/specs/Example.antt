-- The promises speak of something: the example deck (Bench 10) is a chain with a read, a write and a command that fails, and the definitions
-- take it, step by step. Each stand-in board (Contract 4 to 8) gives another answer somewhere here. Then a read by a link
-- list, byte by byte, two commands that a list of one range makes alike, one past the end of the drive, and two of different units.
use Rattle.std.specs.Prelude.{◌≡◌, ℕ, ◌%◌, cond, List, [], ◌∷◌, ◌++◌, map, get_or, set, take, replicate}
use Rattle.meaning.specs.declared.Drive.{Drive}
use Rattle.meaning.specs.declared.Record.{Record}
use Rattle.meaning.specs.declared.Walked.{Walked}
use Rattle.meaning.specs.declared.Ran.{Ran}
use Rattle.meaning.specs.Drives.{Drives, alone, drives_of}
use Rattle.meaning.specs.Store.{Space, memory, disk, images}
use Rattle.meaning.specs.Each.{up_to}
use Rattle.meaning.specs.State.{State, state_of}
use Rattle.meaning.specs.Walk.{walk_reply, walk_leaves}
use Rattle.meaning.specs.Run.{by_picks, ran_to, run_reply}
use Rattle.meaning.specs.Deck.{bench_drives}
use Rattle.meaning.specs.Bench.{no_records, bench_state}
use Rattle.meaning.specs.LastHead.{open_drive}
use Rattle.meaning.specs.Starred.{◌≔◌, put, example_deck}
use Rattle.meaning.specs.Scatter.{element, command}
use Rattle.meaning.specs.Units.{two}
use Rattle.promises.specs.OneRange.{SameButSgm}

abbrev bench : Drives
bench = drives_of (bench_drives example_deck)

abbrev pub walked : ℕ → Walked
walked start = walk_reply bench start (bench_state example_deck)

-- the state after the walk from 0
abbrev pub start : State
start = record { table = walk_leaves bench 0 (bench_state example_deck); store = (bench_state example_deck).store }

-- the run by a list of picks
abbrev pub ran : List ℕ → Ran
ran ps = run_reply bench 3 (by_picks bench 3 ps) start

abbrev pub after : List ℕ → State
after ps = (ran_to bench 3 (by_picks bench 3 ps) start).state

-- steps, picks refused, and 1 where all commands are finished
abbrev pub told : Ran → List ℕ
told r = r.steps ∷ r.refused ∷ cond r.finished 1 0 ∷ []

pub record Speaks : Type 0 where
  -- a read and a write with code 00, and a command that fails
  pub accepted : (walked 0).number ≡ 0
  pub codes : map (λ (r : Record). r.code) (take 3 start.table) ≡ 0x00 ∷ 0x00 ∷ 0x13 ∷ []
  -- no board that refuses everything, or gives one fixed reply
  pub refused : (walked 1).number ≡ 2
  -- no invented counts: pick 1 before pick 0 is passed over, three steps are taken, and all is finished
  pub counts : told (ran (2 ∷ 1 ∷ 0 ∷ 1 ∷ [])) ≡ 3 ∷ 1 ∷ 1 ∷ []
  -- no board that does nothing: every byte of sector 10 is 10, and comes to 400H
  pub before : get_or (start.store memory) 0x400 0 ≡ 0
  pub moved : get_or ((after (0 ∷ [])).store memory) 0x400 0 ≡ 10

-- ---- a link list

-- a drive of one sector, of which byte j is the rest of j by 251
abbrev small : Drive
small = open_drive 0 0 0 0

abbrev one_sector : Drives
one_sector = drives_of (alone small)

abbrev sector_byte : ℕ → ℕ
sector_byte j = j % 251

-- A Read Data of it by a list of three ranges: of 200 bytes at 40H, of 200 at 120H and of 112 at 1A0H. The sector straddles all three; the
-- last two overlap, from 1A0H to 1E7H; and the list itself, at 50H, lies in the first.
abbrev listed : State
listed =
    state_of
    (put (replicate 0x220 0) (command 0 0x12 0x18 0x50 0 ++ element 0x50 200 0x40 ++ element 0x58 200 0x120 ++ element 0x60 112 0x1A0))
    (images (map sector_byte (up_to 512)) [] [] [])
    no_records

-- memory after its one step
abbrev pub step_taken : List ℕ
step_taken =
    let s : State = record { table = walk_leaves one_sector 0 listed; store = listed.store } in
    (ran_to one_sector 1 (by_picks one_sector 1 (0 ∷ [])) s).state.store memory

abbrev pub bytes_at : List ℕ → List ℕ
bytes_at xs = map (λ x. get_or step_taken x 0) xs

pub record SpeaksOfLists : Type 0 where
  pub accepted : (walk_reply one_sector 0 listed).commands ≡ 1
  -- bytes 0, 16, .. of the sector come to 40H, 50H, ..: what begins and ends a range, the list, and what both of the last two ranges hold,
  -- where the later one of the list stays
  pub moved :
      bytes_at (0x40 ∷ 0x50 ∷ 0x107 ∷ 0x120 ∷ 0x19F ∷ 0x1A0 ∷ 0x1E7 ∷ 0x1E8 ∷ 0x20F ∷ [])
      ≡ map sector_byte (0 ∷ 16 ∷ 199 ∷ 200 ∷ 327 ∷ 400 ∷ 471 ∷ 472 ∷ 511 ∷ [])
  -- the bytes between the ranges and past the last stay, and bytes 0 and 1 of the IOPB say that it is done
  pub stays : bytes_at (0x3F ∷ 0x108 ∷ 0x11F ∷ 0x210 ∷ []) ≡ 0 ∷ 0 ∷ 0 ∷ 0 ∷ []
  pub closed : bytes_at (0 ∷ 1 ∷ []) ≡ 0x52 ∷ 0x00 ∷ []

-- ---- a list of one range, and none

-- a Read Data of the sector by a list of one range, at 40H, and the same without SGM at that address: bytes 0, 6, 12H and 13H are others
abbrev pub with_list : List ℕ
with_list = put (replicate 0x240 0) (command 0 0x12 0x08 0x20 0 ++ element 0x20 512 0x40)

abbrev pub without_list : List ℕ → List ℕ
without_list m = set (set (set (set m 0 0x02) 6 0x00) 0x12 0x00) 0x13 0x40

abbrev pub SpeaksOfOneRange : Type 0
SpeaksOfOneRange = SameButSgm with_list (without_list with_list) one_sector 0

-- ---- past the end of the drive

-- A drive of three sectors, full of 7. The first command reads sector 0 to 40H, over the IOPB of the second, which is at 60H: that one asks
-- for five sectors from sector 1 on, of which there are two.
abbrev three_sectors : Drives
three_sectors = drives_of (alone (open_drive 0 0 2 2))

abbrev past_the_end : State
past_the_end =
    state_of
    (put (replicate 0x240 0) (command 0 0x22 0 0x40 0x60 ++ command 0x60 0x02 0 0x40 0 ++ 0x69 ≔ 5 ∷ 0x6D ≔ 1 ∷ []))
    (images (replicate 1536 7) [] [] [])
    no_records

abbrev pub walked_past : State
walked_past = record { table = walk_leaves three_sectors 0 past_the_end; store = past_the_end.store }

-- byte x of memory after both
abbrev pub closed_at : ℕ → ℕ
closed_at x = get_or ((ran_to three_sectors 2 (by_picks three_sectors 2 (0 ∷ 1 ∷ [])) walked_past).state.store memory) x 0

pub record SpeaksOfEnds : Type 0 where
  pub accepted : (walk_reply three_sectors 0 past_the_end).commands ≡ 2
  -- the walk keeps what would have fitted: of the first nothing, of the second two sectors
  pub kept : map (λ (r : Record). r.fitted) (take 2 walked_past.table) ≡ 0 ∷ 2 ∷ []
  -- code and number are posted, over what the first command laid there; the count beside them is now 7 x 257
  pub posted : map closed_at (0x61 ∷ 0x63 ∷ []) ≡ 0x10 ∷ 2 ∷ []
  pub laid : map closed_at (0x64 ∷ 0x68 ∷ 0x69 ∷ []) ≡ 7 ∷ 7 ∷ 7 ∷ []

-- ---- two units

-- Units 0 and 1 have one sector each, number 0: that of unit 0 is full of 5, that of unit 1 full of 9. The first command reads the sector of
-- unit 1 to 40H; the second, at 20H, writes that of unit 0 from 42H on, two bytes further, so that its last two bytes are zeros.
abbrev two_units : Drives
two_units = drives_of (two small small)

abbrev on_two : State
on_two =
    state_of
    (put (replicate 0x242 0) (command 0 0x22 0 0x40 0x20 ++ 0x05 ≔ 1 ∷ command 0x20 0x01 0 0x42 0))
    (images (replicate 512 5) (replicate 512 9) [] [])
    no_records

abbrev pub walked_two : State
walked_two = record { table = walk_leaves two_units 0 on_two; store = on_two.store }

-- some bytes of a space after some picks
abbrev pub bytes_after : List ℕ → Space → List ℕ → List ℕ
bytes_after ps p xs = map (λ x. get_or ((ran_to two_units 2 (by_picks two_units 2 ps) walked_two).state.store p) x 0) xs

pub record SpeaksOfUnits : Type 0 where
  pub accepted : (walk_reply two_units 0 on_two).commands ≡ 2
  pub units : map (λ (r : Record). r.unit) (take 2 walked_two.table) ≡ 1 ∷ 0 ∷ []
  -- the sector of unit 1 comes into memory, and not that of unit 0 which has the same number
  pub moved : bytes_after (0 ∷ []) memory (0x40 ∷ 0x23F ∷ 0x240 ∷ []) ≡ 9 ∷ 9 ∷ 0 ∷ []
  -- then the sector of unit 0 is written, and that of unit 1 stays
  pub kept : bytes_after (0 ∷ 1 ∷ []) (disk 0) (0 ∷ 509 ∷ 510 ∷ 511 ∷ []) ≡ 9 ∷ 9 ∷ 0 ∷ 0 ∷ []
  pub stays : bytes_after (0 ∷ 1 ∷ []) (disk 1) (0 ∷ 509 ∷ 510 ∷ 511 ∷ []) ≡ 9 ∷ 9 ∷ 9 ∷ 9 ∷ []
