-- One step of a command on memory and the disk of its own unit, and the bytes of a close. A step is a short list of moves.
use Rattle.std.specs.Prelude.{ℕ, ◌+◌, ◌-◌, ◌*◌, ◌%◌, Bool, cond, List, [], ◌∷◌, ◌++◌, map, eqb}
use Rattle.meaning.specs.declared.Drive.{Drive}
use Rattle.meaning.specs.Store.{memory, disk, Store, Area, area, Move, copy, post, moves}
use Rattle.meaning.specs.Sectors.{sector_bytes, on_disk}
use Rattle.meaning.specs.Drives.{Drives}
use Rattle.meaning.specs.declared.Record.{Record}
use Rattle.meaning.specs.Command.{reads, writes, steps_of}
use Rattle.meaning.specs.Pieces.{Piece, pieces_of}
use Rattle.meaning.specs.Touch.{data_bytes}

-- step k of a command moves its k-th sector, in rising sector number, of its own unit; k counts from 0 (Step 3)
abbrev pub sector_at : Record → ℕ → Area
sector_at r k = on_disk r.unit (r.sector + k)

-- between the disk and bytes 512 k to 512 k + 511 of its data, in the pieces that these are laid in
abbrev pub pieces_at : Record → ℕ → List Piece
pieces_at r k = pieces_of (data_bytes r) 0 (sector_bytes * k) (sector_bytes * k + sector_bytes)

-- a piece in memory, and the part of the sector that goes there or comes from there
abbrev pub in_memory : Piece → Area
in_memory p = area memory p.from p.many

abbrev pub in_sector : Record → ℕ → Piece → Area
in_sector r k p = area (disk r.unit) ((sector_at r k).from + (p.at - sector_bytes * k)) p.many

-- from the disk for a read, to the disk for a write; piece by piece in the order of the list, so that where ranges overlap the later
-- range of the list stays
abbrev pub sector_move_by : Bool → Bool → Record → ℕ → List Move
sector_move_by rd wr r k =
    cond rd (map (λ p. copy (in_sector r k p) memory (in_memory p).from) (pieces_at r k))
    (cond wr (map (λ p. copy (in_memory p) (disk r.unit) (in_sector r k p).from) (pieces_at r k)) [])

unfoldable pub sector_move : Record → ℕ → List Move
sector_move r k = sector_move_by (reads r) (writes r) r k

-- Step 6: byte 0 of a close is the copied byte 0 with DONE set, and ERRS set exactly if the code is not 00
unfoldable pub closing_byte0 : Record → ℕ
closing_byte0 r = r.byte0 % 64 + 64 + cond (eqb r.code 0) 0 128

-- Step 8: byte 2 says on cylinder and ready, and WRPT for a protected drive; an absent unit counts as open (Board 11)
abbrev pub drive_status : Drive → ℕ
drive_status d = cond d.protected 0x13 0x03

-- Step 7 to 9: byte 1 is the code; byte 2 goes by the command's own unit; byte 3 is how many sectors would have fitted, as the record has it,
-- whatever the code
unfoldable pub closing : Drives → Record → List ℕ
unfolding closing_byte0
closing d r = closing_byte0 r ∷ r.code ∷ drive_status (d.on r.unit) ∷ r.fitted ∷ []

-- Step 5: a close writes bytes 0 to 3 of the command's own IOPB
unfoldable pub close_move : Drives → Record → List Move
unfolding closing
close_move d r = post memory r.iopb (closing d r) ∷ []

-- Step 4: the last step also closes the command, after its sector has moved
unfoldable pub step_moves : Drives → Record → List Move
unfolding sector_move close_move steps_of
step_moves d r = sector_move r r.taken ++ cond (eqb (r.taken + 1) (steps_of r)) (close_move d r) []

-- the next step of a command
unfoldable pub step : Drives → Record → Store → Store
unfolding step_moves moves
step d r s = moves (step_moves d r) s

-- the same command with so many steps taken
unfoldable pub with_taken : ℕ → Record → Record
with_taken n r =
    record {
      iopb = r.iopb;
      address = r.address;
      sector = r.sector;
      taken = n;
      ranges = r.ranges;
      count = r.count;
      unit = r.unit;
      byte0 = r.byte0;
      code = r.code;
      fitted = r.fitted;
      list = r.list;
    }

-- its record after that step: one step more is taken
unfoldable pub stepped : Record → Record
unfolding with_taken
stepped r = with_taken (r.taken + 1) r
