-- The sectors of several steps, moved one after another with no close between them; and some bytes of the data, moved at once, in the pieces
-- of their ranges. proofs/Windows proves that the one is the other.
use Rattle.std.specs.Prelude.{ℕ, zero, suc, ◌+◌, ◌*◌, Bool, cond, List, map}
use Rattle.meaning.specs.declared.Record.{Record}
use Rattle.meaning.specs.Store.{Store, memory, disk, area, Move, copy, moves}
use Rattle.meaning.specs.Sectors.{sector_bytes}
use Rattle.meaning.specs.Ranges.{Range}
use Rattle.meaning.specs.Pieces.{Piece, pieces_of}
use Rattle.meaning.specs.Step.{sector_move, stepped}

unfoldable pub sectors_moved : ℕ → Record → Store → Store
unfolding moves sector_move stepped
sectors_moved zero r s = s
sectors_moved (suc k) r s = sectors_moved k (stepped r) (moves (sector_move r r.taken) s)

-- where a command's data begins on the disk of its unit
abbrev pub on_disk : Record → ℕ
on_disk r = sector_bytes * r.sector

-- so many bytes that lie side by side in memory and on the disk of unit u: to memory where they are read, to the disk where they are written
abbrev pub part_move : ℕ → Bool → ℕ → ℕ → ℕ → Move
part_move u reading in_memory on_disk many =
    cond reading (copy (area (disk u) on_disk many) memory in_memory)
    (copy (area memory in_memory many) (disk u) on_disk)

-- a piece of data that begins at `from` on the disk of unit u
abbrev pub piece_move : ℕ → Bool → ℕ → Piece → Move
piece_move u reading from p = part_move u reading p.from (from + p.at) p.many

-- bytes lo up to hi of the data in these ranges, of which the first is byte b of the data
unfoldable pub window_moved : ℕ → Bool → ℕ → List Range → ℕ → ℕ → ℕ → Store → Store
unfolding moves
window_moved u reading from rs b lo hi s = moves (map (piece_move u reading from) (pieces_of rs b lo hi)) s
