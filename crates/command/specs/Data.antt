-- What number 9 asks of a record, as the code tests it: of its data the hull alone, of its unit the room, and of memory how many bytes it
-- has, n. proofs/Data proves that this is what the rules ask, where sizes are right; where they are not, number 1 comes first.
use Rattle.std.specs.Prelude.{ℕ, ◌+◌, ◌*◌, Bool, not, ◌&&◌, ◌||◌, ltb, eqb}
use Rattle.meaning.specs.Drives.{Drives}
use Rattle.meaning.specs.declared.Record.{Record}
use Rattle.meaning.specs.Fields.{iopb_bytes}
use Rattle.meaning.specs.Sectors.{sector_bytes}
use Rattle.meaning.specs.Links.{most_links}
use Rattle.meaning.specs.Command.{writes, transfers, steps_of}
use Rattle.units.specs.declared.rooms.Room.{Room}
use Rattle.units.specs.Rooms.{room_in}
use Rattle.command.specs.Footprints.{data_hull}

unfoldable pub bad_data : ℕ → Record → Bool
bad_data n r =
    ltb most_links r.ranges || (ltb n (data_hull r).high || not (eqb (data_hull r).bytes (sector_bytes * r.count)))

-- of a transfer; m is the room of its own unit, which has no sector where the unit is absent
unfoldable pub bad_move : ℕ → Room → Record → Bool
unfolding bad_data
bad_move n m r =
    eqb r.count 0 || (bad_data n r || (ltb m.sectors.0 (r.sector + r.count) || writes r && m.protected))

-- of any record, by the room of its own unit
unfoldable pub bad_by : ℕ → Room → Record → Bool
unfolding bad_move steps_of
bad_by n m r = ltb n (r.iopb + iopb_bytes) || (ltb (steps_of r) r.taken || transfers r && bad_move n m r)

-- of any record, by the drives
unfoldable pub bad_in : ℕ → Drives → Record → Bool
unfolding bad_by
bad_in n d r = bad_by n (room_in (d.on r.unit)) r
