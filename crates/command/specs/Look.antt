-- What a run and a pick see of a record before a step: its footprint, whether it is bad, and whether it may block the command that is
-- picked. n is how many bytes memory has, and m are the rooms of the units; `wanted` is the footprint of the picked command.
use Rattle.std.specs.Prelude.{ℕ, Bool, not, ◌&&◌}
use Rattle.meaning.specs.declared.Record.{Record}
use Rattle.meaning.specs.Command.{finished}
use Rattle.units.specs.declared.rooms.Rooms.{Rooms}
use Rattle.units.specs.Rooms.{room_of}
use Rattle.command.specs.declared.touch.Footprint.{Footprint}
use Rattle.command.specs.declared.sound.Judged.{Judged}
use Rattle.command.specs.declared.sound.Looked.{Looked}
use Rattle.command.specs.Footprints.{footprint_of, footprints_meet}
use Rattle.command.specs.Data.{bad_by}

abbrev pub judged_as : ℕ → Rooms → Record → Judged
judged_as n m r = record { footprint = footprint_of r; bad = bad_by n (room_of m r.unit) r }

-- it is earlier, it is unfinished, and their footprints meet
unfoldable pub may_block : Record → Footprint → Bool → Bool
unfolding finished footprint_of footprints_meet
may_block r wanted earlier = earlier && (not (finished r) && footprints_meet (footprint_of r) wanted)

abbrev pub looked_as : ℕ → Rooms → Record → Footprint → Bool → Looked
looked_as n m r wanted earlier = record { bad = bad_by n (room_of m r.unit) r; near = may_block r wanted earlier }
