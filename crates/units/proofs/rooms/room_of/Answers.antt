-- `room_of` meets its contract: it is the definition's own choice by unit.
use Rattle.units.specs.Rooms.{room_of}
use Rattle.units.proofs.rooms.room_of.Goals as goal

pub returns : goal.returns
unfolding room_of
returns c = c.of_unit.ensures
