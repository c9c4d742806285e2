-- `room_in` meets its contract.
use Rattle.units.specs.Rooms.{room_in}
use Rattle.units.proofs.rooms.room_in.Goals as goal

pub returns-then-d : goal.returns-then-d
unfolding room_in
returns-then-d c = simp c.if-d.true (λ j. record { sectors = record { 0 = c.sectors.ensures.value j }; protected = c.args.d.protected })

pub returns-else-d : goal.returns-else-d
unfolding room_in
returns-else-d c = simp c.if-d.false
