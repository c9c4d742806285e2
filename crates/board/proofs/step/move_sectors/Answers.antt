-- `board::step::move_sectors` meets its contract: without a list the sectors lie in one piece, else in the pieces of the list.
use Rattle.board.proofs.Moving.{listed_room, plain_done, listed_done}
use Rattle.board.proofs.step.move_sectors.Goals as goal

pub move_pieces-requires : goal.move_pieces-requires
move_pieces-requires c = let a = c.args in
    let room = listed_room a.n a.r.now a.memory.now a.image.now c.requires.0 c.requires.1 c.if-r-eq0.false in
    (c.links_of.ensures.few, rw c.links_of.ensures.value room.0, room.1)

pub returns-then-r-eq0 : goal.returns-then-r-eq0
returns-then-r-eq0 c = let a = c.args in
    let v = c.move_plain in
    plain_done a.n a.r.now a.memory.now a.image.now c.requires.0 c.requires.1 c.reads.result c.reads.ensures v.new.memory v.new.image c.if-r-eq0.true v.ensures

pub returns-else-r-eq0 : goal.returns-else-r-eq0
returns-else-r-eq0 c = let a = c.args in
    let v = c.move_pieces in
    listed_done a.n a.r.now a.memory.now a.image.now c.requires.0 c.requires.1 c.reads.result c.reads.ensures v.new.memory v.new.image c.if-r-eq0.false (rw (← c.links_of.ensures.value) v.ensures)
