-- `board::step::move_pieces` meets its contract: its loop keeps `Laying`.
use native.Mathlib.Omega.{arith}
use Rattle.board.proofs.Windows.{laying_next, laying_done}
use Rattle.board.proofs.step.move_pieces.Goals as goal

pub loop-x-preserved : goal.loop-x-preserved
loop-x-preserved c = let a = c.args in
    let l = c.loop-x in
    let v = c.move_piece in
    record {
      whole = laying_next a.w.reads a.w.disk a.w.lo a.w.hi a.list.now a.memory.now a.image.now l.memory l.image l.b l.x-index l.invariant.whole c.loop-x-test.true v.new.memory v.new.image v.ensures;
      small = omega (arith, l.invariant.small);
    }

pub returns : goal.returns
returns c = let a = c.args in
    let l = c.loop-x in
    laying_done a.w.reads a.w.disk a.w.lo a.w.hi a.list.now a.memory.now a.image.now l.memory l.image l.b l.x-index l.invariant.whole c.loop-x-test.false
