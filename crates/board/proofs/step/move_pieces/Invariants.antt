-- `board::step::move_pieces` meets its contract: what is left to move, moved from here on, is the whole.
use Rattle.std.proofs.Common.{◌*◌, ◌≤◌}
use Rattle.board.proofs.Windows.{Laying}
use Rattle.board.proofs.step.move_pieces.Given as goal

abbrev pub invariant-loop-x : goal.invariant-loop-x
invariant-loop-x l =
    record {
      whole : Laying l.w.reads l.w.disk l.w.lo l.w.hi l.list l.initial.memory l.initial.image l.memory l.image l.b l.x-index;
      small : l.b ≤ 65_535 * l.x-index;
    }
