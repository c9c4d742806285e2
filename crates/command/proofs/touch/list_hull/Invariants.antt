-- `command::touch::list_hull` meets its contract: the hull so far, with the ranges that are left, is the whole; and a range has no more
-- bytes than its length can say.
use Rattle.std.proofs.Common.{◌≡◌, ◌*◌, ◌≤◌, drop, map}
use Rattle.meaning.specs.Links.{range_of}
use Rattle.command.specs.Footprints.{hull_of, hull_from}
use Rattle.command.proofs.touch.list_hull.Given as goal

abbrev pub invariant-loop-x : goal.invariant-loop-x
invariant-loop-x l =
    record {
      whole : hull_of (map range_of l.list) ≡ hull_from l.h (map range_of (drop l.x-index l.list));
      few : l.h.bytes ≤ 65_535 * l.x-index;
    }
