-- `bench::read_all` ends: each turn of its loop that goes on has read a byte more, so the room left is less.
use Prim.Native.Nat.{◌≤◌, ◌-◌}
use lib.ListN.{length}
use Rattle.bench.proofs.read_all.Given as goal

abbrev pub invariant-loop-n : goal.invariant-loop-n
invariant-loop-n l = l.n ≤ length l.initial.run

abbrev pub decreases-loop-n : goal.decreases-loop-n
decreases-loop-n l = length l.initial.run - l.n
