-- After k turns of `chain::walk::fill` the records of the first k addresses are made in their places.
use mathlib.Core.Path.{◌≡◌}
use Rattle.meaning.specs.Drives.{drives_of}
use Rattle.chain.specs.Records.{filled_at}
use Rattle.chain.proofs.walk.fill.Given as goal

abbrev pub invariant-loop-k : goal.invariant-loop-k
invariant-loop-k l = l.table ≡ filled_at l.memory (drives_of l.l) l.k l.addresses l.initial.table
