-- `chain::walk::follow_chain` meets its contract: its loop keeps `Walking`, and that the IOPBs so far all end at or before
-- `past`; each return is one of the laws of `Follow`.
use lib.ListN.{take}
use Rattle.chain.specs.Past.{AllEnd}
use Prim.Native.Nat.{◌-◌}
use Rattle.chain.proofs.Follow.{Walking}
use Rattle.chain.proofs.walk.follow_chain.Given as goal

abbrev pub invariant-loop-n : goal.invariant-loop-n
invariant-loop-n l =
    Walking l.memory l.start l.addresses l.n l.at × AllEnd l.past (take l.n l.addresses)

abbrev pub decreases-loop-n : goal.decreases-loop-n
decreases-loop-n l = 32 - l.n
