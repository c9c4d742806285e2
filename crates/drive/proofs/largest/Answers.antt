-- `drive::largest` meets its contract: it is one less than the count.
use mathlib.Core.Path.{ap}
use Prim.Native.Nat.{ℕ, ◌-◌}
use Rattle.meaning.specs.Sectors.{largest_sector}
use Rattle.drive.proofs.largest.Goals as goal

pub returns : goal.returns
unfolding largest_sector
returns c = ap (λ (n : ℕ). n - 1) c.sectors-count.ensures.value
