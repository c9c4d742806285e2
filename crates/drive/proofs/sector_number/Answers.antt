-- `drive::sector_number` meets its contract: each of its parts is what the calls ensure.
use mathlib.Core.Path.{ap, ◌∙◌}
use Prim.Native.Nat.{ℕ, ◌+◌, ◌*◌}
use Rattle.meaning.specs.Sectors.{sector_number}
use Rattle.drive.proofs.sector_number.Goals as goal

pub returns : goal.returns
unfolding sector_number
returns c =
    let a = c.args in
    ap (λ (n : ℕ). n + a.head * (a.d.sector + 1) + a.sector) (c.of_cylinders.ensures.value ∙ ap (λ (n : ℕ). a.cylinder * n) c.on_cylinder-on_cylinder.ensures.value)
