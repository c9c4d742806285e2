-- `drive::on_cylinder` meets its contract: its sum is the definition's.
use mathlib.Core.Path.{refl}
use Rattle.meaning.specs.Sectors.{per_cylinder}
use Rattle.drive.proofs.on_cylinder.Goals as goal

pub returns-clause-value : goal.returns-clause-value
unfolding per_cylinder
returns-clause-value c = refl
