-- `drive::maxima_right` meets its contract: its comparison is the definition's.
use mathlib.Core.Path.{refl}
use Rattle.meaning.specs.Sectors.{maxima_right}
use Rattle.drive.proofs.maxima_right.Goals as goal

pub returns : goal.returns
unfolding maxima_right
returns c = refl
