-- `drive::maximum_on` meets its contract: the head is the last, or another.
use mathlib.Core.Path.{sym, ap, ◌∙◌}
use Rattle.meaning.specs.Sectors.{maximum_on}
use Rattle.meaning.proofs.Numbering.{on_last, on_other}
use Rattle.drive.proofs.maximum_on.Goals as goal

pub returns-then-head-d : goal.returns-then-head-d
returns-then-head-d c = sym (ap (maximum_on _) c.if-head-d.true ∙ on_last _)

pub returns : goal.returns
returns c = sym (on_other _ _ c.if-head-d.false)
