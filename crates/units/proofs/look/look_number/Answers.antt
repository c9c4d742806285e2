-- `look_number` meets its contract.
use mathlib.Core.List.{[]}
use Rattle.meaning.specs.Look.{look_number}
use Rattle.units.proofs.look.look_number.Goals as goal

pub returns-then-images_wrong : goal.returns-then-images_wrong
unfolding look_number
returns-then-images_wrong c = simp (← c.images_wrong.ensures [], c.if-images_wrong.true)

pub returns-then-not-d : goal.returns-then-not-d
unfolding look_number
returns-then-not-d c = simp (← c.images_wrong.ensures [], c.if-images_wrong.false, ← c.drive_of-d.ensures, c.if-not-d.true)

pub returns-then-above : goal.returns-then-above
unfolding look_number
returns-then-above c = simp (← c.images_wrong.ensures [], c.if-images_wrong.false, ← c.drive_of-d.ensures, c.if-not-d.false, ← c.largest.ensures, ← c.above.ensures, c.if-above.true)

pub returns : goal.returns
unfolding look_number
returns c = simp (← c.images_wrong.ensures [], c.if-images_wrong.false, ← c.drive_of-d.ensures, c.if-not-d.false, ← c.largest.ensures, ← c.above.ensures, c.if-above.false)
