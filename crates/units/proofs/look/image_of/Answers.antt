-- `image_of` meets its contract: of four images the unit's own is chosen, and of no unit the first.
use mathlib.Core.Path.{refl, ◌∙◌}
use Rattle.units.proofs.ByUnit.{of_unit_image}
use Rattle.units.proofs.look.image_of.Goals as goal

pub returns : goal.returns
returns c =
    let d = c.args.disks in
    rw (c.of_unit.ensures ∙ of_unit_image c.args.unit d.image0 d.image1 d.image2 d.image3) (refl, refl, refl)
