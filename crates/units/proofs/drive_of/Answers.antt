-- `drive_of` meets its contract: a unit above 3 has the drive that an absent one counts as.
use borrow.Author.Rules.{rules}
use mathlib.Core.Path.{◌≡◌, ap, ◌∙◌}
use lib.ListN.{get_or}
use lib.Dec.{ltb}
use Rattle.meaning.specs.declared.Drive.{Drive}
use Rattle.meaning.specs.Drives.{drive_of, there, no_drive, most_units}
use Rattle.units.specs.OfUnit.{of_unit}
use Rattle.units.proofs.ByUnit.{there_or_none}
use Rattle.units.proofs.drive_of.Goals as goal

pub returns : goal.returns
unfolding drive_of
returns c =
    let units = c.args.l.units in
    let u = c.args.unit in
    let none : c.default.result ≡ no_drive = search rules in
    let own = c.of_unit.ensures ∙ ap (λ (n : Drive). of_unit units n u) none in
    c.there.ensures ∙ ap there own ∙ there_or_none (ltb u most_units) (get_or units u no_drive)
