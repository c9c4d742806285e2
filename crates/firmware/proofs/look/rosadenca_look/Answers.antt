-- `firmware::rosadenca_look` meets its contract: its test is the definition's.
use mathlib.Core.Path.{sym}
use Rattle.meaning.specs.Drives.{drives_of}
use Rattle.meaning.proofs.Told.{refused_not_0, accepted_0}
use Rattle.meaning.proofs.Looks.{part_refused, part_accepted}
use Rattle.firmware.proofs.look.rosadenca_look.Goals as goal

pub returns-in-Ok : goal.returns-in-Ok
returns-in-Ok c =
    let a = c.args in
    sym (part_accepted (drives_of a.drives) a.unit a.sector _ (accepted_0 c.look_number.result _ c.look_number.ensures _ c.in-Ok.is))

pub returns-in-Err : goal.returns-in-Err
returns-in-Err c =
    let a = c.args in
    sym (part_refused (drives_of a.drives) a.unit a.sector _ (refused_not_0 c.look_number.result _ c.look_number.ensures c.in-Err.field-0 c.in-Err.is))
