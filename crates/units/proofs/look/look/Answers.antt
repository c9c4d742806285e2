-- `look` meets its contract.
use Rattle.meaning.specs.Sectors.{sector_bytes}
use Rattle.meaning.proofs.Told.{refused_not_0, accepted_0}
use Rattle.meaning.proofs.Looks.{image_map, look_in_image, part_refused, part_accepted}
use Prim.Native.Nat.{ℕ, ◌*◌}
use native.Mathlib.Nat.{add-sub_cancel_left, add-zero}
use native.Mathlib.Omega.{arith}
use lib.ListN.{take, drop}
use Rattle.meaning.specs.Drives.{drives_of}
use mathlib.Core.List.{List, []}
use mathlib.Core.Path.{refl, sym, ap, ◌∙◌}
use Rattle.units.proofs.look.look.Goals as goal

pub returns-in_default : goal.returns-in_default
returns-in_default c =
    let a = c.args in
    let whole = c.image_of-image.ensures in
    rw (part_refused (drives_of a.disks.drives) a.unit a.sector _ (refused_not_0 c.look_number.result _ c.look_number.ensures c.in_default.field-0 c.in_default.is))
    (whole.0, whole.1 ∙ sym (add-zero _), refl)

pub slice_bounds-result-end-2 : goal.slice_bounds-result-end-2
slice_bounds-result-end-2 c =
    let a = c.args in
    let whole = c.image_of-image.ensures in
    let room = look_in_image (drives_of a.disks.drives) a.unit a.sector [] a.disks.image0.now a.disks.image1.now a.disks.image2.now a.disks.image3.now (accepted_0 c.look_number.result _ c.look_number.ensures _ c.in-Ok.is) in
    rw (whole.2 ∙ image_map (λ x. x.now) a.unit a.disks.image0 a.disks.image1 a.disks.image2 a.disks.image3) room

pub returns : goal.returns
returns c =
    let a = c.args in
    let whole = c.image_of-image.ensures in
    let start = sector_bytes * a.sector in
    rw (part_accepted (drives_of a.disks.drives) a.unit a.sector _ (accepted_0 c.look_number.result _ c.look_number.ensures _ c.in-Ok.is))
    (whole.0, omega (arith, whole.1), ap (λ (n : ℕ). take n (drop start c.image_of-image.result.now)) (add-sub_cancel_left start sector_bytes) ∙ ap (λ (l : List ℕ). take sector_bytes (drop start l)) whole.2)
