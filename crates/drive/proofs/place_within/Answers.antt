-- `drive::place_within` meets its contract: its three numbers are within their maxima, so they fit.
use borrow.Author.Rules.{rules}
use mathlib.Core.Path.{◌≡◌, refl}
use Prim.Native.Nat.{ℕ, ◌/◌, ◌%◌, ◌≤◌, ◌<◌}
use native.Mathlib.Omega.{arith}
use mathlib.Core.Bool.{true}
use Rattle.meaning.specs.declared.Drive.{Drive}
use Rattle.meaning.specs.Sectors.{per_track, per_cylinder, sector_count, maxima_right}
use Rattle.meaning.specs.Place.{place_of}
use Rattle.meaning.proofs.Numbering.{within_track, place_on_drive}
use Rattle.drive.proofs.place_within.Goals as goal

-- n is the sectors of a cylinder
within : (d : Drive) (sector n : ℕ) → n ≡ per_cylinder d → (maxima_right d ≡ true) × (sector < sector_count d)
    → (sector / n ≤ d.cylinder) × (sector % n / per_track d ≤ d.head) × (sector % n % per_track d ≤ d.sector)
unfolding place_of
within d sector n e h =
    let o = place_on_drive d h.0 sector h.1 in
    let t = within_track d h.0 (sector % per_cylinder d / per_track d) in
    rw e (o.cylinder_in, o.head_in, omega (arith, o.sector_in))

pub overflow_cast-result : goal.overflow_cast-result
overflow_cast-result c = let h = within _ _ _ c.on_cylinder-on_cylinder.ensures.value c.requires in search rules

pub overflow_cast-result-2 : goal.overflow_cast-result-2
overflow_cast-result-2 c = let h = within _ _ _ c.on_cylinder-on_cylinder.ensures.value c.requires in search rules

pub returns : goal.returns
unfolding place_of
returns c = rw c.on_cylinder-on_cylinder.ensures.value refl
