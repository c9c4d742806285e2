-- The places of a drive: a cylinder, a head and a sector, each within its maximum; the number of each, the place after each, and the
-- place of a number (Place 1 to 8).
use Rattle.std.specs.Prelude.{◌≡◌, ℕ, ◌+◌, ◌/◌, ◌%◌, ◌≤◌, not, cond, [], ◌∷◌, ltb, eqb}
use Rattle.std.proofs.Math.Option.{Option, some, none}
use Rattle.meaning.specs.First.{first_of, ◌↝◌}
use Rattle.meaning.specs.declared.Drive.{Drive}
use Rattle.meaning.specs.declared.Place.{Place}
use Rattle.meaning.specs.declared.Placed.{Placed}
use Rattle.meaning.specs.Sectors.{per_track, maximum_on, per_cylinder, largest_sector, sector_number, maxima_right}

abbrev pub place_at : ℕ → ℕ → ℕ → Place
place_at cylinder head sector = record { cylinder = cylinder; head = head; sector = sector }

-- p is a place of the drive: none of its three numbers is above its maximum (Place 1)
pub record OnDrive (d : Drive) (p : Place) : Type 0 where
  pub cylinder_in : p.cylinder ≤ d.cylinder
  pub head_in : p.head ≤ d.head
  pub sector_in : p.sector ≤ maximum_on d p.head

-- the number of the sector there (Drive 3)
abbrev pub number_of : Drive → Place → ℕ
number_of d p = sector_number d p.cylinder p.head p.sector

-- the place after p: the next sector of its head, or sector 0 of the next head, or head 0 and sector 0 of the next cylinder; there is none
-- after the drive's last (Place 2)
unfoldable pub place_after : Drive → Place → Option Place
place_after d p =
    cond (ltb p.sector (maximum_on d p.head)) (some (place_at p.cylinder p.head (p.sector + 1)))
    (cond (ltb p.head d.head) (some (place_at p.cylinder (p.head + 1) 0))
    (cond (ltb p.cylinder d.cylinder) (some (place_at (p.cylinder + 1) 0 0))
    none))

-- what a place q after p is, by its number: a place of the drive, whose number is one more; where there is none, p has the drive's largest
-- number (Place 2)
abbrev pub Follows : Drive → Place → Option Place → Type 0
Follows d p none = number_of d p ≡ largest_sector d
Follows d p (some q) = OnDrive d q × (number_of d q ≡ number_of d p + 1)

-- the place of number n: its whole cylinders, then the whole tracks of what is left, then the sectors of what is left then (Place 3)
unfoldable pub place_of : Drive → ℕ → Place
place_of d n =
    let rest = n % per_cylinder d in
    place_at (n / per_cylinder d) (rest / per_track d) (rest % per_track d)

-- what the call answers: 1 for a drive that cannot be, then 10 for a number that the drive has not, otherwise 0 (Place 5 to 7)
unfoldable pub placed_number : Drive → ℕ → ℕ
placed_number d n =
    first_of
    (not (maxima_right d) ↝ 1
    ∷ ltb (largest_sector d) n ↝ 10
    ∷ [])
    0

-- and the place beside it: cylinder, head and sector are 0 where the number is not 0 (Place 4 and 8)
unfoldable pub placed : Drive → ℕ → Placed
unfolding placed_number place_of
placed d n = record { place = cond (eqb (placed_number d n) 0) (place_of d n) (place_at 0 0 0); number = placed_number d n }
