-- The image of a unit out of four; and the room of a unit, out of the rooms of all, is the room on the drive that
-- the unit has.
use mathlib.Core.Path.{◌≡◌, refl, sym, ap, ◌∙◌}
use Prim.Native.Nat.{ℕ, zero, suc}
use native.Mathlib.Omega.{arith}
use mathlib.Core.Bool.{Bool, true, false, cond}
use mathlib.Core.List.{List, [], ◌∷◌}
use lib.ListN.{get_or, length}
use borrow.Author.Tests.{le-ltb, ne_eqb}
use Rattle.meaning.specs.declared.Drive.{Drive}
use Rattle.meaning.specs.declared.LentDrives.{LentDrives}
use Rattle.meaning.specs.Drives.{Drives, most_units, no_drive, there, drive_of, drives_of}
use Rattle.meaning.specs.Look.{image_of}
use Rattle.meaning.specs.Sectors.{sector_count}
use Rattle.units.specs.OfUnit.{of_unit}
use Rattle.units.specs.Rooms.{no_room, room_in, rooms_of, room_of}

-- with the first of four for a unit above 3 it is the unit's image
pub of_unit_image : {A : Type 0} (u : ℕ) (a b c d : A) → of_unit (a ∷ b ∷ c ∷ d ∷ []) a u ≡ image_of u a b c d
unfolding image_of
of_unit_image zero a b c d = refl
of_unit_image (suc zero) a b c d = refl
of_unit_image (suc (suc zero)) a b c d = refl
of_unit_image (suc (suc (suc zero))) a b c d = refl
of_unit_image (suc (suc (suc (suc u)))) a b c d =
    let v = suc (suc (suc (suc u))) in
    simp (le-ltb v most_units (omega arith), ne_eqb v 1 (λ e. omega arith), ne_eqb v 2 (λ e. omega arith), ne_eqb v 3 (λ e. omega arith))

-- where none is had there is no drive either
pub there_or_none : (b : Bool) (d : Drive) → there (cond b d no_drive) ≡ cond b (there d) no_drive
there_or_none true d = refl
there_or_none false d = refl

-- the room on a drive that is there, or absent
pub room_where : (d : Drive) (b : Bool) → d.present ≡ b → room_in d ≡ cond b (record { sectors = record { 0 = sector_count d }; protected = d.protected }) no_room
unfolding room_in
room_where d b e = ap (λ (c : Bool). cond c (record { sectors = record { 0 = sector_count d }; protected = d.protected }) no_room) e

-- a drive that is not there has no room, whatever is lent for it
room_there : (d : Drive) → room_in (there d) ≡ room_in d
unfolding room_in
room_there d = go d.present refl
  where
    go : (b : Bool) → d.present ≡ b → room_in (cond b d no_drive) ≡ room_in d
    go true e = refl
    go false e = sym (room_where d false e)

-- so the rooms of all are those of the four drives as they are lent
pub rooms_lent : (l : LentDrives) → (rooms_of (drives_of l)).units ≡ room_in (get_or l.units 0 no_drive) ∷ room_in (get_or l.units 1 no_drive) ∷ room_in (get_or l.units 2 no_drive) ∷ room_in (get_or l.units 3 no_drive) ∷ []
unfolding drive_of
rooms_lent l =
    simp (room_there (get_or l.units 0 no_drive), room_there (get_or l.units 1 no_drive), room_there (get_or l.units 2 no_drive), room_there (get_or l.units 3 no_drive))

-- a list of four is its elements
pub four : {A : Type 0} (xs : List A) (d : A) → length xs ≡ 4 → xs ≡ get_or xs 0 d ∷ get_or xs 1 d ∷ get_or xs 2 d ∷ get_or xs 3 d ∷ []
four [] d h = absurd (omega arith)
four (a ∷ []) d h = absurd (omega arith)
four (a ∷ b ∷ []) d h = absurd (omega arith)
four (a ∷ b ∷ e ∷ []) d h = absurd (omega arith)
four (a ∷ b ∷ e ∷ f ∷ []) d h = refl
four (a ∷ b ∷ e ∷ f ∷ g ∷ xs) d h = absurd (omega arith)

pub room_by_unit : (d : Drives) (u : ℕ) → room_of (rooms_of d) u ≡ room_in (d.on u)
unfolding room_of
room_by_unit d zero = refl
room_by_unit d (suc zero) = refl
room_by_unit d (suc (suc zero)) = refl
room_by_unit d (suc (suc (suc zero))) = refl
room_by_unit d (suc (suc (suc (suc u)))) =
    let v = suc (suc (suc (suc u))) in
    ap (λ (b : Bool). cond b (get_or (rooms_of d).units v no_room) no_room) (le-ltb v most_units (omega arith))
    ∙ sym (room_where (d.on v) false (d.absent_above v (omega arith)))
