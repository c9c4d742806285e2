-- To look at a sector of a unit: its number, and the part of the unit's image that it is.
use Rattle.std.specs.Prelude.{ℕ, ◌+◌, ◌≡◌, not, cond, List, [], ◌∷◌, take, drop, ltb, eqb}
use Rattle.std.specs.Borrow.{Bor}
use Rattle.meaning.specs.First.{first_of, ◌↝◌}
use Rattle.meaning.specs.declared.Part.{Part}
use Rattle.meaning.specs.Store.{Store, get}
use Rattle.meaning.specs.Sectors.{largest_sector, on_disk}
use Rattle.meaning.specs.Drives.{Drives}
use Rattle.meaning.specs.Sizes.{images_wrong}

-- sector n of unit u: 1 for images of which one has a wrong size, or a drive that cannot be, then 11 for an absent unit, then 10 where there
-- is no such sector, otherwise 0 (Look 4 to 7)
unfoldable pub look_number : Drives → ℕ → ℕ → Store → ℕ
unfolding images_wrong
look_number d u n s =
    first_of
    (images_wrong d s ↝ 1
    ∷ not (d.on u).present ↝ 11
    ∷ ltb (largest_sector (d.on u)) n ↝ 10
    ∷ [])
    0

-- the sector's own bytes, or none exactly where the number is not 0 (Look 1 and 3)
unfoldable pub look_part : Drives → ℕ → ℕ → Store → List ℕ
unfolding look_number get
look_part d u n s = cond (eqb (look_number d u n s) 0) (get (on_disk u n) s) []

-- the same part, named by where it begins in the unit's image and by its length
unfoldable pub looked_part : Drives → ℕ → ℕ → Store → Part
unfolding look_number
looked_part d u n s =
    let x = on_disk u n in
    cond (eqb (look_number d u n s) 0) (record { at = x.from; length = x.many }) (record { at = 0; length = 0 })

-- the unit's own of four things that are lent; where there is no such unit the first, of which nothing is handed back
unfoldable pub image_of : {A : Type 0} → ℕ → A → A → A → A → A
image_of u a b c d = cond (eqb u 1) b (cond (eqb u 2) c (cond (eqb u 3) d a))

-- r is the run s itself
abbrev pub IsAll : Bor (List ℕ) → Bor (List ℕ) → Type 0
IsAll s r = (r.ref_ptr.0 ≡ s.ref_ptr.0) × (r.ref_ptr.1 ≡ s.ref_ptr.1) × (r.now ≡ s.now)

-- r is that part of the run s itself, and not a copy: it begins in s's own bytes at that place, and shows the bytes there (Look 1)
abbrev pub IsPart : Part → Bor (List ℕ) → Bor (List ℕ) → Type 0
IsPart p s r = (r.ref_ptr.0 ≡ s.ref_ptr.0) × (r.ref_ptr.1 ≡ s.ref_ptr.1 + p.at) × (r.now ≡ take p.length (drop p.at s.now))
