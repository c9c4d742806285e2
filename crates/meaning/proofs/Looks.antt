-- Where a look's number is 0 the sector lies in the unit's image: the image has the drive's size, and the sector is one of the drive's.
use mathlib.Core.Path.{◌≡◌, refl}
use Prim.Native.Nat.{ℕ, zero, suc, ◌+◌, ◌≤◌, ◌<◌}
use native.Mathlib.Omega.{arith}
use mathlib.Core.Bool.{Bool, true, false, not, cond}
use mathlib.Core.List.{List, [], ◌∷◌}
use lib.ListN.{length, get_or, take, drop}
use lib.Dec.{ltb, eqb}
use borrow.Author.Tests.{ltb-false, eq-eqb, ne_eqb}
use Rattle.std.proofs.lemmas.Bool.{not-false, cond-false, cond-true}
use Rattle.meaning.specs.Drives.{Drives, most_units}
use Rattle.meaning.specs.Store.{disk, Store, lent, images, get}
use Rattle.meaning.specs.Sectors.{largest_sector, on_disk}
use Rattle.meaning.specs.Sizes.{images_wrong}
use Rattle.meaning.specs.First.{Row, ◌↝◌}
use Rattle.meaning.specs.declared.Part.{Part}
use Rattle.meaning.specs.Look.{look_number, look_part, looked_part, image_of}
use Rattle.meaning.specs.Conditions.{Present}
use Rattle.meaning.proofs.All.{All}
use Rattle.meaning.proofs.Numbers.{Off, rows_off}
use Rattle.meaning.proofs.Conditions.{present_below, image_size, some_sector}

module _ (d : Drives) (u n : ℕ) (s : Store) where
  abbrev rows : List Row
  rows = images_wrong d s ↝ 1 ∷ not (d.on u).present ↝ 11 ∷ ltb (largest_sector (d.on u)) n ↝ 10 ∷ []

  rows_passed : look_number d u n s ≡ 0 → All Off rows
  unfolding look_number
  rows_passed e = rows_off rows 0 e refl

  pub look_present : look_number d u n s ≡ 0 → Present d u
  look_present e = not-false (d.on u).present (rows_passed e).1.0

  pub look_within : look_number d u n s ≡ 0 → let x = on_disk u n in x.from + x.many ≤ length (s (disk u))
  unfolding largest_sector
  look_within e =
      let off = rows_passed e in
      let below = ltb-false (largest_sector (d.on u)) n off.1.1.0 in
      let size = image_size d s off.0 u (look_present e) in
      omega (arith, some_sector (d.on u))

  -- the two cases of the part that is handed back
  pub part_refused : (look_number d u n s ≡ 0 → ⊥) → looked_part d u n s ≡ record { at = 0; length = 0 }
  unfolding looked_part
  part_refused h = cond-false _ _ _ (ne_eqb _ _ h)

  pub part_accepted : look_number d u n s ≡ 0 → let x = on_disk u n in looked_part d u n s ≡ record { at = x.from; length = x.many }
  unfolding looked_part
  part_accepted e = cond-true _ _ _ (eq-eqb _ _ e)

  -- the bytes of the part are those of the look
  pub looked_is_look : let p = looked_part d u n s in take p.length (drop p.at (s (disk u))) ≡ look_part d u n s
  unfolding looked_part look_part get
  looked_is_look = go (eqb (look_number d u n s) 0)
    where
      go : (b : Bool)
          → let x = on_disk u n in
          let p : Part = cond b (record { at = x.from; length = x.many }) (record { at = 0; length = 0 }) in
          take p.length (drop p.at (s (disk u))) ≡ cond b (take x.many (drop x.from (s (disk u)))) []
      go true = refl
      go false = refl

-- ---- the unit's own of four

-- what is made of it is its own of what is made of the four
pub image_map : {A B : Type 0} (f : A → B) (u : ℕ) (a b c d : A) → f (image_of u a b c d) ≡ image_of u (f a) (f b) (f c) (f d)
unfolding image_of
image_map f u a b c d = go (eqb u 1) (eqb u 2) (eqb u 3)
  where
    go : (x y z : Bool) → f (cond x b (cond y c (cond z d a))) ≡ cond x (f b) (cond y (f c) (cond z (f d) (f a)))
    go true y z = refl
    go false true z = refl
    go false false true = refl
    go false false false = refl

-- it is the disk of a unit that there is
pub image_at : (u : ℕ) (a b c d : List ℕ) → u < most_units → image_of u a b c d ≡ get_or (images a b c d) u []
unfolding image_of
image_at zero a b c d h = refl
image_at (suc zero) a b c d h = refl
image_at (suc (suc zero)) a b c d h = refl
image_at (suc (suc (suc zero))) a b c d h = refl
image_at (suc (suc (suc (suc u)))) a b c d h = absurd (omega arith)

-- so the sector lies in it
pub look_in_image : (d : Drives) (u n : ℕ) (m i₀ i₁ i₂ i₃ : List ℕ) → look_number d u n (lent m (images i₀ i₁ i₂ i₃)) ≡ 0
    → let x = on_disk u n in x.from + x.many ≤ length (image_of u i₀ i₁ i₂ i₃)
look_in_image d u n m i₀ i₁ i₂ i₃ e =
    let s = lent m (images i₀ i₁ i₂ i₃) in
    rw (image_at u i₀ i₁ i₂ i₃ (present_below d u (look_present d u n s e))) (look_within d u n s e)
