-- Places and numbers: the number of a place is below the drive's count, the place of a number has that number, and the place after it the
-- next one. Callers use these laws and not the formulas.
use mathlib.Core.Path.{◌≡◌, refl, sym, ap, ◌∙◌}
use mathlib.Core.Logic.{◌≢◌, ◌⊎◌, inl, inr}
use Prim.Native.Nat.{ℕ, ◌+◌, ◌*◌, ◌/◌, ◌%◌, ◌≤◌, ◌<◌}
use native.Mathlib.Nat.{zero-mul, add-mul, mod-lt, div-add-mod', div-lt_iff_lt-mul, eq-or-lt_of_le}
use native.Mathlib.Omega.{arith}
use mathlib.Core.Bool.{Bool, true, false, cond}
use mathlib.Core.Option.{Option, some, none}
use lib.Dec.{eqb, ltb}
use borrow.Author.Tests.{eq-eqb, ne_eqb, leb-true, ltb-true, ltb-false}
use Rattle.std.proofs.lemmas.Bool.{cond-false, cond-true}
use Rattle.std.proofs.lemmas.Nat.{mul-add-lt, div-mul-add, mod-mul-add}
use Rattle.meaning.specs.declared.Drive.{Drive}
use Rattle.meaning.specs.declared.Place.{Place}
use Rattle.meaning.specs.Sectors.{count_of, per_track, per_last_track, maximum_on, per_cylinder, sector_count, largest_sector, sector_number, maxima_right}
use Rattle.meaning.specs.Place.{place_at, OnDrive, number_of, place_after, Follows, place_of}
use Rattle.meaning.proofs.Conditions.{some_sector}

module _ (d : Drive) where
  -- ---- the maximum of a head

  pub on_last : maximum_on d d.head ≡ d.last_sector
  unfolding maximum_on
  on_last = cond-true (eqb d.head d.head) d.last_sector d.sector (eq-eqb d.head d.head refl)

  pub on_other : (head : ℕ) → head ≢ d.head → maximum_on d head ≡ d.sector
  unfolding maximum_on
  on_other head n = cond-false _ _ _ (ne_eqb _ _ n)

  -- the count as a sum: the cylinders before the last, and the last
  pub count_by_cylinders : sector_count d ≡ d.cylinder * per_cylinder d + per_cylinder d
  unfolding sector_count
  count_by_cylinders = omega (arith, add-mul d.cylinder 1 (per_cylinder d))

  -- ---- within a cylinder

  some_cylinder : 0 < per_cylinder d
  unfolding per_cylinder
  some_cylinder = omega arith

  -- the sectors of a cylinder before a place on it, that place's head and sector being within their maxima, are fewer than all of them
  in_cylinder : (head sector : ℕ) → head ≤ d.head → sector ≤ maximum_on d head → head * per_track d + sector < per_cylinder d
  unfolding per_cylinder
  in_cylinder head sector h s = go (eq-or-lt_of_le h) s
    where
      go : (head ≡ d.head) ⊎ (head < d.head) → sector ≤ maximum_on d head → head * per_track d + sector < d.head * per_track d + per_last_track d
      go (inl e) s = let m = ap (maximum_on d) e ∙ on_last in let p = ap (λ (k : ℕ). k * per_track d) e in omega arith
      go (inr l) s =
          let m = on_other head (λ e. omega arith) in
          let b = mul-add-lt head (per_track d) sector d.head l (omega arith) in
          omega arith

  -- the number of a place is one of the drive's
  pub number_below : (p : Place) → OnDrive d p → number_of d p < sector_count d
  unfolding sector_number sector_count
  number_below p h =
      let x = in_cylinder p.head p.sector h.head_in h.sector_in in
      let y = mul-add-lt p.cylinder (per_cylinder d) (p.head * per_track d + p.sector) (d.cylinder + 1) (omega (arith, h.cylinder_in)) x in
      omega arith

  -- ---- the place after a place

  first_of : (cylinder : ℕ) → number_of d (place_at cylinder 0 0) ≡ cylinder * per_cylinder d
  unfolding sector_number
  first_of cylinder = omega (arith, zero-mul (per_track d))

  -- from the last sector of a head to the next head, and from that of the last head to the next cylinder
  after_head : (cylinder head : ℕ) → number_of d (place_at cylinder (head + 1) 0) ≡ number_of d (place_at cylinder head d.sector) + 1
  unfolding sector_number
  after_head cylinder head = omega (arith, add-mul head 1 (per_track d))

  after_cylinder : (cylinder : ℕ) → number_of d (place_at cylinder d.head d.last_sector) + 1 ≡ (cylinder + 1) * per_cylinder d
  unfolding sector_number per_cylinder
  after_cylinder cylinder = omega (arith, add-mul cylinder 1 (per_cylinder d))

  pub follows : (p : Place) → OnDrive d p → Follows d p (place_after d p)
  unfolding place_after sector_number sector_count largest_sector
  follows p h = on_head (ltb p.sector (maximum_on d p.head)) refl
    where
      number_at : (head sector : ℕ) → p.head ≡ head → p.sector ≡ sector → number_of d p ≡ number_of d (place_at p.cylinder head sector)
      number_at head sector e f j = sector_number d p.cylinder (e j) (f j)

      -- each goes by its test
      next_cylinder : (b : Bool) → ltb p.cylinder d.cylinder ≡ b → p.head ≡ d.head → p.sector ≡ d.last_sector
          → Follows d p (cond b (some (place_at (p.cylinder + 1) 0 0)) none)
      next_cylinder true e head sector =
          let l = ltb-true p.cylinder d.cylinder e in (
            record { cylinder_in = omega arith; head_in = omega arith; sector_in = omega arith },
            omega (arith, number_at _ _ head sector, first_of (p.cylinder + 1), after_cylinder p.cylinder),
          )
      next_cylinder false e head sector =
          let l = ltb-false p.cylinder d.cylinder e in
          let c : p.cylinder ≡ d.cylinder = omega (arith, h.cylinder_in) in
          let k = ap (λ (x : ℕ). (x + 1) * per_cylinder d) c in
          omega (arith, number_at _ _ head sector, after_cylinder p.cylinder)

      next_head : (b : Bool) → ltb p.head d.head ≡ b → p.sector ≡ maximum_on d p.head
          → Follows d p
          (cond b (some (place_at p.cylinder (p.head + 1) 0))
          (cond (ltb p.cylinder d.cylinder) (some (place_at (p.cylinder + 1) 0 0)) none))
      next_head true e sector =
          let l = ltb-true p.head d.head e in
          let m = on_other p.head (λ q. omega arith) in (
            record { cylinder_in = h.cylinder_in; head_in = omega arith; sector_in = omega arith },
            omega (arith, number_at p.head d.sector refl (sector ∙ m), after_head p.cylinder p.head),
          )
      next_head false e sector =
          let l = ltb-false p.head d.head e in
          let head : p.head ≡ d.head = omega (arith, h.head_in) in
          next_cylinder _ refl head (sector ∙ ap (maximum_on d) head ∙ on_last)

      on_head : (b : Bool) → ltb p.sector (maximum_on d p.head) ≡ b
          → Follows d p
          (cond b (some (place_at p.cylinder p.head (p.sector + 1)))
          (cond (ltb p.head d.head) (some (place_at p.cylinder (p.head + 1) 0))
          (cond (ltb p.cylinder d.cylinder) (some (place_at (p.cylinder + 1) 0 0)) none)))
      on_head true e =
          let l = ltb-true p.sector (maximum_on d p.head) e in
          (record { cylinder_in = h.cylinder_in; head_in = h.head_in; sector_in = omega arith }, omega arith)
      on_head false e =
          let l = ltb-false p.sector (maximum_on d p.head) e in
          next_head _ refl (omega (arith, h.sector_in))

  -- a number that is not above the largest is one of the drive's
  pub below_count : (n : ℕ) → ltb (largest_sector d) n ≡ false → n < sector_count d
  unfolding largest_sector
  below_count n e = let h = ltb-false (largest_sector d) n e in omega (arith, some_sector d)

  not_the_last : (n : ℕ) → n + 1 < sector_count d → n ≢ largest_sector d
  unfolding largest_sector
  not_the_last n h e = omega arith

  -- ---- the place of a number, where the last head has no more sectors than the others

  pub number_of_place : (n : ℕ) → number_of d (place_of d n) ≡ n
  unfolding sector_number place_of
  number_of_place n =
      let c = div-add-mod' n (per_cylinder d) in
      let t = div-add-mod' (n % per_cylinder d) (per_track d) in
      omega arith

  module _ (right : maxima_right d ≡ true) where
    not_longer : d.last_sector ≤ d.sector
    unfolding maxima_right
    not_longer = leb-true _ _ right

    pub within_track : (head : ℕ) → maximum_on d head ≤ d.sector
    unfolding maximum_on
    within_track head = go (eqb head d.head) refl
      where
        go : (b : Bool) → eqb head d.head ≡ b → maximum_on d head ≤ d.sector
        go true e = let m : maximum_on d head ≡ d.last_sector = cond-true _ _ _ e in omega (arith, not_longer)
        go false e = let m : maximum_on d head ≡ d.sector = cond-false _ _ _ e in omega arith

    pub place_of_number : (p : Place) → OnDrive d p → place_of d (number_of d p) ≡ p
    unfolding sector_number place_of
    place_of_number p h =
        let r = p.head * per_track d + p.sector in
        let e : number_of d p ≡ p.cylinder * per_cylinder d + r = omega arith in
        let c = in_cylinder p.head p.sector h.head_in h.sector_in in
        let t : p.sector < per_track d = omega (arith, within_track p.head, h.sector_in) in
        rw (e, div-mul-add p.cylinder (per_cylinder d) r c, mod-mul-add p.cylinder (per_cylinder d) r c, div-mul-add p.head (per_track d) p.sector t, mod-mul-add p.head (per_track d) p.sector t) refl

    -- what is left of a cylinder: its head and sector are within their maxima
    head_fits : (rest : ℕ) → rest < per_cylinder d → rest / per_track d ≤ d.head
    unfolding per_cylinder
    head_fits rest i =
        let e = add-mul d.head 1 (per_track d) in
        let q = (div-lt_iff_lt-mul {k = per_track d} {x = rest} {y = d.head + 1} (omega arith)).1 (omega (arith, not_longer)) in
        omega arith

    sector_fits : (rest : ℕ) → rest < per_cylinder d → rest % per_track d ≤ maximum_on d (rest / per_track d)
    unfolding per_cylinder
    sector_fits rest i = go (eq-or-lt_of_le (head_fits rest i))
      where
        go : (rest / per_track d ≡ d.head) ⊎ (rest / per_track d < d.head) → rest % per_track d ≤ maximum_on d (rest / per_track d)
        go (inl e) =
            let m = ap (maximum_on d) e ∙ on_last in
            let p = ap (λ (k : ℕ). k * per_track d) e in
            let q = div-add-mod' rest (per_track d) in
            omega arith
        go (inr l) =
            let m = on_other (rest / per_track d) (λ e. omega arith) in
            let q = mod-lt rest {m = per_track d} (omega arith) in
            omega arith

    pub place_on_drive : (n : ℕ) → n < sector_count d → OnDrive d (place_of d n)
    unfolding sector_count place_of
    place_on_drive n h =
        let inside = mod-lt n some_cylinder in
        record {
          cylinder_in = let q = (div-lt_iff_lt-mul {k = per_cylinder d} {x = n} {y = d.cylinder + 1} some_cylinder).1 h in omega arith;
          head_in = head_fits _ inside;
          sector_in = sector_fits _ inside;
        }

    -- the place of the next number is the place after
    pub after_number : (n : ℕ) → n + 1 < sector_count d → place_after d (place_of d n) ≡ some (place_of d (n + 1))
    after_number n h = go (place_after d (place_of d n)) (follows (place_of d n) (place_on_drive n (omega arith)))
      where
        go : (o : Option Place) → Follows d (place_of d n) o → o ≡ some (place_of d (n + 1))
        go none e = absurd (not_the_last n h (sym (number_of_place n) ∙ e))
        go (some q) f =
            ap some (sym (place_of_number q f.0) ∙ ap (place_of d) (f.1 ∙ ap (λ (k : ℕ). k + 1) (number_of_place n)))

  -- ---- equal heads: a cylinder has as many whole tracks as heads, and one maximum for all

  pub equal_cylinder : d.last_sector ≡ d.sector → per_cylinder d ≡ count_of d.head * per_track d
  unfolding per_cylinder
  equal_cylinder e = omega (arith, add-mul d.head 1 (per_track d))

  pub equal_maximum : d.last_sector ≡ d.sector → (head : ℕ) → maximum_on d head ≡ d.sector
  unfolding maximum_on
  equal_maximum e head = go (eqb head d.head)
    where
      go : (b : Bool) → cond b d.last_sector d.sector ≡ d.sector
      go true = e
      go false = refl
