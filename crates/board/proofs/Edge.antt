-- The lent slices as a store. Bytes put into memory, or onto the disk of the unit whose image is at hand, are put into that slice; and memory
-- with the image of one unit, laid over the store of all that is lent, is what is lent with these two in their places.
use mathlib.Core.Path.{◌≡◌, refl, sym, ap, ◌∙◌, fun_ext}
use Prim.Native.Nat.{ℕ, zero, suc, ◌≤◌, ◌<◌}
use native.Mathlib.Omega.{arith}
use mathlib.Core.Bool.{Bool, true, false, cond}
use mathlib.Core.List.{List, []}
use lib.ListN.{length, get_or, set}
use lib.Dec.{eqb}
use lib.Seq.{sets, set-get_or, get_or-set_same, get_or-set_other}
use borrow.Author.Tests.{eq-eqb}
use Rattle.std.proofs.lemmas.Bool.{cond-true}
use Rattle.meaning.specs.Store.{Space, memory, disk, same, Store, lent, images, put}
use Rattle.meaning.proofs.Means.{Means, holds, fails, means_eq}
use Rattle.board.specs.OneUnit.{on_unit}

-- ---- one unit

module _ (u : ℕ) (m i : List ℕ) (s : Store) where
  pub unit_disk : on_unit u m i s (disk u) ≡ i
  unit_disk = cond-true _ _ _ (eq-eqb u u refl)

  module _ (bytes : List ℕ) (a : ℕ) where
    pub put_memory : put memory a bytes (on_unit u m i s) ≡ on_unit u (sets m a bytes) i s
    unfolding put
    put_memory = fun_ext go
      where
        go : (q : Space) → cond (same q memory) (sets (on_unit u m i s q) a bytes) (on_unit u m i s q) ≡ on_unit u (sets m a bytes) i s q
        go memory = refl
        go (disk v) = refl

    pub put_disk : put (disk u) a bytes (on_unit u m i s) ≡ on_unit u m (sets i a bytes) s
    unfolding put
    put_disk = fun_ext go
      where
        either : (b : Bool) (l : List ℕ) → cond b (sets (cond b i l) a bytes) (cond b i l) ≡ cond b (sets i a bytes) l
        either true l = refl
        either false l = refl

        go : (q : Space) → cond (same q (disk u)) (sets (on_unit u m i s q) a bytes) (on_unit u m i s q) ≡ on_unit u m (sets i a bytes) s q
        go memory = refl
        go (disk v) = either (eqb v u) (s (disk v))

-- ---- all that is lent

pub put_lent : (m : List ℕ) (is : List (List ℕ)) (bytes : List ℕ) (a : ℕ) → put memory a bytes (lent m is) ≡ lent (sets m a bytes) is
unfolding put
put_lent m is bytes a = fun_ext go
  where
    go : (q : Space) → cond (same q memory) (sets (lent m is q) a bytes) (lent m is q) ≡ lent (sets m a bytes) is q
    go memory = refl
    go (disk v) = refl

-- the image of one unit is replaced
pub unit_laid : (u : ℕ) (m i m₀ : List ℕ) (is : List (List ℕ)) → u < length is → on_unit u m i (lent m₀ is) ≡ lent m (set is u i)
unit_laid u m i m₀ is h = fun_ext go
  where
    at : (v : ℕ) {b : Bool} → Means (v ≡ u) b → cond b i (get_or is v []) ≡ get_or (set is u i) v []
    at v (holds e) = sym (ap (λ (w : ℕ). get_or (set is u i) w []) e ∙ get_or-set_same is u i [] h)
    at v (fails n) = sym (get_or-set_other is u v i [] n)

    go : (q : Space) → on_unit u m i (lent m₀ is) q ≡ lent m (set is u i) q
    go memory = refl
    go (disk v) = at v (means_eq v u)

-- by itself
pub unit_own : (u : ℕ) (m : List ℕ) (is : List (List ℕ)) → u < length is → on_unit u m (get_or is u []) (lent m is) ≡ lent m is
unit_own u m is h = unit_laid u m (get_or is u []) m is h ∙ ap (lent m) (set-get_or is u [])

-- an image that has a byte is that of one of the four units
pub unit_below : (i₀ i₁ i₂ i₃ : List ℕ) (u : ℕ) → 1 ≤ length (get_or (images i₀ i₁ i₂ i₃) u []) → u < 4
unit_below i₀ i₁ i₂ i₃ zero h = omega arith
unit_below i₀ i₁ i₂ i₃ (suc zero) h = omega arith
unit_below i₀ i₁ i₂ i₃ (suc (suc zero)) h = omega arith
unit_below i₀ i₁ i₂ i₃ (suc (suc (suc zero))) h = omega arith
unit_below i₀ i₁ i₂ i₃ (suc (suc (suc (suc u)))) h = absurd (omega arith)
