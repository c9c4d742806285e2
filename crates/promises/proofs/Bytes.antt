-- The bytes of a store after some are put into a space: those within are the new ones, all others are as they were.
use mathlib.Core.Path.{◌≡◌, refl, ◌∙◌}
use Prim.Native.Nat.{ℕ, zero, suc, ◌+◌, ◌≤◌, ◌<◌}
use native.Mathlib.Nat.{add-zero, not-suc-le-zero}
use native.Mathlib.Omega.{arith}
use mathlib.Core.Bool.{Bool, cond}
use mathlib.Core.List.{List, [], ◌∷◌}
use lib.ListN.{length, get_or, take, drop, set, length-set, length-take, length-drop}
use lib.Seq.{sets, get_or-set_same, get_or-set_other, get_or-take, get_or-drop}
use Rattle.meaning.specs.Store.{Space, Store, area, get, put}
use Rattle.meaning.specs.Conditions.{Within}
use Rattle.meaning.proofs.Means.{Means, holds, fails}
use Rattle.meaning.proofs.Spaces.{same_refl}
use Rattle.meaning.proofs.Ranges.{means_same}

-- ---- in a list

module _ {A : Type 0} (z : A) where
  get_d_sets_out : (l : List A) (i : ℕ) (vs : List A) (x : ℕ) → ¬ Within x i (length vs) → get_or (sets l i vs) x z ≡ get_or l x z
  get_d_sets_out l i [] x n = refl
  get_d_sets_out l i (a ∷ vs) x n =
      get_d_sets_out (set l i a) (suc i) vs x (λ h. n (omega arith)) ∙ get_or-set_other l i x a z (λ e. n (omega arith))

  get_d_sets_in : (l : List A) (i : ℕ) (vs : List A) (j : ℕ)
      → j < length vs
      → i + length vs ≤ length l
      → get_or (sets l i vs) (i + j) z ≡ get_or vs j z
  get_d_sets_in l i [] j h fits = absurd (not-suc-le-zero h)
  get_d_sets_in l i (a ∷ vs) zero h fits =
      rw add-zero (get_d_sets_out (set l i a) (suc i) vs i (λ h. omega arith) ∙ get_or-set_same l i a z (omega arith))
  get_d_sets_in l i (a ∷ vs) (suc j) h fits =
      let e : i + suc j ≡ suc i + j = omega arith in
      rw e (get_d_sets_in (set l i a) (suc i) vs j (omega arith) (rw length-set (omega arith)))

-- ---- in a store

module _ (p : Space) (a : ℕ) (vs : List ℕ) (s : Store) where
  pub put_out : (q : Space) (x : ℕ) → ¬ ((q ≡ p) × Within x a (length vs)) → get_or (put p a vs s q) x 0 ≡ get_or (s q) x 0
  unfolding put
  put_out q x n = go (means_same q p)
    where
      go : {b : Bool} → Means (q ≡ p) b → get_or (cond b (sets (s q) a vs) (s q)) x 0 ≡ get_or (s q) x 0
      go (holds e) = get_d_sets_out 0 (s q) a vs x (λ h. n (e, h))
      go (fails _) = refl

  pub put_in : a + length vs ≤ length (s p) → (j : ℕ) → j < length vs → get_or (put p a vs s p) (a + j) 0 ≡ get_or vs j 0
  unfolding put
  put_in fits j h = rw (same_refl p) (get_d_sets_in 0 (s p) a vs j h fits)

-- n bytes of space q from b on, copied to byte a of space p on
module _ (q : Space) (b n : ℕ) (p : Space) (a : ℕ) (s : Store) where
  pub copied_out_lem : (r : Space) (x : ℕ) → ¬ ((r ≡ p) × Within x a n) → get_or (put p a (get (area q b n) s) s r) x 0 ≡ get_or (s r) x 0
  unfolding get
  copied_out_lem r x h =
      put_out p a (take n (drop b (s q))) s r x (λ k. h (k.0, omega (arith, k.1, length-take n (drop b (s q)))))

  pub copied_in : a + n ≤ length (s p) → b + n ≤ length (s q) → (j : ℕ) → j < n → get_or (put p a (get (area q b n) s) s p) (a + j) 0 ≡ get_or (s q) (b + j) 0
  unfolding get
  copied_in fits there j h =
      let long : length (take n (drop b (s q))) ≡ n = simp (length-take, length-drop) (omega arith) in
      put_in p a (take n (drop b (s q))) s (omega arith) j (omega arith)
      ∙ get_or-take n (drop b (s q)) j 0 h
      ∙ get_or-drop b (s q) j 0
