-- Overwriting by `sets`, at places that lie apart: two overwritings commute, and reading is not changed by one.
-- Neither asks for anything to lie in the list. By induction on what is written, from the laws of `set`.
use mathlib.Core.Path.{◌≡◌, refl, sym, ap, ◌∙◌}
use mathlib.Core.Logic.{◌≢◌}
use Prim.Native.Nat.{ℕ, suc, ◌+◌, ◌-◌, ◌≤◌, min, max}
use native.Mathlib.Nat.{add-sub_of_le}
use native.Mathlib.Decide.{dec_lt}
use native.Mathlib.Omega.{arith}
use mathlib.Core.List.{List, [], ◌∷◌}
use lib.ListN.{length, get_or, set, take, drop}
use lib.Seq.{sets, set_comm, get_or-set_other, drop-set-lt, drop-set-add, take-set-le}

-- the a places from i on and the b places from j on have none in common: the earlier end is not past the later start
abbrev pub Apart : ℕ → ℕ → ℕ → ℕ → Type 0
Apart i a j b = min (i + a) (j + b) ≤ max i j

module _ {A : Type 0} where
  set-sets : (l : List A) (i : ℕ) (v : A) (j : ℕ) (ws : List A) → Apart i 1 j (length ws) → set (sets l j ws) i v ≡ sets (set l i v) j ws
  set-sets l i v j [] h = refl
  set-sets l i v j (w ∷ ws) h =
      set-sets (set l j w) i v (suc j) ws (omega arith)
      ∙ ap (λ (m : List A). sets m (suc j) ws) (set_comm l j i w v (omega arith))

  pub sets_comm : (l : List A) (i : ℕ) (vs : List A) (j : ℕ) (ws : List A) → Apart i (length vs) j (length ws)
      → sets (sets l j ws) i vs ≡ sets (sets l i vs) j ws
  sets_comm l i [] j ws h = refl
  sets_comm l i (v ∷ vs) j ws h =
      ap (λ (m : List A). sets m (suc i) vs) (set-sets l i v j ws (omega arith))
      ∙ sets_comm (set l i v) (suc i) vs j ws (omega arith)

  read_set : (l : List A) (a n i : ℕ) (v : A) → Apart a n i 1 → take n (drop a (set l i v)) ≡ take n (drop a l)
  read_set l a n i v h =
      elim (dec_lt i a) [
        | yes b ↦ ap (take n) (drop-set-lt a l i v b)
        | no b ↦
            ap (λ (k : ℕ). take n (drop a (set l k v))) (sym (add-sub_of_le (omega arith)))
            ∙ ap (take n) (drop-set-add a l (i - a) v)
            ∙ take-set-le n (drop a l) (i - a) v (omega arith)
      ]

  pub read_sets : (l : List A) (a n j : ℕ) (ws : List A) → Apart a n j (length ws) → take n (drop a (sets l j ws)) ≡ take n (drop a l)
  read_sets l a n j [] h = refl
  read_sets l a n j (w ∷ ws) h = read_sets (set l j w) a n (suc j) ws (omega arith) ∙ read_set l a n j w (omega arith)

  -- what is laid, its first element last: so two that differ in that one alone leave the same elsewhere
  pub first_last : (l : List A) (i : ℕ) (vs : List A) (v : A) → sets l i (v ∷ vs) ≡ set (sets l (suc i) vs) i v
  first_last l i vs v = sets_comm l (suc i) vs i (v ∷ []) (omega arith)

  pub others_same : (l : List A) (i : ℕ) (vs : List A) (v w : A) (x : ℕ) (z : A) → x ≢ i → get_or (sets l i (v ∷ vs)) x z ≡ get_or (sets l i (w ∷ vs)) x z
  others_same l i vs v w x z n =
      rw (first_last l i vs v, first_last l i vs w) (get_or-set_other (sets l (suc i) vs) i x v z n ∙ sym (get_or-set_other (sets l (suc i) vs) i x w z n))
