-- The one law of ranges that have something in common: two ranges overlap, and two lists of ranges meet, exactly where something lies in
-- both. If two ranges overlap, the later start lies in both.
use mathlib.Core.Path.{◌≡◌, refl, sym, ap, ◌∙◌}
use mathlib.Core.Logic.{◌⊎◌, inl, inr}
use Prim.Native.Nat.{ℕ, ◌+◌, ◌<◌, max, min}
use native.Mathlib.Omega.{arith}
use mathlib.Core.Bool.{Bool}
use mathlib.Core.List.{List, [], ◌∷◌}
use Rattle.meaning.specs.Each.{some_of}
use Rattle.meaning.specs.Store.{Space, memory, disk, same}
use Rattle.meaning.specs.Fields.{iopb_bytes}
use Rattle.meaning.specs.Ranges.{Range, bytes, crosses, overlap, meet}
use Rattle.meaning.specs.Walk.{shares}
use Rattle.meaning.specs.Conditions.{LiesIn, Shares, SomeOf, OverlapIsSharing}
use Rattle.meaning.proofs.Means.{Means, holds, fails, when_true, when_false, is_true, same_test, means_iff, means_and, means_or, means_lt, means_eq}

pub means_same : (p q : Space) → Means (p ≡ q) (same p q)
means_same memory memory = holds refl
means_same memory (disk v) = fails (λ e. let z : ◌≡◌ {A = ℕ} 0 1 = cc in omega arith)
means_same (disk u) memory = fails (λ e. let z : ◌≡◌ {A = ℕ} 0 1 = cc in omega arith)
means_same (disk u) (disk v) = means_iff (ap disk, λ e. cc) (means_eq u v)

-- a disk is another space than memory
pub no_memory : (u : ℕ) → ¬ (disk u ≡ memory)
no_memory u = when_false (means_same (disk u) memory) refl

-- at one place of one space both P and Q hold
abbrev pub Common : (Space → ℕ → Type 0) → (Space → ℕ → Type 0) → Type 0
Common P Q = (p : Space) × (x : ℕ) × P p x × Q p x

pub means_overlap : (r s : Range) → Means (Common (LiesIn r) (LiesIn s)) (overlap r s)
unfolding crosses
means_overlap r s =
    means_iff (there, back)
    (means_and (means_same r.space s.space) (means_lt (max r.from s.from) (min (r.from + r.many) (s.from + s.many))))
  where
    there : (r.space ≡ s.space) × (max r.from s.from < min (r.from + r.many) (s.from + s.many)) → Common (LiesIn r) (LiesIn s)
    there h = (r.space, max r.from s.from, (refl, (omega arith, omega arith)), (h.0, (omega arith, omega arith)))

    back : Common (LiesIn r) (LiesIn s) → (r.space ≡ s.space) × (max r.from s.from < min (r.from + r.many) (s.from + s.many))
    back c = (sym c.2.0 ∙ c.3.0, omega arith)

pub overlap_is_sharing : OverlapIsSharing
overlap_is_sharing r s = (when_true (means_overlap r s), is_true (means_overlap r s))

-- two IOPBs share a byte
pub means_shares : (a b : ℕ) → Means (Shares a b) (shares a b)
means_shares a b = means_iff ((λ c. (c.1, c.2.1, c.3.1)), λ c. (memory, c.0, (refl, c.1), (refl, c.2))) (means_overlap (bytes a iopb_bytes) (bytes b iopb_bytes))

-- ---- lists of ranges

-- x of a space lies in some range of a list
abbrev pub InSome : List Range → Space → ℕ → Type 0
InSome rs p x = SomeOf (λ r. LiesIn r p x) rs

swapped : {P Q : Space → ℕ → Type 0} {b : Bool} → Means (Common P Q) b → Means (Common Q P) b
swapped h = means_iff ((λ c. (c.0, c.1, c.3, c.2)), (λ c. (c.0, c.1, c.3, c.2))) h

-- a test for something in common with one range tells, tried on each range of a list, what is in common with the list
module _ (P : Space → ℕ → Type 0) (t : Range → Bool) (means : (r : Range) → Means (Common P (LiesIn r)) (t r)) where
  means_in_some : (rs : List Range) → Means (Common P (InSome rs)) (some_of t rs)
  means_in_some [] = fails (λ c. c.3)
  means_in_some (r ∷ rs) = means_iff (there, λ c. back c.0 c.1 c.2 c.3) (means_or (means r) (means_in_some rs))
    where
      there : Common P (LiesIn r) ⊎ Common P (InSome rs) → Common P (InSome (r ∷ rs))
      there (inl c) = (c.0, c.1, c.2, inl c.3)
      there (inr c) = (c.0, c.1, c.2, inr c.3)

      back : (p : Space) (x : ℕ) → P p x → InSome (r ∷ rs) p x → Common P (LiesIn r) ⊎ Common P (InSome rs)
      back p x h (inl k) = inl (p, x, h, k)
      back p x h (inr k) = inr (p, x, h, k)

pub means_meet : (xs ys : List Range) → Means (Common (InSome xs) (InSome ys)) (meet xs ys)
means_meet xs ys =
    swapped (means_in_some (InSome ys) (λ r. some_of (overlap r) ys)
    (λ r. swapped (means_in_some (LiesIn r) (overlap r) (means_overlap r) ys)) xs)

-- two tests of one proposition are the same, so it does not matter which range, or which list, comes first
pub overlap_swap : (r s : Range) → overlap r s ≡ overlap s r
overlap_swap r s = same_test (means_overlap r s) (swapped (means_overlap s r))

pub meet_swap : (xs ys : List Range) → meet xs ys ≡ meet ys xs
meet_swap xs ys = same_test (means_meet xs ys) (swapped (means_meet ys xs))
