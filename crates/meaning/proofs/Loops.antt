-- What a loop through a list asks of `some_of`, `every_of` and `sum_of`: at place k, and past the last place. Each is stated of the
-- first n of a list, which is how a table holds its commands; `l` itself is its first `length l`.
use mathlib.Core.Path.{◌≡◌, refl, ap, ◌∙◌}
use Prim.Native.Nat.{ℕ, ◌+◌, ◌≤◌, ◌<◌}
use native.Mathlib.Numerals.{add-one}
use native.Mathlib.Omega.{arith}
use mathlib.Core.Bool.{Bool, true, false, ◌&&◌, ◌||◌}
use mathlib.Core.List.{List, [], ◌∷◌}
use lib.ListN.{length, get_or, take, drop, drop_of_length-le, length-take}
use lib.Seq.{drop-cons, get_or-take, length-take-le}
use Rattle.std.specs.List.{sum_by}
use Rattle.std.proofs.lemmas.Bool.{both_ways, false_from_ne_true}
use Rattle.std.proofs.lemmas.List.Folds.{list_any_at}
use Rattle.std.proofs.lemmas.List.Sums.{sum_by-cons}
use Rattle.meaning.specs.Each.{some_of, every_of, sum_of}

module _ {A : Type 0} (d : A) (l : List A) (n : ℕ) (short : n ≤ length l) where
  -- what is left of the first n at place k
  pub left_at : (k : ℕ) → k < n → drop k (take n l) ≡ get_or l k d ∷ drop (k + 1) (take n l)
  left_at k h =
      rw (add-one, ← get_or-take n l k d h) (drop-cons (take n l) k d (omega (arith, length-take-le n l short)))

  pub left_none : (k : ℕ) → n ≤ k → drop k (take n l) ≡ []
  left_none k h = drop_of_length-le (take n l) {i = k} (omega (arith, length-take-le n l short))

  -- a test that passes at k decides `some_of`; one that fails leaves it to the places after k
  pub some_hit : (p : A → Bool) (k : ℕ) → k < n → p (get_or l k d) ≡ true → some_of p (drop k (take n l)) ≡ true
  some_hit p k h e = ap (some_of p) (left_at k h) ∙ ap (λ (b : Bool). b || some_of p (drop (k + 1) (take n l))) e

  pub some_miss : (p : A → Bool) (k : ℕ) → k < n → p (get_or l k d) ≡ false → some_of p (drop k (take n l)) ≡ some_of p (drop (k + 1) (take n l))
  some_miss p k h e = ap (some_of p) (left_at k h) ∙ ap (λ (b : Bool). b || some_of p (drop (k + 1) (take n l))) e

  pub some_none : (p : A → Bool) (k : ℕ) → n ≤ k → some_of p (drop k (take n l)) ≡ false
  some_none p k h = ap (some_of p) (left_none k h)

  -- the same of `every_of`, the other way round
  pub every_miss : (p : A → Bool) (k : ℕ) → k < n → p (get_or l k d) ≡ false → every_of p (drop k (take n l)) ≡ false
  every_miss p k h e = ap (every_of p) (left_at k h) ∙ ap (λ (b : Bool). b && every_of p (drop (k + 1) (take n l))) e

  pub every_hit : (p : A → Bool) (k : ℕ) → k < n → p (get_or l k d) ≡ true → every_of p (drop k (take n l)) ≡ every_of p (drop (k + 1) (take n l))
  every_hit p k h e = ap (every_of p) (left_at k h) ∙ ap (λ (b : Bool). b && every_of p (drop (k + 1) (take n l))) e

  pub every_none : (p : A → Bool) (k : ℕ) → n ≤ k → every_of p (drop k (take n l)) ≡ true
  every_none p k h = ap (every_of p) (left_none k h)

  pub sum_at : (f : A → ℕ) (k : ℕ) → k < n → sum_of f (drop k (take n l)) ≡ f (get_or l k d) + sum_of f (drop (k + 1) (take n l))
  sum_at f k h = ap (sum_of f) (left_at k h)

  pub sum_none : (f : A → ℕ) (k : ℕ) → n ≤ k → sum_of f (drop k (take n l)) ≡ 0
  sum_none f k h = ap (sum_of f) (left_none k h)

-- none of the first n passes the test: the one at k does not
pub none_at : {A : Type 0} (d : A) (p : A → Bool) (l : List A) (n k : ℕ) → some_of p (take n l) ≡ false → k < n → k < length l → p (get_or l k d) ≡ false
none_at d p l n k e h i =
    false_from_ne_true (p (get_or l k d))
    (λ t. both_ways (some_of p (take n l)) e (list_any_at p (take n l) k d (simp length-take (omega arith)) (rw (get_or-take n l k d h) t)))

-- the library's sum of a number of each, as `Iterator::sum` gives it, is `sum_of`
pub sum_is : {A : Type 0} (f : A → ℕ) (l : List A) → sum_by f l ≡ sum_of f l
sum_is f [] = refl
sum_is f (x ∷ l) = sum_by-cons f x l ∙ ap (λ (k : ℕ). f x + k) (sum_is f l)
