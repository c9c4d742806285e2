-- A test and the proposition that it tests: `Means P b` says that b is true where P holds and false where it fails. One law for
-- each way that a test is put together, so that a condition of the rules is read off from its test part by part.
use mathlib.Core.Path.{◌≡◌, refl, sym, subst, ◌∙◌}
use mathlib.Core.Logic.Iff
use mathlib.Core.Logic.{◌↔◌, ◌≢◌, ◌⊎◌, inl, inr, ⊎_elim, ⊎_map}
use Prim.Native.Nat.{ℕ, zero, suc, ◌≤◌, ◌<◌, suc-le-suc}
use native.Mathlib.Nat.{not-suc-le-zero, le_of_suc-le-suc}
use mathlib.Core.Bool.{Bool, true, false, not, ◌&&◌, ◌||◌, or_assoc, true≢false, false≢true, or-false}
use mathlib.Core.List.{List, [], ◌∷◌, ◌++◌}
use native.Mathlib.Omega.{arith}
use lib.ListN.{length, get_or, take}
use lib.Dec.{ltb, leb, eqb}
use borrow.Author.Tests.{ltb-true, ltb-false, leb-true, leb-false, eqb-true, eqb-false}
use Rattle.std.proofs.lemmas.List.Folds.{list_any-append}
use Rattle.meaning.specs.Each.{some_of, up_to}
use Rattle.meaning.specs.Conditions.{SomeOf}

pub data Means (P : Type 0) : Bool → Type 0 where
  holds : P → Means P true
  fails : ¬ P → Means P false

module _ {P : Type 0} where
  -- from the value of the test to the proposition, and back
  pub when_true : {b : Bool} → Means P b → b ≡ true → P
  when_true (holds p) e = p
  when_true (fails n) e = absurd (false≢true e)

  pub when_false : {b : Bool} → Means P b → b ≡ false → ¬ P
  when_false (holds p) e = absurd (true≢false e)
  when_false (fails n) e = n

  pub is_true : {b : Bool} → Means P b → P → b ≡ true
  is_true (holds p) q = refl
  is_true (fails n) q = absurd (n q)

  pub is_false : {b : Bool} → Means P b → ¬ P → b ≡ false
  is_false (holds p) n = absurd (n p)
  is_false (fails n) m = refl

  -- what is tested and cannot fail holds
  pub means_stable : {b : Bool} → Means P b → ¬ (¬ P) → P
  means_stable (holds p) h = p
  means_stable (fails n) h = absurd (h n)

  pub same_test : {a b : Bool} → Means P a → Means P b → a ≡ b
  same_test (holds p) y = sym (is_true y p)
  same_test (fails n) y = sym (is_false y n)

  -- a proposition as good as another
  pub means_iff : {Q : Type 0} {b : Bool} → P ↔ Q → Means P b → Means Q b
  means_iff e (holds p) = holds (e.0 p)
  means_iff e (fails n) = fails (λ q. n (e.1 q))

  -- the opposite: one of P and Q holds, and not both
  pub means_not : {Q : Type 0} {b : Bool} → (P → ¬ Q) → (¬ P → Q) → Means P b → Means Q (not b)
  means_not f g (holds p) = fails (f p)
  means_not f g (fails n) = holds (g n)

  pub means_opposite : {b : Bool} → Means P b → Means (¬ P) (not b)
  means_opposite m = means_not (λ h n. n h) (λ n. n) m

  module _ {Q : Type 0} where
    pub means_and : {a b : Bool} → Means P a → Means Q b → Means (P × Q) (a && b)
    means_and (holds p) (holds q) = holds (p, q)
    means_and (holds p) (fails n) = fails (λ pq. n pq.1)
    means_and (fails n) y = fails (λ pq. n pq.0)

    pub means_or : {a b : Bool} → Means P a → Means Q b → Means (P ⊎ Q) (a || b)
    means_or (holds p) y = holds (inl p)
    means_or (fails n) (holds q) = holds (inr q)
    means_or (fails n) (fails m) = fails neither
      where
        neither : ¬ (P ⊎ Q)
        neither (inl p) = n p
        neither (inr q) = m q

    -- "not both" is "not the one, or not the other"
    pub means_not-and : (a b : Bool) → Means P (not a) → Means Q (not b) → Means (P ⊎ Q) (not (a && b))
    means_not-and true b x y = means_or x y
    means_not-and false b x y = means_or x y

pub means_or₃ : {P Q R : Type 0} {a b c : Bool} → Means P a → Means Q b → Means R c → Means (P ⊎ Q ⊎ R) (a || b || c)
means_or₃ x y z = rw or_assoc (means_or x (means_or y z))

-- a test by its two values
pub means_test : (b : Bool) {P : Type 0} → (b ≡ true → P) → (b ≡ false → ¬ P) → Means P b
means_test true f g = holds (f refl)
means_test false f g = fails (g refl)

pub means_itself : (b : Bool) → Means (b ≡ true) b
means_itself b = means_test b (λ e. e) (λ e f. true≢false (sym f ∙ e))

-- a mark that is not set
pub means_off : (b : Bool) → Means (b ≡ false) (not b)
means_off true = fails true≢false
means_off false = holds refl

-- the tests of numbers
pub means_lt : (a b : ℕ) → Means (a < b) (ltb a b)
means_lt a b = means_test (ltb a b) (ltb-true a b) (λ e. omega (arith, ltb-false a b e))

pub means_le : (a b : ℕ) → Means (a ≤ b) (leb a b)
means_le a b = means_test (leb a b) (leb-true a b) (λ e. omega (arith, leb-false a b e))

pub means_eq : (a b : ℕ) → Means (a ≡ b) (eqb a b)
means_eq a b = means_test (eqb a b) (eqb-true a b) (eqb-false a b)

pub means_above : (a b : ℕ) → Means (b < a) (not (leb a b))
means_above a b = means_not (λ h k. omega arith) (λ n. omega arith) (means_le a b)

pub means_other : (a b : ℕ) → Means (a ≢ b) (not (eqb a b))
means_other a b = means_opposite (means_eq a b)

-- one of a list
pub means_of : {A : Type 0} {P : A → Type 0} {p : A → Bool} → ((x : A) → Means (P x) (p x)) → (xs : List A) → Means (SomeOf P xs) (some_of p xs)
means_of means [] = fails (λ h. h)
means_of means (x ∷ xs) = means_or (means x) (means_of means xs)

-- one of two lists, laid end to end
pub ⊎_iff : {A B C D : Type 0} → A ↔ B → C ↔ D → (A ⊎ C) ↔ (B ⊎ D)
⊎_iff e f = (⊎_map e.0 f.0, ⊎_map e.1 f.1)

⊎_regroup : {A B C : Type 0} → (A ⊎ (B ⊎ C)) ↔ ((A ⊎ B) ⊎ C)
⊎_regroup = (
  ⊎_elim (λ a. inl (inl a)) (⊎_elim (λ b. inl (inr b)) inr),
  ⊎_elim (⊎_elim inl (λ b. inr (inl b))) (λ c. inr (inr c)),
)

pub some_of_both : {A : Type 0} (P : A → Type 0) (xs ys : List A) → SomeOf P (xs ++ ys) ↔ (SomeOf P xs ⊎ SomeOf P ys)
some_of_both P [] ys = (inr, ⊎_elim absurd (λ h. h))
some_of_both P (x ∷ xs) ys = Iff.trans (⊎_iff Iff.rfl (some_of_both P xs ys)) ⊎_regroup

-- one of the first n of a list
module _ {A : Type 0} {P : A → Type 0} {p : A → Bool} (means : (x : A) → Means (P x) (p x)) (d : A) where
  abbrev Some : ℕ → List A → Type 0
  Some n l = (k : ℕ) × (k < n) × (k < length l) × P (get_or l k d)

  some_of_more : (n : ℕ) (x : A) (l : List A) → (P x ⊎ Some n l) ↔ Some (suc n) (x ∷ l)
  some_of_more n x l = (there, back)
    where
      there : P x ⊎ Some n l → Some (suc n) (x ∷ l)
      there (inl h) = (0, omega arith, omega arith, h)
      there (inr s) = (suc s.0, suc-le-suc s.1, suc-le-suc s.2, s.3)

      at : (k : ℕ) → k < suc n → k < suc (length l) → P (get_or (x ∷ l) k d) → P x ⊎ Some n l
      at zero _ _ h = inl h
      at (suc k) a b h = inr (k, le_of_suc-le-suc a, le_of_suc-le-suc b, h)

      back : Some (suc n) (x ∷ l) → P x ⊎ Some n l
      back s = at s.0 s.1 s.2 s.3

  pub means_some : (n : ℕ) (l : List A) → Means (Some n l) (some_of p (take n l))
  means_some zero l = fails (λ s. not-suc-le-zero s.1)
  means_some (suc n) [] = fails (λ s. not-suc-le-zero s.2)
  means_some (suc n) (x ∷ l) = means_iff (some_of_more n x l) (means_or (means x) (means_some n l))

-- one of the numbers below n
module _ (P : ℕ → Type 0) where
  abbrev pub Below : ℕ → Type 0
  Below n = (k : ℕ) × (k < n) × P k

  pub below_more : (n : ℕ) → (Below n ⊎ P n) ↔ Below (suc n)
  below_more n = (there, λ b. at b.0 (means_eq b.0 n) b.1 b.2)
    where
      there : Below n ⊎ P n → Below (suc n)
      there (inl b) = (b.0, (let l = b.1 in omega arith), b.2)
      there (inr h) = (n, omega arith, h)

      at : (k : ℕ) {x : Bool} → Means (k ≡ n) x → k < suc n → P k → Below n ⊎ P n
      at k (holds e) l h = inr (subst P e h)
      at k (fails o) l h = inl (k, omega arith, h)

module _ {P : ℕ → Type 0} {p : ℕ → Bool} (means : (k : ℕ) → Means (P k) (p k)) where
  pub means_below : (n : ℕ) → Means (Below P n) (some_of p (up_to n))
  means_below zero = fails (λ b. not-suc-le-zero b.1)
  means_below (suc n) = rw (list_any-append p (up_to n) (n ∷ []), or-false (p n)) (means_iff (below_more P n) (means_or (means_below n) (means n)))
