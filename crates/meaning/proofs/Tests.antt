-- Tests of the elements of a list, and sums of a number of each. The laws of `some_of` and `every_of` that are not here are the library's.
use mathlib.Core.Path.{◌≡◌, refl, ap, ap₂, ◌∙◌}
use Prim.Native.Nat.{ℕ, zero, suc, ◌+◌}
use mathlib.Core.Bool.{Bool, true, false, not, ◌&&◌, ◌||◌}
use mathlib.Core.List.{List, [], ◌∷◌, map}
use lib.ListN.{get_or, set, take}
use Rattle.std.proofs.lemmas.Bool.{and_parts, or_from}
use Rattle.meaning.specs.Each.{some_of, every_of, sum_of}
use Rattle.meaning.proofs.All.{All}

-- two tests that give the same of each element; and one test or the other
pub some_same : {A : Type 0} (P : A → Type 0) (f g : A → Bool) → ((x : A) → P x → f x ≡ g x) → (xs : List A) → All P xs → some_of f xs ≡ some_of g xs
some_same P f g e [] h = refl
some_same P f g e (x ∷ xs) h = ap₂ (λ (a b : Bool). a || b) (e x h.0) (some_same P f g e xs h.1)

pub some_or : {A : Type 0} (f g : A → Bool) (xs : List A) → some_of (λ x. f x || g x) xs ≡ (some_of f xs || some_of g xs)
some_or f g [] = refl
some_or f g (x ∷ xs) = ap (λ (b : Bool). (f x || g x) || b) (some_or f g xs) ∙ shuffle (f x) (g x) (some_of f xs) (some_of g xs)
  where
    shuffle : (a b c d : Bool) → ((a || b) || (c || d)) ≡ ((a || c) || (b || d))
    shuffle true b c d = refl
    shuffle false true true d = refl
    shuffle false true false d = refl
    shuffle false false c d = refl

-- no element passes
pub some_no : {A : Type 0} (P : A → Type 0) (f : A → Bool) → ((x : A) → P x → f x ≡ false) → (xs : List A) → All P xs → some_of f xs ≡ false
some_no P f e [] h = refl
some_no P f e (x ∷ xs) h = or_from (f x) (some_of f xs) (e x h.0) (some_no P f e xs h.1)

-- a test put to what f makes of the elements
pub some_map : {A B : Type 0} (f : A → B) (p : B → Bool) (xs : List A) → some_of p (map f xs) ≡ some_of (λ x. p (f x)) xs
some_map f p [] = refl
some_map f p (x ∷ xs) = ap (λ (b : Bool). p (f x) || b) (some_map f p xs)

pub sum-map : {A B : Type 0} (f : A → B) (g : B → ℕ) (xs : List A) → sum_of g (map f xs) ≡ sum_of (λ x. g (f x)) xs
sum-map f g [] = refl
sum-map f g (x ∷ xs) = ap (λ (k : ℕ). g (f x) + k) (sum-map f g xs)

-- where every element passes f, none fails it
pub every_none : {A : Type 0} (f g : A → Bool) (xs : List A) → every_of f xs ≡ true → some_of (λ x. not (f x) && g x) xs ≡ false
every_none f g [] e = refl
every_none f g (x ∷ xs) e =
    let h = and_parts (f x) (every_of f xs) e in
    rw h.0 (every_none f g xs h.1)

-- one element is replaced by one that the test cannot tell from it
pub some_set : {A : Type 0} (f : A → Bool) (t : List A) (n p : ℕ) (y z : A) → f y ≡ f (get_or t p z) → some_of f (take n (set t p y)) ≡ some_of f (take n t)
some_set f [] n p y z e = refl
some_set f (x ∷ t) zero p y z e = refl
some_set f (x ∷ t) (suc n) zero y z e = ap (λ (b : Bool). b || some_of f (take n t)) e
some_set f (x ∷ t) (suc n) (suc p) y z e = ap (λ (b : Bool). f x || b) (some_set f t n p y z e)
