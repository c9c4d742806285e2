-- A fact of each element of a list, as a product that computes.
use mathlib.Core.Logic.{inl, inr}
use mathlib.Core.List.{List, [], ◌∷◌, ◌++◌}
use Rattle.meaning.specs.Conditions.{SomeOf}

module _ {A : Type 0} where
  abbrev pub All : (A → Type 0) → List A → Type 0
  All P [] = Unit {0}
  All P (x ∷ xs) = P x × All P xs

  pub all_append : (P : A → Type 0) (xs ys : List A) → All P xs → All P ys → All P (xs ++ ys)
  all_append P [] ys h k = k
  all_append P (x ∷ xs) ys h k = (h.0, all_append P xs ys h.1 k)

  pub all_map : (P Q : A → Type 0) → ((x : A) → P x → Q x) → (xs : List A) → All P xs → All Q xs
  all_map P Q f [] h = tt
  all_map P Q f (x ∷ xs) h = (f x h.0, all_map P Q f xs h.1)

  pub all_both : (P Q : A → Type 0) (xs : List A) → All P xs → All Q xs → All (λ x. P x × Q x) xs
  all_both P Q [] h k = tt
  all_both P Q (x ∷ xs) h k = ((h.0, k.0), all_both P Q xs h.1 k.1)

  -- one that has Q has P too, where all have P
  pub all_some : (P Q : A → Type 0) (xs : List A) → All P xs → SomeOf Q xs → (x : A) × P x × Q x
  all_some P Q [] h k = absurd k
  all_some P Q (x ∷ xs) h (inl k) = (x, h.0, k)
  all_some P Q (x ∷ xs) h (inr k) = all_some P Q xs h.1 k

  -- x is one of a list
  pub data Among (x : A) : List A → Type 0 where
    here : {xs : List A} → Among x (x ∷ xs)
    there : {y : A} {xs : List A} → Among x xs → Among x (y ∷ xs)

  pub all_at : (P : A → Type 0) {x : A} {xs : List A} → All P xs → Among x xs → P x
  all_at P h here = h.0
  all_at P h (there a) = all_at P h.1 a
