-- The numbers below n, as a loop or a chain that counts goes through them: a fold over one more, and a test put to each.
use mathlib.Core.Path.{◌≡◌, refl, sym, ap, ap₂, ◌∙◌}
use Prim.Native.Nat.{ℕ, zero, suc, ◌+◌}
use native.Mathlib.Nat.{add-zero}
use native.Mathlib.Numerals.{add-one}
use native.Mathlib.Omega.{arith}
use mathlib.Core.Bool.{Bool, ◌&&◌}
use mathlib.Core.List.{List, [], ◌∷◌, ◌++◌, foldl, foldl-append}
use Rattle.std.specs.List.{range_with_len, list_all}
use Rattle.meaning.specs.Each.{every_of, up_to}

pub fold_more : {B : Type 0} (f : B → ℕ → B) (z : B) (k : ℕ) → foldl f z (up_to (k + 1)) ≡ f (foldl f z (up_to k)) k
fold_more f z k = rw add-one (foldl-append f z (up_to k) (k ∷ []))

-- a range of the library is the same numbers
range_more : (a n : ℕ) → range_with_len a (suc n) ≡ range_with_len a n ++ (a + n) ∷ []
range_more a zero = ap (λ (k : ℕ). k ∷ []) (sym (add-zero a))
range_more a (suc n) =
    let next : a + 1 + n ≡ a + suc n = omega arith in
    ap (λ (l : List ℕ). a ∷ l) (range_more (a + 1) n ∙ ap (λ (k : ℕ). range_with_len (a + 1) n ++ k ∷ []) next)

range_is : (n : ℕ) → range_with_len 0 n ≡ up_to n
range_is zero = refl
range_is (suc n) =
    let last : 0 + n ≡ n = omega arith in
    range_more 0 n ∙ ap₂ (λ (l : List ℕ) (k : ℕ). l ++ k ∷ []) (range_is n) last

every_is : (p : ℕ → Bool) (l : List ℕ) → list_all p l ≡ every_of p l
every_is p [] = refl
every_is p (x ∷ l) = ap (λ (t : Bool). p x && t) (every_is p l)

pub all_in_range : (p : ℕ → Bool) (n : ℕ) → list_all p (range_with_len 0 n) ≡ every_of p (up_to n)
all_in_range p n = ap (list_all p) (range_is n) ∙ every_is p (up_to n)
