-- Overwriting as the code does it: bytes laid over a part of a slice are `sets`, the definitions' way to overwrite; two parts copied one
-- behind the other are one part copied.
use mathlib.Core.Path.{◌≡◌, sym, ap, ap₂, ◌∙◌}
use Prim.Native.Nat.{ℕ, suc, ◌+◌, ◌-◌, ◌≤◌}
use native.Mathlib.Nat.{add-sub_cancel_left, add-zero, add-suc, suc-add}
use native.Mathlib.Omega.{arith}
use mathlib.Core.List.{List, [], ◌∷◌, ◌++◌, append_assoc}
use lib.ListN.{length, take, drop, set, length-drop}
use lib.Seq.{sets, sets-eq, drop-drop, length-take-le, take-add}

-- the n elements of l from a on, as a part that is lent from a to a + n has them
part_is : (l : List ℕ) (a n : ℕ) → take (a + n - a) (drop a l) ≡ take n (drop a l)
part_is l a n = ap (λ (k : ℕ). take k (drop a l)) (add-sub_cancel_left a n)

part_length : (l : List ℕ) (a n : ℕ) → a + n ≤ length l → length (take n (drop a l)) ≡ n
part_length l a n h = length-take-le n (drop a l) (omega (arith, length-drop a l))

-- as many bytes laid over a part, as `sets` of the whole
pub laid_is_sets : (n : ℕ) (dst xs : List ℕ) (to : ℕ) → length xs ≡ n → to + n ≤ length dst → take to dst ++ (xs ++ drop (to + n - to) (drop to dst)) ≡ sets dst to xs
laid_is_sets n dst xs to long h =
    let rest : drop (to + n - to) (drop to dst) ≡ drop (to + length xs) dst =
    ap (λ (k : ℕ). drop k (drop to dst)) (add-sub_cancel_left to n) ∙ drop-drop n to dst ∙ ap (λ (k : ℕ). drop (to + k) dst) (sym long)
    in
    ap (λ (y : List ℕ). take to dst ++ (xs ++ y)) rest
    ∙ sym (append_assoc (take to dst) xs (drop (to + length xs) dst))
    ∙ sym (sets-eq xs dst to (omega arith))

-- and so is a copy of another part that is as long
pub copied_is_sets : (n : ℕ) (src dst : List ℕ) (from to : ℕ) → from + n ≤ length src → to + n ≤ length dst
    → (ys : List ℕ) → ys ≡ take (from + n - from) (drop from src) → take to dst ++ (ys ++ drop (to + n - to) (drop to dst)) ≡ sets dst to (take n (drop from src))
copied_is_sets n src dst from to h k ys e =
    ap (λ (x : List ℕ). take to dst ++ (x ++ drop (to + n - to) (drop to dst))) (e ∙ part_is src from n)
    ∙ laid_is_sets n dst (take n (drop from src)) to (part_length src from n h) k

-- ---- one part behind the other

sets-append : (l : List ℕ) (i : ℕ) (xs ys : List ℕ) → sets l i (xs ++ ys) ≡ sets (sets l i xs) (i + length xs) ys
sets-append l i [] ys = ap (λ (k : ℕ). sets l k ys) (sym (add-zero i))
sets-append l i (x ∷ xs) ys = sets-append (set l i x) (suc i) xs ys ∙ ap (λ (k : ℕ). sets (sets (set l i x) (suc i) xs) k ys) (suc-add i (length xs) ∙ sym (add-suc i (length xs)))

-- n bytes of src from b on are stored at a, and c more right behind them
pub copied_behind : (n c : ℕ) (src dst : List ℕ) (a b a' b' : ℕ) → b + n ≤ length src → a' ≡ a + n → b' ≡ b + n
    → sets (sets dst a (take n (drop b src))) a' (take c (drop b' src)) ≡ sets dst a (take (n + c) (drop b src))
copied_behind n c src dst a b a' b' h ea eb =
    let p = take n (drop b src) in
    let at : a' ≡ a + length p = ea ∙ ap (λ (k : ℕ). a + k) (sym (part_length src b n h)) in
    let q : take c (drop b' src) ≡ take c (drop n (drop b src)) = ap (take c) (ap (λ (k : ℕ). drop k src) eb ∙ sym (drop-drop n b src)) in
    ap₂ (λ (k : ℕ) (r : List ℕ). sets (sets dst a p) k r) at q
    ∙ sym (sets-append dst a p (take c (drop n (drop b src))))
    ∙ ap (sets dst a) (sym (take-add n c (drop b src)))
