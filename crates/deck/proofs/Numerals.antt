-- A number in decimal: its last digit after the others, as the code writes it, and how many digits it has; and the lines of commands,
-- one more at the end.
use mathlib.Core.Path.{◌≡◌, refl, sym, ap, ap₂, ◌∙◌, subst}
use Prim.Native.Nat.{ℕ, zero, suc, ◌+◌, ◌*◌, ◌/◌, ◌%◌, ◌^◌, ◌≤◌, ◌<◌, min, ◌-◌}
use native.Mathlib.Nat.{pow-suc, div-lt_iff_lt-mul, add-zero}
use native.Mathlib.Numerals.{add-one}
use native.Mathlib.Omega.{arith}
use mathlib.Core.Bool.{Bool, true, false}
use mathlib.Core.List.{List, [], ◌∷◌, ◌++◌, append_assoc, append-nil}
use lib.ListN.{length, get_or, take, length-append}
use lib.Seq.{take-suc, length-take-le}
use lib.Dec.{ltb}
use borrow.Author.Tests.{lt-ltb, le-ltb, ltb-true, ltb-false}
use Rattle.std.proofs.lemmas.Bool.{cond-false, cond-true}
use Rattle.meaning.specs.Lines.{digit, digits, decimal, hex, space, newline, command_lines}

digits_one : (k n : ℕ) → n < 10 → digits (suc k) n ≡ digit n ∷ []
unfolding digits
digits_one k n h = cond-true _ _ _ (lt-ltb _ _ h)

digits_more : (k n : ℕ) → 10 ≤ n → digits (suc k) n ≡ digits k (n / 10) ++ digit (n % 10) ∷ []
unfolding digits
digits_more k n h = cond-false _ _ _ (le-ltb _ _ h)

tenth : (k n : ℕ) → n < 10 ^ suc (suc k) → n / 10 < 10 ^ suc k
tenth k n h = (div-lt_iff_lt-mul {k = 10} (omega arith)).1 (subst (λ (x : ℕ). n < x) (pow-suc 10 (suc k)) h)

-- one place more than a number needs changes nothing
digits_enough : (k n : ℕ) → n < 10 ^ suc k → digits (suc (suc k)) n ≡ digits (suc k) n
digits_enough zero n h = digits_one 1 n h ∙ sym (digits_one 0 n h)
digits_enough (suc k) n h = go (digits_enough k (n / 10) (tenth k n h)) (ltb n 10) refl
  where
    go : digits (suc (suc k)) (n / 10) ≡ digits (suc k) (n / 10) → (b : Bool) → ltb n 10 ≡ b → digits (suc (suc (suc k))) n ≡ digits (suc (suc k)) n
    go ih true e = digits_one (suc (suc k)) n (ltb-true _ _ e) ∙ sym (digits_one (suc k) n (ltb-true _ _ e))
    go ih false e =
        digits_more (suc (suc k)) n (ltb-false _ _ e)
        ∙ ap (λ (x : List ℕ). x ++ digit (n % 10) ∷ []) ih
        ∙ sym (digits_more (suc k) n (ltb-false _ _ e))

pub decimal_one : (n : ℕ) → n < 10 → decimal n ≡ digit n ∷ []
unfolding decimal
decimal_one n h = digits_one 19 n h

pub decimal_more : (n : ℕ) → 10 ≤ n → n < 2 ^ 64 → decimal n ≡ decimal (n / 10) ++ digit (n % 10) ∷ []
unfolding decimal
decimal_more n h fits =
    digits_more 19 n h ∙ ap (λ (x : List ℕ). x ++ digit (n % 10) ∷ []) (sym (digits_enough 18 (n / 10) (omega arith)))

-- ---- how many digits there are

-- a number below 10 ^ (k + 1) has at most k + 1
digits_few : (most k n : ℕ) → n < 10 ^ suc k → length (digits most n) ≤ suc k
unfolding digits
digits_few zero k n h = omega arith
digits_few (suc most) k n h = go (λ j i. digits_few most j (n / 10) i) k (ltb n 10) refl h
  where
    go : ((j : ℕ) → n / 10 < 10 ^ suc j → length (digits most (n / 10)) ≤ suc j) → (k : ℕ) (b : Bool) → ltb n 10 ≡ b → n < 10 ^ suc k
        → length (digits (suc most) n) ≤ suc k
    go ih k true e h = omega (arith, ap length (digits_one most n (ltb-true n 10 e)))
    go ih zero false e h = absurd (omega (arith, ltb-false n 10 e))
    go ih (suc k) false e h =
        omega (
          arith,
          ap length (digits_more most n (ltb-false n 10 e)),
          length-append (digits most (n / 10)) (digit (n % 10) ∷ []),
          ih k (tenth k n h),
        )

pub decimal_few : (k n : ℕ) → n < 10 ^ suc k → length (decimal n) ≤ suc k
unfolding decimal
decimal_few k n h = digits_few 20 k n h

-- ---- the lines of commands

pub no_lines : (p : ℕ) → command_lines p [] ≡ []
unfolding command_lines
no_lines p = refl

lines_cons : (p c : ℕ) (cs : List ℕ) → command_lines p (c ∷ cs) ≡ decimal p ++ space ∷ hex c ++ newline ∷ [] ++ command_lines (p + 1) cs
unfolding command_lines
lines_cons p c cs = refl

pub line_is : (p c : ℕ) → command_lines p (c ∷ []) ≡ decimal p ++ space ∷ hex c ++ newline ∷ []
line_is p c =
    lines_cons p c []
    ∙ ap (λ (x : List ℕ). decimal p ++ space ∷ hex c ++ newline ∷ [] ++ x) (no_lines (p + 1))
    ∙ append-nil (decimal p ++ space ∷ hex c ++ newline ∷ [])

line_first : (p c : ℕ) (cs : List ℕ) → command_lines p (c ∷ cs) ≡ command_lines p (c ∷ []) ++ command_lines (p + 1) cs
line_first p c cs = lines_cons p c cs ∙ ap (λ (x : List ℕ). x ++ command_lines (p + 1) cs) (sym (line_is p c))

lines_more : (p : ℕ) (xs : List ℕ) (c : ℕ) → command_lines p (xs ++ c ∷ []) ≡ command_lines p xs ++ command_lines (p + length xs) (c ∷ [])
lines_more p [] c =
    ap (λ (k : ℕ). command_lines k (c ∷ [])) (sym (add-zero p))
    ∙ ap (λ (x : List ℕ). x ++ command_lines (p + 0) (c ∷ [])) (sym (no_lines p))
lines_more p (x ∷ xs) c =
    let next : p + 1 + length xs ≡ p + suc (length xs) = omega arith in
    line_first p x (xs ++ c ∷ [])
    ∙ ap (λ (y : List ℕ). command_lines p (x ∷ []) ++ y) (lines_more (p + 1) xs c)
    ∙ sym (append_assoc (command_lines p (x ∷ [])) (command_lines (p + 1) xs) (command_lines (p + 1 + length xs) (c ∷ [])))
    ∙ ap₂ (λ (y : List ℕ) (k : ℕ). y ++ command_lines k (c ∷ [])) (sym (line_first p x xs)) next

-- the line of the command at place k, after those before it
pub lines_at : (codes : List ℕ) (k : ℕ) → k < length codes → command_lines 0 (take k codes) ++ command_lines k (get_or codes k 0 ∷ []) ≡ command_lines 0 (take (k + 1) codes)
lines_at codes k h =
    let before : k ≡ 0 + length (take k codes) = omega (arith, length-take-le k codes (omega arith)) in
    ap (λ (p : ℕ). command_lines 0 (take k codes) ++ command_lines p (get_or codes k 0 ∷ [])) before
    ∙ sym (lines_more 0 (take k codes) (get_or codes k 0))
    ∙ ap (command_lines 0) (sym (take-suc codes k 0 h) ∙ ap (λ (n : ℕ). take n codes) (sym (add-one k)))

line_length : (p c : ℕ) → length (command_lines p (c ∷ [])) ≡ length (decimal p) + 4
line_length p c =
    omega (arith, ap length (line_is p c), length-append (decimal p ++ space ∷ hex c) (newline ∷ []), length-append (decimal p) (space ∷ hex c))

-- the first ten lines have 5 bytes each, those after them at most 6
pub lines_room : (k c at : ℕ) → k < 100 → at ≤ 6 * k - min k 10 → at + length (command_lines k (c ∷ [])) ≤ 6 * (k + 1) - min (k + 1) 10
lines_room k c at h room = go (ltb k 10) refl
  where
    go : (b : Bool) → ltb k 10 ≡ b → at + length (command_lines k (c ∷ [])) ≤ 6 * (k + 1) - min (k + 1) 10
    go true e = let small = ltb-true k 10 e in omega (arith, line_length k c, decimal_few 0 k small)
    go false e = let large = ltb-false k 10 e in omega (arith, line_length k c, decimal_few 1 k h)
