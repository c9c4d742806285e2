-- One reply alone meets each contract: what it says fixes the outcome, the codes of its commands and the zeros past them; the count, the
-- bytes put and the rest.
use mathlib.Core.Path.{◌≡◌, refl, sym, ap, ap₂, ◌∙◌}
use Prim.Native.Nat.{ℕ, ◌-◌, ◌≤◌}
use native.Mathlib.Omega.{arith}
use mathlib.Core.List.{List, [], ◌∷◌, ◌++◌}
use lib.ListN.{length, get_or, take, drop, replicate, take-append-drop}
use lib.Seq.{length-take-le}
use Rattle.meaning.specs.Bench as bench
use Rattle.std.specs.Prelude.{Ok, Err}
use Rattle.meaning.specs.declared.refusals.Refusal.{Refusal}
use Rattle.meaning.specs.Refusals.{number_of}
use Rattle.meaning.proofs.Told.{by_number}
use Rattle.deck.specs.declared.Refused.TheVariants.{NoDeck, NoChain}
use Rattle.deck.specs.Meant.{Report, meant, codes_in, Reports}
use Rattle.deck.specs.Put.{Put, PrintGives}
use Rattle.deck.specs.OneReply.{EachHasOneReply}

-- two runs that agree up to a place and from it on
same_halves : (n k : ℕ) (l₁ l₂ : List ℕ) → take n l₁ ≡ take k l₂ → drop n l₁ ≡ drop k l₂ → l₁ ≡ l₂
same_halves n k l₁ l₂ front rest = sym (take-append-drop n l₁) ∙ ap₂ (λ (x y : List ℕ). x ++ y) front rest ∙ take-append-drop k l₂

put_once : (l : List ℕ) (a : ℕ) (bs : List ℕ) (r s : ℕ) (l₁ l₂ : List ℕ) → Put l a bs r l₁ → Put l a bs s l₂ → (r ≡ s) × (l₁ ≡ l₂)
put_once l a bs r s l₁ l₂ p q =
    let same : r ≡ s = p.past ∙ sym q.past in
    (same, same_halves r s l₁ l₂ (p.front ∙ sym q.front) (p.rest ∙ ap (λ (k : ℕ). drop k l) same ∙ sym q.rest))

-- codes of n and of k commands that are the same, in front of zeros
same_codes : (cs ds : List ℕ) → length cs ≡ 32 → length ds ≡ 32 → (n k : ℕ) → n ≤ 32 → k ≤ 32 → take n cs ≡ take k ds
    → drop n cs ≡ replicate (32 - n) 0 → drop k ds ≡ replicate (32 - k) 0 → (n ≡ k) × (cs ≡ ds)
same_codes cs ds full₁ full₂ n k h i codes x y =
    let many : n ≡ k = omega (arith, length-take-le n cs (omega arith), length-take-le k ds (omega arith), ap length codes) in
    let zeros : drop n cs ≡ drop k ds = x ∙ ap (λ (j : ℕ). replicate (32 - j) 0) many ∙ sym y in
    (many, same_halves n k cs ds codes zeros)

-- reports with the same meaning, and zeros past their codes, are the same
one_report : (o : bench.Outcome) (x y : Report) → length (codes_in x) ≡ 32 → length (codes_in y) ≡ 32 → Reports o x → Reports o y → x ≡ y
unfolding meant
one_report o (Ok x) (Ok y) full₁ full₂ p q =
    let same = p.means ∙ sym q.means in
    let codes : take x.commands x.codes ≡ take y.commands y.codes = cc in
    let steps : x.steps ≡ y.steps = cc in
    let both = same_codes x.codes y.codes full₁ full₂ x.commands y.commands p.few q.few codes p.rest q.rest in
    ap Ok (λ i. record { commands = both.0 i; steps = steps i; codes = both.1 i })
one_report o (Ok x) (Err NoDeck) full₁ full₂ p q = let same = p.means ∙ sym q.means in let z : ◌≡◌ {A = ℕ} 0 1 = cc in absurd (omega arith)
one_report o (Ok x) (Err (NoChain n)) full₁ full₂ p q = let same = p.means ∙ sym q.means in let z : ◌≡◌ {A = ℕ} 0 1 = cc in absurd (omega arith)
one_report o (Err NoDeck) (Ok y) full₁ full₂ p q = let same = p.means ∙ sym q.means in let z : ◌≡◌ {A = ℕ} 0 1 = cc in absurd (omega arith)
one_report o (Err NoDeck) (Err NoDeck) full₁ full₂ p q = refl
one_report o (Err NoDeck) (Err (NoChain n)) full₁ full₂ p q = let same = p.means ∙ sym q.means in let z : ◌≡◌ {A = ℕ} 0 1 = cc in absurd (omega arith)
one_report o (Err (NoChain n)) (Ok y) full₁ full₂ p q = let same = p.means ∙ sym q.means in let z : ◌≡◌ {A = ℕ} 0 1 = cc in absurd (omega arith)
one_report o (Err (NoChain n)) (Err NoDeck) full₁ full₂ p q = let same = p.means ∙ sym q.means in let z : ◌≡◌ {A = ℕ} 0 1 = cc in absurd (omega arith)
one_report o (Err (NoChain n)) (Err (NoChain k)) full₁ full₂ p q =
    let same = p.means ∙ sym q.means in
    let number : number_of n ≡ number_of k = cc in
    ap (λ (j : Refusal). Err (NoChain j)) (by_number n k number)

pub each_has_one_reply : EachHasOneReply
unfolding PrintGives
each_has_one_reply = record { report = one_report; printing = λ b l r s l₁ l₂ p q. put_once l 0 _ r s l₁ l₂ p q }
