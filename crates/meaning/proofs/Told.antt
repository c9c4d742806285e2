-- What the number of an answer tells: it is 0 exactly where nothing is refused, and else it tells which refusal it is.
use Rattle.std.proofs.Common.{◌≡◌, ℕ, Result, Ok, Err, ap, ◌∙◌, sym, refl, arith}
use Rattle.std.specs.Prelude.{⊤, [], ◌∷◌, get_or}
use Rattle.meaning.specs.declared.refusals.Refusal.{Refusal}
use Rattle.meaning.specs.declared.refusals.Refusal.TheVariants.{WrongSize, OddAddress, OutsideMemory, SharedIopb, LongChain, Waits, Finished, NoPlace, Spoiled, NoSector, NoUnit}
use Rattle.meaning.specs.Refusals.{number_of, told}

-- no refusal has the number 0
pub number_not_0 : (r : Refusal) → number_of r ≡ 0 → ⊥
number_not_0 WrongSize e = omega arith
number_not_0 OddAddress e = omega arith
number_not_0 OutsideMemory e = omega arith
number_not_0 SharedIopb e = omega arith
number_not_0 LongChain e = omega arith
number_not_0 Waits e = omega arith
number_not_0 Finished e = omega arith
number_not_0 NoPlace e = omega arith
number_not_0 Spoiled e = omega arith
number_not_0 NoSector e = omega arith
number_not_0 NoUnit e = omega arith

module _ {A : Type 0} (a : Result A Refusal) (k : ℕ) (tells : told a ≡ k) where
  -- an answer that is refused tells another number than 0, one that is not tells 0
  pub refused_not_0 : (r : Refusal) → a ≡ Err r → k ≡ 0 → ⊥
  refused_not_0 r e h = number_not_0 r (sym (ap told e) ∙ tells ∙ h)

  pub accepted_0 : (x : A) → a ≡ Ok x → k ≡ 0
  accepted_0 x e = sym tells ∙ ap told e

-- ---- each refusal has a number of its own

-- the refusals by their numbers, from 1 on
refusal_of : ℕ → Refusal
refusal_of n = get_or (NoUnit ∷ WrongSize ∷ OddAddress ∷ OutsideMemory ∷ SharedIopb ∷ LongChain ∷ Waits ∷ Finished ∷ NoPlace ∷ Spoiled ∷ NoSector ∷ []) n NoUnit

own_number : (r : Refusal) → refusal_of (number_of r) ≡ r
unfolding refusal_of
own_number WrongSize = refl
own_number OddAddress = refl
own_number OutsideMemory = refl
own_number SharedIopb = refl
own_number LongChain = refl
own_number Waits = refl
own_number Finished = refl
own_number NoPlace = refl
own_number Spoiled = refl
own_number NoSector = refl
own_number NoUnit = refl

-- two refusals of one number are the same
pub by_number : (r s : Refusal) → number_of r ≡ number_of s → r ≡ s
by_number r s e = sym (own_number r) ∙ ap refusal_of e ∙ own_number s

-- so what an answer tells fixes it, where an answer that is not refused says nothing more
pub told_once : (a b : Result ⊤ Refusal) → told a ≡ told b → a ≡ b
told_once (Ok x) (Ok y) e = refl
told_once (Ok x) (Err s) e = absurd (number_not_0 s (sym e))
told_once (Err r) (Ok y) e = absurd (number_not_0 r e)
told_once (Err r) (Err s) e = ap Err (by_number r s e)
