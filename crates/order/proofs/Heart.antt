-- The heart of demand 3, over any commands that are done in steps: a step of a command that clashes with no earlier unfinished
-- one may be taken at once, and what is left, done as written, ends the same. By induction on the table: at its own place the
-- step is the command's next one anyway, and further on it commutes with all that is left of each earlier command.
-- It takes, as parameters of its section, that a step leaves one step less, that a command clashes as before after its step, and
-- that steps of commands that do not clash commute.
use mathlib.Core.Path.{◌≡◌, refl, sym, ap, ◌∙◌}
use Prim.Native.Nat.{ℕ, zero, suc, ◌<◌}
use native.Mathlib.Nat.{not-suc-le-zero, le_of_suc-le-suc}
use native.Mathlib.Omega.{arith}
use mathlib.Core.Bool.{Bool, false}
use mathlib.Core.List.{List, [], ◌∷◌}
use lib.ListN.{length, get_or, set, take}

-- C are commands and S stores: a command's next step on a store, the command after that step, and the steps left of it
module _ {C S : Type 0} (act : C → S → S) (next : C → C) (left : C → ℕ) where
  -- k steps of a command, one after another: the command, and the store
  abbrev pub after : ℕ → C → C
  after zero c = c
  after (suc k) c = after k (next c)

  abbrev pub done : ℕ → C → S → S
  done zero c s = s
  done (suc k) c s = done k (next c) (act c s)

  -- what is left, done as written: the commands at their ends, and the store
  abbrev pub finish : List C → S → List C × S
  finish [] s = ([], s)
  finish (c ∷ cs) s =
      let rest = finish cs (done (left c) c s) in
      (after (left c) c ∷ rest.0, rest.1)

  module _ (clash : C → C → Bool) where
    -- of these commands, none that has steps left clashes with c
    abbrev pub Clear : C → List C → Type 0
    Clear c [] = Unit {0}
    Clear c (e ∷ es) = (0 < left e → clash e c ≡ false) × Clear c es

    module _
        (left-next : (c : C) → 0 < left c → suc (left (next c)) ≡ left c)
        (clash-next : (e c : C) → clash (next e) c ≡ clash e c)
        (act-comm : (e c : C) (s : S) → 0 < left e → 0 < left c → clash e c ≡ false → act e (act c s) ≡ act c (act e s)) where
      -- a step commutes with all that is left of a command that does not clash with it
      done_act : (k : ℕ) (e c : C) (s : S) → left e ≡ k → 0 < left c → (0 < left e → clash e c ≡ false) → done k e (act c s) ≡ act c (done k e s)
      done_act zero e c s l h n = refl
      done_act (suc k) e c s l h n =
          let b : 0 < left e = omega arith in
          ap (done k (next e)) (act-comm e c s b h (n b))
          ∙ done_act k (next e) c (act e s) (omega (arith, left-next e b)) h (λ _. clash-next e c ∙ n b)

      -- the first command's next step is taken at once
      finish_first : (c : C) (cs : List C) (s : S) → 0 < left c → finish (c ∷ cs) s ≡ finish (next c ∷ cs) (act c s)
      finish_first c cs s l = ap (λ (k : ℕ). let rest = finish cs (done k c s) in (after k c ∷ rest.0, rest.1)) (sym (left-next c l))

      -- an accepted pick: the next step of the command at p is taken at once, where no earlier unfinished command clashes with it
      pub finish_step : (cs : List C) (p : ℕ) (z : C) (s : S) → p < length cs → 0 < left (get_or cs p z) → Clear (get_or cs p z) (take p cs)
          → finish cs s ≡ finish (set cs p (next (get_or cs p z))) (act (get_or cs p z) s)
      finish_step [] p z s h l f = absurd (not-suc-le-zero h)
      finish_step (c ∷ cs) zero z s h l f = finish_first c cs s l
      finish_step (e ∷ cs) (suc p) z s h l f =
          let c = get_or cs p z in
          ap (λ (r : List C × S). (after (left e) e ∷ r.0, r.1))
          (finish_step cs p z (done (left e) e s) (le_of_suc-le-suc h) l f.1
          ∙ ap (finish (set cs p (next c))) (sym (done_act (left e) e c s refl l f.0)))
