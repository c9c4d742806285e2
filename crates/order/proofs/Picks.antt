-- A run by picks, one pick after another: what holds at its start, and is kept by an accepted pick and by a refused one, holds at its end.
-- Counts that stand before a run stand before what it comes to. And what an accepted pick takes from the steps that remain.
use mathlib.Core.Path.{◌≡◌, refl, ap, ◌∙◌}
use Prim.Native.Nat.{ℕ, suc, ◌+◌}
use native.Mathlib.Nat.{add-zero, add-suc, suc-add, add_assoc}
use native.Mathlib.Omega.{arith}
use mathlib.Core.Bool.{Bool, true, false, cond}
use mathlib.Core.List.{List, [], ◌∷◌}
use lib.ListN.{length}
use lib.Dec.{eqb}
use borrow.Author.Tests.{eqb-true}
use Rattle.meaning.specs.Drives.{Drives}
use Rattle.meaning.specs.State.{State}
use Rattle.meaning.specs.Pick.{pick_number, step_at}
use Rattle.meaning.specs.Run.{steps_left, Tally, at_start, one_pick, picks_from, by_picks}
use Rattle.meaning.proofs.Numbers.{Free, place_free, Passed, pick_passed, in_table}
use Rattle.meaning.proofs.Counts.{left_step}

-- a tally after an accepted pick, and after a refused one
abbrev pub step_taken : Drives → ℕ → Tally → Tally
step_taken d p y = record { steps = y.steps + 1; refused = y.refused; state = step_at d p y.state }

abbrev pub passed_over : Tally → Tally
passed_over y = record { steps = y.steps; refused = y.refused + 1; state = y.state }

-- Q k y: the tally y after k picks
module _ (d : Drives) (n : ℕ) (Q : ℕ → Tally → Type 0)
    (taken : (k p : ℕ) (y : Tally) → Passed d n y.state → Free y.state.table n p → Q k y → Q (suc k) (step_taken d p y))
    (passed : (k : ℕ) (y : Tally) → Q k y → Q (suc k) (passed_over y)) where
  pick_keeps : (k p : ℕ) (y : Tally) → Q k y → Q (suc k) (one_pick d n p y)
  unfolding one_pick
  pick_keeps k p y q = go (eqb (pick_number d n p y.state) 0) refl
    where
      go : (x : Bool) → eqb (pick_number d n p y.state) 0 ≡ x → Q (suc k) (cond x (step_taken d p y) (passed_over y))
      go true e =
          let z = pick_passed d n y.state p (eqb-true (pick_number d n p y.state) 0 e) in
          taken k p y z.0 (place_free y.state.table n p z.1) q
      go false e = passed k y q

  picks_from_keep : (ps : List ℕ) (k : ℕ) (y : Tally) → Q k y → Q (k + length ps) (picks_from d n ps y)
  unfolding picks_from
  picks_from_keep [] k y q = rw add-zero q
  picks_from_keep (p ∷ ps) k y q =
      rw (add-suc k (length ps), ← suc-add k (length ps)) (picks_from_keep ps (suc k) (one_pick d n p y) (pick_keeps k p y q))

  pub picks_keep : (ps : List ℕ) (s : State) → Q 0 (at_start s) → Q (0 + length ps) (by_picks d n ps s)
  unfolding by_picks
  picks_keep ps s q = picks_from_keep ps 0 (at_start s) q

-- ---- counts before a run

-- k steps and j refusals before y
abbrev pub before : ℕ → ℕ → Tally → Tally
before k j y = record { steps = k + y.steps; refused = j + y.refused; state = y.state }

before_pick : (d : Drives) (n p k j : ℕ) (y : Tally) → one_pick d n p (before k j y) ≡ before k j (one_pick d n p y)
unfolding one_pick
before_pick d n p k j y = go (eqb (pick_number d n p y.state) 0)
  where
    go : (x : Bool) → cond x (step_taken d p (before k j y)) (passed_over (before k j y)) ≡ before k j (cond x (step_taken d p y) (passed_over y))
    go true = λ i. record { steps = add_assoc k y.steps 1 i; refused = j + y.refused; state = step_at d p y.state }
    go false = λ i. record { steps = k + y.steps; refused = add_assoc j y.refused 1 i; state = y.state }

pub before_picks : (d : Drives) (n : ℕ) (ps : List ℕ) (k j : ℕ) (y : Tally) → picks_from d n ps (before k j y) ≡ before k j (picks_from d n ps y)
unfolding picks_from
before_picks d n [] k j y = refl
before_picks d n (p ∷ ps) k j y = ap (picks_from d n ps) (before_pick d n p k j y) ∙ before_picks d n ps k j (one_pick d n p y)

-- ---- counts after a run

-- the steps that picks take, and those that then remain, are those that remained before
pub of_picks : (d : Drives) (n : ℕ) (ps : List ℕ) (s : State) → let y = by_picks d n ps s in y.steps + steps_left y.state.table n ≡ steps_left s.table n
of_picks d n ps s =
    picks_keep d n (λ k y. y.steps + steps_left y.state.table n ≡ steps_left s.table n)
    (λ k p y h f q. omega (arith, left_step d n p y.state (in_table d n y.state h) f)) (λ k y q. q) ps s (omega arith)

-- each pick is a step or a refusal
pub every_pick : (d : Drives) (n : ℕ) (ps : List ℕ) (s : State) → let y = by_picks d n ps s in y.steps + y.refused ≡ length ps
every_pick d n ps s =
    let e = picks_keep d n (λ k y. y.steps + y.refused ≡ k) (λ k p y h f q. omega arith) (λ k y q. omega arith) ps s refl in
    omega arith
