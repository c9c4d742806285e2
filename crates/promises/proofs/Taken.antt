-- Steps at places one after another, and a run by picks as such steps: a pick of it is taken where its number is 0, and passed over
-- otherwise.
use mathlib.Core.Path.{◌≡◌, refl, ◌∙◌}
use Prim.Native.Nat.{ℕ, ◌+◌}
use native.Mathlib.Omega.{arith}
use mathlib.Core.Bool.{Bool, cond}
use mathlib.Core.List.{List, [], ◌∷◌, ◌++◌}
use lib.ListN.{length}
use Rattle.meaning.specs.Drives.{Drives}
use Rattle.meaning.specs.Store.{disk}
use Rattle.meaning.specs.State.{State}
use Rattle.meaning.specs.Pick.{pick_number, step_at}
use Rattle.meaning.specs.Run.{run_number, Tally, at_start, one_pick, picks_from, by_picks, ran_to, run_reply, RunGives}
use Rattle.meaning.proofs.Means.{Means, holds, fails, means_eq}
use Rattle.promises.specs.Taken.{steps_at, Along, BySteps, Tried, no_more, accept, refuse, RunByPicksTakesSteps, StepsMoveOne, StepsLeaveAbsent}
use Rattle.order.proofs.Picks.{step_taken, passed_over}
use Rattle.promises.proofs.PickMoves.{taken_moves_one}

-- ---- along the way

module _ (d : Drives) where
  module _ (P : State → ℕ → Type 0) where
    pub along_after : (ps qs : List ℕ) (s : State) → Along d P (ps ++ qs) s → Along d P qs (steps_at d ps s)
    along_after [] qs s h = h
    along_after (p ∷ ps) qs s h = along_after ps qs (step_at d p s) h.1

    pub along_map : (Q : State → ℕ → Type 0) → ((s : State) (p : ℕ) → P s p → Q s p) → (ps : List ℕ) (s : State) → Along d P ps s → Along d Q ps s
    along_map Q f [] s h = tt
    along_map Q f (p ∷ ps) s h = (f s p h.0, along_map Q f ps (step_at d p s) h.1)

-- the pick at p of state u is accepted
abbrev pub Accepted : Drives → ℕ → State → ℕ → Type 0
Accepted d n u p = pick_number d n p u ≡ 0

pub steps_move_one : StepsMoveOne
steps_move_one d n ps s s' h = along_map d (Accepted d n) _ (λ u p. taken_moves_one d n p u) ps s h.accepted

pub steps_leave_absent : StepsLeaveAbsent
steps_leave_absent d n ps s s' h u gone = rw h.leave (along ps s h.accepted)
  where
    along : (qs : List ℕ) (s : State) → Along d (Accepted d n) qs s → (steps_at d qs s).store (disk u) ≡ s.store (disk u)
    along [] s h = refl
    along (p ∷ qs) s h = along qs (step_at d p s) h.1 ∙ (taken_moves_one d n p s h.0).moved.absent_disks u gone

-- ---- by picks

-- the picks ps lead from the one tally to the other by those that are accepted, and these are counted
record Counted (d : Drives) (n : ℕ) (ps : List ℕ) (y y' : Tally) : Type 0 where
  places : List ℕ
  tried : Tried d n y.state ps places
  accepted : Along d (Accepted d n) places y.state
  left : y'.state ≡ steps_at d places y.state
  many : y'.steps ≡ y.steps + length places

module _ (d : Drives) (n : ℕ) where
  -- a pick that is taken, or passed over, and then the rest
  one_counted : (p : ℕ) (ps : List ℕ) (y : Tally) {b : Bool}
      → Means (Accepted d n y.state p) b
      → ((x : Tally) → Counted d n ps x (picks_from d n ps x))
      → Counted d n (p ∷ ps) y (picks_from d n ps (cond b (step_taken d p y) (passed_over y)))
  one_counted p ps y (holds z) rest =
      let c = rest (step_taken d p y) in
      record {
        places = p ∷ c.places;
        tried = accept z c.tried;
        accepted = (z, c.accepted);
        left = c.left;
        many = let e = c.many in omega arith;
      }
  one_counted p ps y (fails o) rest =
      let c = rest (passed_over y) in
      record { places = c.places; tried = refuse o c.tried; accepted = c.accepted; left = c.left; many = c.many }

  picks_counted : (ps : List ℕ) (y : Tally) → Counted d n ps y (picks_from d n ps y)
  unfolding picks_from one_pick
  picks_counted [] y = record { places = []; tried = no_more; accepted = tt; left = refl; many = omega arith }
  picks_counted (p ∷ ps) y = one_counted p ps y (means_eq (pick_number d n p y.state) 0) (picks_counted ps)

-- what picks come to, tried in turn
pub picks_taken : (d : Drives) (n : ℕ) (ps : List ℕ) (s : State)
    → (b : BySteps d n s (by_picks d n ps s).state (by_picks d n ps s).steps) × Tried d n s ps b.places
unfolding by_picks
picks_taken d n ps s =
    let c = picks_counted d n ps (at_start s) in
    (record { places = c.places; taken = record { accepted = c.accepted; leave = c.left }; many = let e = c.many in omega arith }, c.tried)

-- a run that is refused takes no step
abbrev pub no_steps : (d : Drives) (n : ℕ) (s : State) → BySteps d n s s 0
no_steps d n s = record { places = []; taken = record { accepted = tt; leave = refl }; many = refl }

pub run_by_picks_takes_steps : RunByPicksTakesSteps
unfolding RunGives run_reply ran_to
run_by_picks_takes_steps d n ps s r s' g = rw (g.0, g.1) (whole (means_eq (run_number d n s) 0))
  where
    left : Bool → Tally
    left b = cond b (by_picks d n ps s) (at_start s)

    whole : {b : Bool} → Means (run_number d n s ≡ 0) b → (x : BySteps d n s (left b).state (left b).steps) × (run_number d n s ≡ 0 → Tried d n s ps x.places)
    whole (holds _) = let c = picks_taken d n ps s in (c.0, λ _. c.1)
    whole (fails o) = (no_steps d n s, λ z. absurd (o z))
