-- Steps one after another, by the places at which they are taken, and both runs as such: what a run leaves comes of accepted picks at some
-- places of its own table, on its own drives, as many as it reports; and each of them moves one named sector, closes one command, or both.
use Rattle.std.specs.Prelude.{◌≡◌, ◌≢◌, ℕ, List, [], ◌∷◌, length}
use Rattle.meaning.specs.Drives.{Drives}
use Rattle.meaning.specs.declared.Ran.{Ran}
use Rattle.meaning.specs.Store.{disk}
use Rattle.meaning.specs.State.{State}
use Rattle.meaning.specs.Pick.{pick_number, step_at}
use Rattle.meaning.specs.Run.{by_picks, as_written, RunGives}
use Rattle.meaning.specs.Conditions.{Absent}
use Rattle.order.specs.Earliest.{Earliest}
use Rattle.promises.specs.PickMoves.{PickMoves}

-- the steps at the places ps, one after another
abbrev pub steps_at : Drives → List ℕ → State → State
steps_at d [] s = s
steps_at d (p ∷ ps) s = steps_at d ps (step_at d p s)

-- P holds of each of them: of the state in which it is taken, and its place
abbrev pub Along : Drives → (State → ℕ → Type 0) → List ℕ → State → Type 0
Along d P [] s = Unit {0}
Along d P (p ∷ ps) s = P s p × Along d P ps (step_at d p s)

-- picks at the places ps, each accepted when its turn comes, lead from s to s'
pub record Taken (d : Drives) (n : ℕ) (ps : List ℕ) (s s' : State) : Type 0 where
  pub accepted : Along d (λ (u : State) (p : ℕ). pick_number d n p u ≡ 0) ps s
  pub leave : s' ≡ steps_at d ps s

-- k such picks lead from s to s'
pub record BySteps (d : Drives) (n : ℕ) (s s' : State) (k : ℕ) : Type 0 where
  pub places : List ℕ
  pub taken : Taken d n places s s'
  pub many : length places ≡ k

-- The picks ps, tried in turn from state s on, come down to steps at qs: those that are refused are passed over, and no others.
pub data Tried (d : Drives) (n : ℕ) : State → List ℕ → List ℕ → Type 0 where
  no_more : {s : State} → Tried d n s [] []
  accept : {s : State} {p : ℕ} {ps qs : List ℕ} → pick_number d n p s ≡ 0 → Tried d n (step_at d p s) ps qs → Tried d n s (p ∷ ps) (p ∷ qs)
  refuse : {s : State} {p : ℕ} {ps qs : List ℕ} → pick_number d n p s ≢ 0 → Tried d n s ps qs → Tried d n s (p ∷ ps) qs

-- a run by the picks ps takes those of them that are accepted, in their order
abbrev pub RunByPicksTakesSteps : Type 0
RunByPicksTakesSteps =
    (d : Drives) (n : ℕ) (ps : List ℕ) (s : State) (r : Ran) (s' : State)
    → RunGives d n (by_picks d n ps) s r s'
    → (b : BySteps d n s s' r.steps) × (r.number ≡ 0 → Tried d n s ps b.places)

-- a run as written takes each step of the command that is the earliest unfinished one then
abbrev pub RunAsWrittenTakesSteps : Type 0
RunAsWrittenTakesSteps =
    (d : Drives) (n b : ℕ) (s : State) (r : Ran) (s' : State)
    → RunGives d n (as_written d n b) s r s'
    → (y : BySteps d n s s' r.steps) × Along d (λ (u : State) (p : ℕ). Earliest u.table n p) y.places s

-- each step along the way moves one
abbrev pub StepsMoveOne : Type 0
StepsMoveOne =
    (d : Drives) (n : ℕ) (ps : List ℕ) (s s' : State)
    → Taken d n ps s s'
    → Along d (λ (u : State) (p : ℕ). PickMoves d p u (step_at d p u)) ps s

-- and none of them changes the disk of an absent unit
abbrev pub StepsLeaveAbsent : Type 0
StepsLeaveAbsent =
    (d : Drives) (n : ℕ) (ps : List ℕ) (s s' : State)
    → Taken d n ps s s'
    → (u : ℕ)
    → Absent d u
    → s'.store (disk u) ≡ s.store (disk u)
