-- A list of calls of any kind, in any mixture, refused ones included: what they leave, and the steps that they take. `MakeAll` says it by
-- the contracts alone, so that it is said of the forms by value and of the exported functions alike: both meet these contracts.
use Rattle.std.specs.Prelude.{◌≡◌, ℕ, ◌+◌, cond, List, [], ◌∷◌, eqb}
use Rattle.meaning.specs.Drives.{Drives}
use Rattle.meaning.specs.declared.Ran.{Ran}
use Rattle.meaning.specs.State.{State}
use Rattle.meaning.specs.Pick.{pick_number, picked, PickGives}
use Rattle.meaning.specs.Run.{by_picks, as_written, ran_to, RunGives}

-- a call that takes steps
pub data Call : Type 0 where
  pick : (place : ℕ) → Call
  run_by_picks : (picks : List ℕ) → Call
  run_as_written : (budget : ℕ) → Call

-- what a call leaves, and how many steps it takes: a pick that is accepted takes one
abbrev pub leaves : Drives → ℕ → Call → State → State
leaves d n (pick p) s = picked d n p s
leaves d n (run_by_picks ps) s = (ran_to d n (by_picks d n ps) s).state
leaves d n (run_as_written b) s = (ran_to d n (as_written d n b) s).state

abbrev pub takes : Drives → ℕ → Call → State → ℕ
takes d n (pick p) s = cond (eqb (pick_number d n p s) 0) 1 0
takes d n (run_by_picks ps) s = (ran_to d n (by_picks d n ps) s).steps
takes d n (run_as_written b) s = (ran_to d n (as_written d n b) s).steps

-- calls one after another
abbrev pub after_calls : Drives → ℕ → List Call → State → State
after_calls d n [] s = s
after_calls d n (c ∷ cs) s = after_calls d n cs (leaves d n c s)

abbrev pub steps_taken : Drives → ℕ → List Call → State → ℕ
steps_taken d n [] s = 0
steps_taken d n (c ∷ cs) s = takes d n c s + steps_taken d n cs (leaves d n c s)

-- ---- the same by the contracts

-- a call whose reply and state after it meet its contract; it takes k steps
abbrev pub Makes : Drives → ℕ → Call → State → ℕ → State → Type 0
Makes d n (pick p) s k s' = (number : ℕ) × PickGives d n p s number s' × (k ≡ cond (eqb number 0) 1 0)
Makes d n (run_by_picks ps) s k s' = (r : Ran) × RunGives d n (by_picks d n ps) s r s' × (k ≡ r.steps)
Makes d n (run_as_written b) s k s' = (r : Ran) × RunGives d n (as_written d n b) s r s' × (k ≡ r.steps)

abbrev pub MakeAll : Drives → ℕ → List Call → State → ℕ → State → Type 0
MakeAll d n [] s k s' = (k ≡ 0) × (s' ≡ s)
MakeAll d n (c ∷ cs) s k s' = (j i : ℕ) × (u : State) × Makes d n c s j u × MakeAll d n cs u i s' × (k ≡ j + i)
