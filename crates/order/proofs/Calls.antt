-- Demand 3 for any list of calls. Whatever a call is, it leaves what some picks leave, and takes as many steps; so what holds of picks
-- holds of every call, and of any number of them.
use mathlib.Core.Path.{◌≡◌, refl, sym, ap, ap₂, ◌∙◌}
use Prim.Native.Nat.{ℕ, ◌+◌, ◌≤◌}
use native.Mathlib.Omega.{arith}
use mathlib.Core.Bool.{Bool, true, false, cond}
use mathlib.Core.List.{List, [], ◌∷◌}
use lib.Dec.{eqb}
use borrow.Author.Tests.{eqb-true, eqb-false}
use native.Mathlib.Nat.{le_refl}
use Rattle.meaning.specs.Drives.{Drives}
use Rattle.meaning.specs.declared.Ran.{Ran}
use Rattle.meaning.specs.State.{State}
use Rattle.meaning.specs.Pick.{pick_number, step_at, picked, PickGives}
use Rattle.meaning.specs.Run.{chain_steps, steps_left, run_number, Tally, at_start, one_pick, picks_from, by_picks, as_written, ran_to, run_reply, RunGives}
use Rattle.meaning.proofs.Numbers.{run_passed, passed_run, ran_0}
use Rattle.order.specs.States.{written_picks, rest}
use Rattle.order.specs.Calls.{Call, pick, run_by_picks, run_as_written, leaves, takes, after_calls, steps_taken, Makes, MakeAll}
use Rattle.order.specs.Rest.{CallsThenRest, AnyCallsThenRest, AnyCallsThenRestOfChain, RestFinishes}
use Rattle.order.specs.Steps.{CallsAddUp, ChainAddsUp}
use Rattle.order.proofs.Picks.{step_taken, passed_over, picks_keep, of_picks}
use Rattle.order.proofs.Earliest.{written_is_picks}
use Rattle.order.proofs.Rest.{larger_does_no_more, picks_then_rest, picks_accepted}
use Rattle.order.proofs.Steps.{none_left, finished_written, tells_number, tells_steps, tells_state, reports_add_up}
use Rattle.order.proofs.Accepted.{walk_is_sound}

-- ---- a call is some picks

-- y is what some picks come to from s, but for the picks refused
record SomePicks (d : Drives) (n : ℕ) (s : State) (k : ℕ) (s' : State) : Type 0 where
  picks : List ℕ
  steps : k ≡ (by_picks d n picks s).steps
  state : s' ≡ (by_picks d n picks s).state

no_picks : (d : Drives) (n : ℕ) (s : State) → SomePicks d n s 0 s
unfolding by_picks picks_from
no_picks d n s = record { picks = []; steps = refl; state = refl }

one_pick_lem : (d : Drives) (n p : ℕ) (s : State) → SomePicks d n s (takes d n (pick p) s) (leaves d n (pick p) s)
unfolding by_picks picks_from one_pick picked
one_pick_lem d n p s = record { picks = p ∷ []; steps = go_steps (eqb (pick_number d n p s) 0); state = go_state (eqb (pick_number d n p s) 0) }
  where
    taken : Tally
    taken = step_taken d p (at_start s)

    over : Tally
    over = passed_over (at_start s)

    go_steps : (x : Bool) → cond x 1 0 ≡ (cond x taken over).steps
    go_steps true = refl
    go_steps false = refl

    go_state : (x : Bool) → cond x (step_at d p s) s ≡ (cond x taken over).state
    go_state true = refl
    go_state false = refl

-- a run that would come to what some picks come to
run_picks : (d : Drives) (n : ℕ) (go : State → Tally) (s : State) (ps : List ℕ) → (run_number d n s ≡ 0 → go s ≡ by_picks d n ps s)
    → SomePicks d n s (ran_to d n go s).steps (ran_to d n go s).state
unfolding ran_to
run_picks d n go s ps same = which (eqb (run_number d n s) 0) refl
  where
    which : (x : Bool) → eqb (run_number d n s) 0 ≡ x → SomePicks d n s (cond x (go s) (at_start s)).steps (cond x (go s) (at_start s)).state
    which true e =
        let h = same (eqb-true (run_number d n s) 0 e) in
        record { picks = ps; steps = ap (λ (y : Tally). y.steps) h; state = ap (λ (y : Tally). y.state) h }
    which false e = no_picks d n s

call_picks : (d : Drives) (n : ℕ) (c : Call) (s : State) → SomePicks d n s (takes d n c s) (leaves d n c s)
call_picks d n (pick p) s = one_pick_lem d n p s
call_picks d n (run_by_picks ps) s = run_picks d n (by_picks d n ps) s ps (λ _. refl)
call_picks d n (run_as_written b) s = run_picks d n (as_written d n b) s (written_picks n b s.table) (written_is_picks d n b s)

-- ---- so of any list of calls

call_then_rest : (d : Drives) (n : ℕ) (c : Call) (s : State) → rest d n (leaves d n c s) ≡ rest d n s
call_then_rest d n c s = let q = call_picks d n c s in ap (rest d n) q.state ∙ picks_then_rest d n q.picks s

pub calls_then_rest : CallsThenRest
calls_then_rest d n [] s = refl
calls_then_rest d n (c ∷ cs) s = calls_then_rest d n cs (leaves d n c s) ∙ call_then_rest d n c s

calls_accepted : (d : Drives) (n : ℕ) (cs : List Call) (s : State) → run_number d n s ≡ 0 → run_number d n (after_calls d n cs s) ≡ 0
calls_accepted d n [] s e = e
calls_accepted d n (c ∷ cs) s e =
    let q = call_picks d n c s in
    let h = picks_accepted d n q.picks s (run_passed d n s e) in
    calls_accepted d n cs (leaves d n c s) (passed_run d n (leaves d n c s) (rw q.state h))

add_up : (d : Drives) (n : ℕ) (cs : List Call) (s : State) → steps_taken d n cs s + steps_left (after_calls d n cs s).table n ≡ steps_left s.table n
add_up d n [] s = omega arith
add_up d n (c ∷ cs) s =
    let q = call_picks d n c s in
    let h = of_picks d n q.picks s in
    let k : takes d n c s + steps_left (leaves d n c s).table n ≡ steps_left s.table n = rw (q.steps, q.state) h in
    omega (arith, add_up d n cs (leaves d n c s))

-- ---- the same of calls that are known by their contracts

made : (d : Drives) (n : ℕ) (c : Call) (s : State) (k : ℕ) (s' : State) → Makes d n c s k s' → (k ≡ takes d n c s) × (s' ≡ leaves d n c s)
unfolding PickGives RunGives run_reply
made d n (pick p) s k s' g = (g.2 ∙ ap (λ (j : ℕ). cond (eqb j 0) 1 0) g.1.0, g.1.1)
made d n (run_by_picks ps) s k s' g = (g.2 ∙ ap (λ (x : Ran). x.steps) g.1.0, g.1.1)
made d n (run_as_written b) s k s' g = (g.2 ∙ ap (λ (x : Ran). x.steps) g.1.0, g.1.1)

made_all : (d : Drives) (n : ℕ) (cs : List Call) (s : State) (k : ℕ) (s' : State) → MakeAll d n cs s k s'
    → (k ≡ steps_taken d n cs s) × (s' ≡ after_calls d n cs s)
made_all d n [] s k s' g = (g.0, g.1)
made_all d n (c ∷ cs) s k s' g =
    let h = made d n c s g.0 g.2 g.3 in
    let t = made_all d n cs g.2 g.1 s' g.4 in
    (g.5 ∙ ap₂ ◌+◌ h.0 (t.0 ∙ ap (steps_taken d n cs) h.1), t.1 ∙ ap (after_calls d n cs) h.1)

pub calls_add_up : CallsAddUp
calls_add_up d n cs s k s' g =
    let h = made_all d n cs s k s' g in
    rw (h.0, h.1) (add_up d n cs s)

-- ---- where 1 or 9 is given, nothing is done

refused_picks : (d : Drives) (n : ℕ) (ps : List ℕ) (s : State) → (run_number d n s ≡ 0 → ⊥) → ((by_picks d n ps s).state ≡ s) × ((by_picks d n ps s).steps ≡ 0)
refused_picks d n ps s off =
    picks_keep d n (λ k y. (y.state ≡ s) × (y.steps ≡ 0))
    (λ k p y h f q. absurd (off (sym (ap (run_number d n) q.0) ∙ passed_run d n y.state h))) (λ k y q. q) ps s (refl, refl)

refused_calls : (d : Drives) (n : ℕ) (cs : List Call) (s : State) → (run_number d n s ≡ 0 → ⊥) → (after_calls d n cs s ≡ s) × (steps_taken d n cs s ≡ 0)
refused_calls d n [] s off = (refl, refl)
refused_calls d n (c ∷ cs) s off =
    let q = call_picks d n c s in
    let h = refused_picks d n q.picks s off in
    let same : leaves d n c s ≡ s = q.state ∙ h.0 in
    let t = refused_calls d n cs s off in
    (ap (after_calls d n cs) same ∙ t.0, ap₂ ◌+◌ (q.steps ∙ h.1) (ap (steps_taken d n cs) same ∙ t.1))

-- ---- the statements

pub any_calls_then_rest : AnyCallsThenRest
any_calls_then_rest d n cs b k s s₁ s₂ s₀ r r₀ g l w w₀ = which (eqb (run_number d n s) 0) refl
  where
    run : State → Tally
    run = as_written d n b

    made_so : (k ≡ steps_taken d n cs s) × (s₁ ≡ after_calls d n cs s)
    made_so = made_all d n cs s k s₁ g

    which : (x : Bool) → eqb (run_number d n s) 0 ≡ x → (s₂ ≡ s₀) × (k + r.steps ≡ r₀.steps)
    which true x =
        let e = eqb-true (run_number d n s) 0 x in
        let e₁ : run_number d n s₁ ≡ 0 = rw made_so.1 (calls_accepted d n cs s e) in
        let sum = calls_add_up d n cs s k s₁ g in
        let most : steps_left s₁.table n ≤ b = omega arith in
        let same : rest d n s₁ ≡ rest d n s = rw made_so.1 (calls_then_rest d n cs s) in
        let c₁ = reports_add_up.smaller d n b s₁ r s₂ w (tells_number d n run s₁ r s₂ w ∙ e₁) in
        let c₀ = reports_add_up.smaller d n b s r₀ s₀ w₀ (tells_number d n run s r₀ s₀ w₀ ∙ e) in (
          tells_state d n run s₁ r s₂ w
              ∙ ap (λ (y : Tally). y.state) (ran_0 d n s₁ run e₁)
              ∙ larger_does_no_more d n b s₁ e₁ most
              ∙ same
              ∙ sym (larger_does_no_more d n b s e l)
              ∙ sym (ap (λ (y : Tally). y.state) (ran_0 d n s run e))
              ∙ sym (tells_state d n run s r₀ s₀ w₀),
          let i = c₁.1 in let j = c₀.1 in omega arith,
        )
    which false x =
        let h = refused_calls d n cs s (eqb-false (run_number d n s) 0 x) in
        let same : s₁ ≡ s = made_so.1 ∙ h.0 in
        let none : k ≡ 0 = made_so.0 ∙ h.1 in (
          tells_state d n run s₁ r s₂ w ∙ ap (λ (u : State). (ran_to d n run u).state) same ∙ sym (tells_state d n run s r₀ s₀ w₀),
          let i = tells_steps d n run s₁ r s₂ w ∙ ap (λ (u : State). (ran_to d n run u).steps) same ∙ sym (tells_steps d n run s r₀ s₀ w₀) in omega arith,
        )

pub any_calls_then_rest_of_chain : AnyCallsThenRestOfChain
any_calls_then_rest_of_chain d start s w t cs k s₁ g z m =
    let n = w.commands in
    let u : State = record { table = t; store = s.store } in
    let h = walk_is_sound d start s w t g z in
    let same : rest d n s₁ ≡ rest d n u = rw (made_all d n cs u k s₁ m).1 (calls_then_rest d n cs u) in
    same ∙ sym (larger_does_no_more d n (chain_steps t n) u h.0 (let e = h.2 in omega arith))

pub rest_finishes : RestFinishes
rest_finishes d n s e =
    let b = steps_left s.table n in
    rw (← larger_does_no_more d n b s e (le_refl b)) ((finished_written d n b s e).1 (le_refl b))

pub chain_adds_up : ChainAddsUp
chain_adds_up d start s w t cs k s' g z m =
    let n = w.commands in
    let h = walk_is_sound d start s w t g z in
    let sum = calls_add_up d n cs (record { table = t; store = s.store }) k s' m in
    let none = none_left s'.table n in
    let all = h.2 in
    (λ f. let e = none.0 f in omega arith, λ e. none.1 (omega arith))
