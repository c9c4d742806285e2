-- The counts of the two runs: of picks first, and then of a run as written, which is the run by the picks that it would take.
use mathlib.Core.Path.{◌≡◌, sym, ap, ◌∙◌}
use mathlib.Core.Logic.{◌↔◌}
use Prim.Native.Nat.{ℕ, ◌≤◌, min}
use native.Mathlib.Omega.{arith}
use mathlib.Core.Bool.{true}
use mathlib.Core.List.{List}
use lib.ListN.{take}
use borrow.Author.Tests.{eqb-true, eq-eqb}
use Rattle.std.proofs.lemmas.Bool.{cond-true}
use Rattle.meaning.specs.Drives.{Drives}
use Rattle.meaning.specs.declared.Ran.{Ran}
use Rattle.meaning.specs.State.{State}
use Rattle.meaning.specs.Run.{steps_left, all_finished, run_number, Tally, by_picks, as_written, ran_to, run_reply, RunGives}
use Rattle.meaning.proofs.Counts as counts
use Rattle.meaning.proofs.Numbers.{ran_0}
use Rattle.order.specs.States.{written_picks}
use Rattle.order.specs.Steps.{NoneLeft, ReportsAddUp}
use Rattle.order.proofs.Picks.{of_picks, every_pick}
use Rattle.order.proofs.Written.{none_refused}
use Rattle.order.proofs.Earliest.{written_is_picks}

-- ---- none left

pub none_left : NoneLeft
none_left t n =
    let e = counts.none_left t n in
    (λ f. eqb-true (steps_left t n) 0 (sym e ∙ f), λ z. e ∙ eq-eqb (steps_left t n) 0 z)

-- picks finish all commands exactly if they take all the steps that remained
finished_picks : (d : Drives) (n : ℕ) (ps : List ℕ) (s : State)
    → let y = by_picks d n ps s in (all_finished y.state.table n ≡ true) ↔ (y.steps ≡ steps_left s.table n)
finished_picks d n ps s =
    let y = by_picks d n ps s in
    let h = of_picks d n ps s in
    let z = none_left y.state.table n in
    (λ f. omega (arith, z.0 f), λ e. z.1 (omega arith))

-- ---- as written

no_refusal : (d : Drives) (n b : ℕ) (s : State) → (as_written d n b s).refused ≡ 0
unfolding as_written
no_refusal d n b s = none_refused d b (take n s.table) s.store

steps_smaller : (d : Drives) (n b : ℕ) (s : State) → (as_written d n b s).steps ≡ min b (steps_left s.table n)
unfolding as_written steps_left
steps_smaller d n b s = counts.smaller d b (take n s.table) s.store

pub finished_written : (d : Drives) (n b : ℕ) (s : State) → run_number d n s ≡ 0
    → (all_finished (as_written d n b s).state.table n ≡ true) ↔ (steps_left s.table n ≤ b)
finished_written d n b s e =
    let z = rw (← written_is_picks d n b s e) at (finished_picks d n (written_picks n b s.table) s) in
    let k = steps_smaller d n b s in
    (λ f. let j = z.0 f in omega arith, λ h. z.1 (omega arith))

-- ---- what they report

-- the parts of its reply, and the state that it leaves
module _ (d : Drives) (n : ℕ) (go : State → Tally) (s : State) (r : Ran) (s' : State) (g : RunGives d n go s r s') where
  pub tells_number : r.number ≡ run_number d n s
  unfolding RunGives run_reply
  tells_number = ap (λ (x : Ran). x.number) g.0

  pub tells_steps : r.steps ≡ (ran_to d n go s).steps
  unfolding RunGives run_reply
  tells_steps = ap (λ (x : Ran). x.steps) g.0

  pub tells_state : s' ≡ (ran_to d n go s).state
  unfolding RunGives
  tells_state = g.1

  -- a run that gives 0 comes to what it says
  module _ (e : r.number ≡ 0) where
    pub passed_run_0 : run_number d n s ≡ 0
    passed_run_0 = sym tells_number ∙ e

    ran_is : ran_to d n go s ≡ go s
    ran_is = ran_0 d n s go passed_run_0

    pub reports_steps : r.steps ≡ (go s).steps
    reports_steps = tells_steps ∙ ap (λ (x : Tally). x.steps) ran_is

    pub reports_refused : r.refused ≡ (go s).refused
    unfolding RunGives run_reply
    reports_refused = ap (λ (x : Ran). x.refused) g.0 ∙ ap (λ (x : Tally). x.refused) ran_is

    pub reports_finished : r.finished ≡ all_finished (go s).state.table n
    unfolding RunGives run_reply
    reports_finished =
        ap (λ (x : Ran). x.finished) g.0
        ∙ cond-true _ _ _ (eq-eqb _ _ passed_run_0)
        ∙ ap (λ (x : Tally). all_finished x.state.table n) ran_is

    pub leaves_state : s' ≡ (go s).state
    leaves_state = tells_state ∙ ap (λ (x : Tally). x.state) ran_is

pub reports_add_up : ReportsAddUp
reports_add_up =
    record {
      picks = λ d n ps s r s' g e.
          rw (reports_steps d n (by_picks d n ps) s r s' g e, reports_refused d n (by_picks d n ps) s r s' g e, leaves_state d n (by_picks d n ps) s r s' g e)
          (every_pick d n ps s, of_picks d n ps s);
      finished = λ d n ps s r s' g e.
          rw (reports_steps d n (by_picks d n ps) s r s' g e, reports_finished d n (by_picks d n ps) s r s' g e) (finished_picks d n ps s);
      smaller = λ d n b s r s' g e.
          rw (reports_steps d n (as_written d n b) s r s' g e, reports_refused d n (as_written d n b) s r s' g e)
          (no_refusal d n b s, steps_smaller d n b s);
      enough = λ d n b s r s' g e.
          rw (reports_finished d n (as_written d n b) s r s' g e) (finished_written d n b s (passed_run_0 d n (as_written d n b) s r s' g e));
    }
