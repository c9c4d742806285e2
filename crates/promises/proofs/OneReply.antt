-- A contract is an equation, or two: what it names is the one reply that meets it. Where memory and images are lent, these and the table
-- make up the whole state afterwards, since no call changes the length of a space.
use mathlib.Core.Path.{◌≡◌, refl, sym, ◌∙◌}
use Prim.Native.Nat.{ℕ}
use mathlib.Core.Bool.{Bool, true, false, cond}
use mathlib.Core.List.{List, [], ◌∷◌}
use lib.ListN.{length}
use lib.Dec.{eqb}
use Rattle.meaning.specs.Drives.{Drives}
use Rattle.meaning.specs.OneReply.{OneReply}
use Rattle.meaning.specs.Store.{memory, disk}
use Rattle.meaning.specs.State.{State}
use Rattle.meaning.specs.Look.{look_number, look_part, looked_part}
use Rattle.meaning.specs.Place.{placed}
use Rattle.meaning.specs.View.{made_number, view_of}
use Rattle.meaning.specs.Walk.{WalkGives}
use Rattle.meaning.specs.Pick.{pick_number, step_at, picked, PickGives}
use Rattle.meaning.specs.Run.{chain_steps, by_picks, as_written, ran_to, run_reply, RunGives}
use Rattle.meaning.proofs.OneReply.{one_equation, two_equations, told_equation}
use Rattle.meaning.proofs.Told.{told_once}
use Rattle.meaning.proofs.Spaces.{AsLong}
use Rattle.meaning.proofs.Still.{step_keeps_lengths}
use Rattle.meaning.proofs.Lent.{state_again}
use Rattle.promises.specs.PickMoves.{command_at}
use Rattle.promises.specs.Taken.{steps_at, BySteps}
use Rattle.promises.specs.OneReply.{Left, left_state, EachHasOneReply}
use Rattle.promises.proofs.Taken.{run_by_picks_takes_steps}
use Rattle.promises.proofs.AsWritten.{run_as_written_takes_steps}

-- ---- no call changes the length of a space

step_long : (d : Drives) (p : ℕ) (s : State) → AsLong (step_at d p s).store s.store
unfolding step_at
step_long d p s = step_keeps_lengths d (command_at s p) s.store

steps_long : (d : Drives) (ps : List ℕ) (s : State) → AsLong (steps_at d ps s).store s.store
steps_long d [] s q = refl
steps_long d (p ∷ ps) s q = steps_long d ps (step_at d p s) q ∙ step_long d p s q

picked_long : (d : Drives) (n p : ℕ) (s : State) → AsLong (picked d n p s).store s.store
unfolding picked
picked_long d n p s q = go (eqb (pick_number d n p s) 0)
  where
    go : (b : Bool) → length ((cond b (step_at d p s) s).store q) ≡ length (s.store q)
    go true = step_long d p s q
    go false = refl

by_steps_long : {d : Drives} {n : ℕ} {s s' : State} {k : ℕ} → BySteps d n s s' k → AsLong s'.store s.store
by_steps_long {d} {s} y q = rw y.taken.leave (steps_long d y.places s q)

-- ---- what is lent

-- what is left of a state
abbrev left_of : State → Left
left_of u = (u.store memory, u.store (disk 0), u.store (disk 1), u.store (disk 2), u.store (disk 3), u.table)

one_outcome : {A : Type 0} (a : A) (x : Left) (u : State)
    → AsLong u.store (left_state x).store
    → OneReply (λ (y : A × Left). (y.0 ≡ a) × (left_state y.1 ≡ u))
one_outcome a x u h = (
  (a, left_of u),
  (refl, state_again x.0 x.1 x.2 x.3 x.4 u h),
  λ y e j. (e.0 j, left_of (e.1 j)),
)

pub each_has_one_reply : EachHasOneReply
unfolding WalkGives PickGives RunGives
each_has_one_reply =
    record {
      plain = one_equation;
      walk = λ d start s. two_equations _ _;
      pick = λ d n p x. one_outcome _ x (picked d n p (left_state x)) (picked_long d n p (left_state x));
      run_by_picks_lem = λ d n ps x.
          let s = left_state x in
          one_outcome _ x _ (by_steps_long (run_by_picks_takes_steps d n ps s (run_reply d n (by_picks d n ps) s) (ran_to d n (by_picks d n ps) s).state (refl, refl)).0);
      run_as_written_lem = λ d n b x.
          let s = left_state x in
          one_outcome _ x _ (by_steps_long (run_as_written_takes_steps d n b s (run_reply d n (as_written d n b) s) (ran_to d n (as_written d n b) s).state (refl, refl)).0);
      pick_of_state = λ d n p s. two_equations _ _;
      run_of_state = λ d n go s. two_equations _ _;
      chain_steps_lem = λ t n. one_equation (chain_steps t n);
      look = λ d u n s. one_equation (look_part d u n s);
      looked_part_lem = λ d u n s. one_equation (looked_part d u n s);
      look_number_lem = λ d u n s. one_equation (look_number d u n s);
      look_in_place = λ p image r r' a b. (a.0 ∙ sym b.0, a.1 ∙ sym b.1, a.2 ∙ sym b.2);
      place = λ d n. one_equation (placed d n);
      view = λ m a. one_equation (view_of m a);
      view_number = λ m a. one_equation (made_number m a);
      refusal = λ k r r' e e'. told_once r r' (e ∙ sym e');
      look_refused = λ d u n s r r' e e'. told_once r r' (e ∙ sym e');
      view_refused = λ m a r r' e e'. told_once r r' (e ∙ sym e');
      pick_refused = λ d n p s x y e e' j. (told_once x.0 y.0 (e.0 ∙ sym e'.0) j, (e.1 ∙ sym e'.1) j);
      lent_part = told_equation (λ x. x.now);
      disks_lent_on = λ s x y e e' j. ((e.0 ∙ sym e'.0) j, (e.1 ∙ sym e'.1) j, (e.2 ∙ sym e'.2) j, (e.3 ∙ sym e'.3) j, (e.4 ∙ sym e'.4) j);
    }
