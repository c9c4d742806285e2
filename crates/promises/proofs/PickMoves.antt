-- An accepted pick is one step at its place: number 0 says that the step may be taken, and the table is stored at that place only.
use mathlib.Core.Path.{◌≡◌, refl, sym, ◌∙◌}
use Prim.Native.Nat.{ℕ, ◌<◌}
use native.Mathlib.Omega.{arith}
use lib.ListN.{length, length-set}
use lib.Seq.{get_or-set_same, get_or-set_other}
use borrow.Author.Tests.{eq-eqb}
use Rattle.meaning.specs.Drives.{Drives}
use Rattle.meaning.specs.declared.Record.{Record}
use Rattle.meaning.specs.State.{State}
use Rattle.meaning.specs.Command.{no_record}
use Rattle.meaning.specs.Step.{with_taken, stepped}
use Rattle.meaning.specs.Pick.{pick_number, step_at, picked, PickGives}
use Rattle.meaning.proofs.Means.{when_false}
use Rattle.meaning.proofs.Conditions.{means_store, means_finished, means_bad_record}
use Rattle.meaning.proofs.Numbers.{Free, place_free, Passed, pick_passed, store_right, in_table, none_bad}
use Rattle.promises.specs.StepMoves.{MayStep}
use Rattle.promises.specs.PickMoves.{command_at, OneStepMore, PickMoves, AcceptedPickMovesOne}
use Rattle.promises.proofs.StepMoves.{step_moves_one}

one_step_more : (r : Record) → OneStepMore r (stepped r)
unfolding stepped with_taken
one_step_more r = record { taken = refl; iopb = refl; address = refl; sector = refl; ranges = refl; count = refl; unit = refl; byte0 = refl; code = refl; fitted = refl; list = refl }

module _ (d : Drives) (n p : ℕ) (s : State) (zero : pick_number d n p s ≡ 0) where
  passed : Passed d n s
  passed = (pick_passed d n s p zero).0

  free : Free s.table n p
  free = place_free s.table n p (pick_passed d n s p zero).1

  place : p < length s.table
  place = let h = in_table d n s passed in let k = free.in_use in omega arith

  pub may_step : MayStep d (command_at s p) s.store
  may_step =
      record {
        sizes = when_false (means_store d s.store) (store_right d n s passed);
        sound = when_false (means_bad_record d s.store (command_at s p)) (none_bad d n s passed p free.in_use);
        unfinished = when_false (means_finished (command_at s p)) free.unfinished;
      }

  -- the step at that place
  pub taken_moves_one : PickMoves d p s (step_at d p s)
  unfolding step_at
  taken_moves_one =
      let r = command_at s p in
      record {
        moved = step_moves_one d r s.store may_step;
        here = rw (get_or-set_same s.table p (stepped r) no_record place) (one_step_more r);
        others = λ q o. get_or-set_other s.table p q (stepped r) no_record o;
        size = length-set s.table p (stepped r);
      }

  pub picked_step : picked d n p s ≡ step_at d p s
  unfolding picked
  picked_step = rw (eq-eqb (pick_number d n p s) 0 zero)

pub accepted_pick_moves_one : AcceptedPickMovesOne
unfolding PickGives
accepted_pick_moves_one d n p s k s' g z =
    let zero : pick_number d n p s ≡ 0 = sym g.0 ∙ z in
    rw (g.1, picked_step d n p s zero) (taken_moves_one d n p s zero)
