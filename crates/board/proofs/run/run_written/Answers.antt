-- `board::run::run_written` meets its contract: numbers 1 and 9, and then its loop keeps `WrittenLeft`.
use mathlib.Core.Path.{◌≡◌, refl, sym, ap, ◌∙◌, subst, subst₂}
use Prim.Native.Nat.{ℕ, ◌+◌, ◌-◌, ◌≤◌}
use native.Mathlib.Omega.{arith}
use mathlib.Core.List.{List}
use lib.ListN.{length, get_or}
use lib.Seq.{length-take-le}
use Rattle.meaning.specs.declared.Record.{Record}
use Rattle.meaning.specs.declared.Ran.{Ran}
use Rattle.meaning.specs.declared.LentDrives.{LentDrives}
use Rattle.meaning.specs.Drives.{drives_of}
use Rattle.meaning.specs.Lends.{store_of}
use Rattle.meaning.specs.State.{state_in}
use Rattle.meaning.specs.Command.{no_record}
use Rattle.meaning.specs.Refusals.{told}
use Rattle.meaning.specs.Run.{as_written, steps_done, all_finished, RunGives}
use Rattle.meaning.proofs.Told.{number_not_0}
use Rattle.board.proofs.Runs.{same_lent, refused_gives, accepted_gives}
use Rattle.board.proofs.Written.{WrittenLeft, written_begin, in_use_there, turn_ready, next_turn, all_written}
use Rattle.board.proofs.run.run_written.Goals as goal
use Rattle.board.proofs.run.run_written.Goals.{After-loop-at}

pub returns-in-Err-clause-gives : goal.returns-in-Err-clause-gives
returns-in-Err-clause-gives c = let a = c.args in
    let d = drives_of a.store.now.drives in
    let s = state_in (store_of a.store.now) a.table.now in
    subst (λ (x : Ran). RunGives d a.commands (as_written d a.commands a.budget) s x s) (sym c.refused.ensures)
    (refused_gives d a.commands (as_written d a.commands a.budget) s c.from.result (c.from.ensures ∙ sym (ap told c.in-Err.is) ∙ c.opening.ensures.number) (λ h. number_not_0 c.in-Err.refusal (sym c.from.ensures ∙ h)))

pub loop-at-init : goal.loop-at-init
loop-at-init c = let a = c.args in
    ((refl, refl, refl, refl, refl, refl), written_begin (drives_of a.store.now.drives) a.commands a.budget (store_of a.store.now) a.table.now (sym c.in_default.ensures.number))

pub take_within-requires : goal.take_within-requires
take_within-requires c = let a = c.args in
    let l = c.loop-at in
    let d = drives_of a.store.now.drives in
    let there = in_use_there d a.commands a.budget (store_of a.store.now) a.table.now (store_of l.store) l.table l.left l.at l.invariant.1 in
    (omega (arith, there, c.loop-at-test.true), turn_ready d a.commands a.budget (store_of a.store.now) a.table.now (store_of l.store) l.table l.left l.at l.invariant.1 c.loop-at-test.true)

pub loop-at-preserved : goal.loop-at-preserved
loop-at-preserved c = let a = c.args in
    let l = c.loop-at in
    let d = drives_of a.store.now.drives in
    let v = c.take_within in
    let moved = v.ensures.moved ∙ ap (λ (x : LentDrives). steps_done (drives_of x) v.result (get_or l.table l.at no_record) (store_of l.store)) l.invariant.0.5 in (
      same_lent a.store.now l.store v.new.store l.invariant.0 v.ensures.same,
      subst₂ (λ (t : List Record) (k : ℕ). WrittenLeft d a.commands a.budget (store_of a.store.now) a.table.now (store_of v.new.store) t (l.left - k) (l.at + 1)) (sym v.ensures.record) (sym c.from-left.ensures)
          (next_turn d a.commands a.budget (store_of a.store.now) a.table.now (store_of l.store) l.table l.left l.at l.invariant.1 c.loop-at-test.true v.result v.ensures.many (store_of v.new.store) moved),
    )

there : (c : After-loop-at) → c.args.commands ≤ length c.loop-at.table
there c = let a = c.args in
    let l = c.loop-at in
    in_use_there (drives_of a.store.now.drives) a.commands a.budget (store_of a.store.now) a.table.now (store_of l.store) l.table l.left l.at l.invariant.1

pub slice_bounds-accepted-end : goal.slice_bounds-accepted-end
slice_bounds-accepted-end c = there (goal.at.slice_bounds-accepted-end c).After-loop-at

pub slice_bounds-accepted-end-2 : goal.slice_bounds-accepted-end-2
slice_bounds-accepted-end-2 c = sym (length-take-le c.args.commands c.loop-at.table (there (goal.at.slice_bounds-accepted-end-2 c).After-loop-at))

pub returns-clause-gives : goal.returns-clause-gives
unfolding all_finished
returns-clause-gives c = let a = c.args in
    let l = c.loop-at in
    let d = drives_of a.store.now.drives in
    let s = state_in (store_of a.store.now) a.table.now in
    let at-end : l.at ≡ a.commands = omega (arith, c.loop-at-test.false, l.auto.at-end) in
    subst (λ (x : Ran). RunGives d a.commands (as_written d a.commands a.budget) s x (state_in (store_of l.store) l.table)) (sym c.accepted.ensures)
    (accepted_gives d a.commands (as_written d a.commands a.budget) s (a.budget - l.left) 0 (state_in (store_of l.store) l.table) (sym c.in_default.ensures.number)
    (all_written d a.commands a.budget (store_of a.store.now) a.table.now (store_of l.store) l.table l.left l.at l.invariant.1 at-end) _ refl)
