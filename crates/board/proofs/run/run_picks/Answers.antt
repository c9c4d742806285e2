-- `board::run::run_picks` meets its contract: numbers 1 and 9, and then its loop keeps `PicksLeft`.
use mathlib.Core.Path.{refl, sym, ap, ◌∙◌, subst}
use Prim.Native.Nat.{ℕ, ◌+◌, ◌-◌, ◌≤◌}
use native.Mathlib.Omega.{arith}
use mathlib.Core.Bool.{false≢true}
use lib.ListN.{length, get_or}
use lib.Seq.{length-take-le}
use borrow.Author.Rules.{rules}
use borrow.Author.Tests.{eq-eqb, eqb-true}
use Rattle.std.proofs.lemmas.Fn.{always_returns_same}
use Rattle.std.specs.Fn.{ComputesOnPairs}
use Rattle.std.specs.Slice.Iter.{chunk_by_rest, chunk_by_callee}
use Rattle.meaning.specs.declared.Ran.{Ran}
use Rattle.meaning.specs.declared.LentDrives.{LentDrives}
use Rattle.meaning.specs.Drives.{drives_of}
use Rattle.meaning.specs.Lends.{store_of}
use Rattle.meaning.specs.State.{state_in}
use Rattle.meaning.specs.Command.{no_record}
use Rattle.meaning.specs.Pick.{place_number}
use Rattle.meaning.specs.Refusals.{told}
use Rattle.meaning.specs.Run.{by_picks, steps_done, all_finished, RunGives}
use Rattle.meaning.proofs.Told.{number_not_0}
use Rattle.meaning.proofs.Numbers.{place_free, most_32, table_long, in_table}
use Rattle.board.proofs.Runs.{same_lent, refused_gives, accepted_gives}
use Rattle.board.proofs.ByPicks.{PicksLeft, picks_begin, room_for, part_passed, part_taken, all_picked, still_compares}
use Rattle.board.specs.Together.{together}
use Rattle.board.proofs.run.run_picks.Goals as goal
use Rattle.board.proofs.run.run_picks.Goals.{In-None}

pub returns-in-Err-clause-gives : goal.returns-in-Err-clause-gives
returns-in-Err-clause-gives c = let a = c.args in
    let d = drives_of a.store.now.drives in
    let s = state_in (store_of a.store.now) a.table.now in
    subst (λ (x : Ran). RunGives d a.commands (by_picks d a.commands a.picks.now) s x s) (sym c.refused.ensures)
    (refused_gives d a.commands (by_picks d a.commands a.picks.now) s c.from.result (c.from.ensures ∙ sym (ap told c.in-Err.is) ∙ c.opening.ensures.number) (λ h. number_not_0 c.in-Err.refusal (sym c.from.ensures ∙ h)))

pub loop-alike-init : goal.loop-alike-init
loop-alike-init c = let a = c.args in
    let d = drives_of a.store.now.drives in
    let all = ap chunk_by_rest c.into_iter-alike-iterator.ensures.into_iter_gives ∙ c.chunk_by-alike-items.ensures.rest in
    ((refl, refl, refl, refl, refl, refl), subst (PicksLeft d a.commands a.picks.now (store_of a.store.now) a.table.now (store_of a.store.now) a.table.now c.in-Ok.watches 0) (sym all) (picks_begin d a.commands a.picks.now (store_of a.store.now) a.table.now c.in-Ok.watches (sym c.in-Ok.ensures.number) c.in-Ok.ensures.watching))

pub may_go-requires : goal.may_go-requires
may_go-requires c = let a = c.args in
    let l = c.loop-alike in
    let d = drives_of a.store.now.drives in
    let w = l.invariant.1 in
    (most_32 d a.commands (state_in (store_of l.store) l.table) w.passed, table_long d a.commands (state_in (store_of l.store) l.table) w.passed, w.watching)

pub take_within-requires : goal.take_within-requires
take_within-requires c = let a = c.args in
    let l = c.loop-alike in
    let d = drives_of a.store.now.drives in
    let w = l.invariant.1 in
    let p = c.from-place.result in
    let f = place_free l.table a.commands p (eqb-true _ 0 (sym c.may_go.ensures.free ∙ c.if-may_go.true)) in
    let there = in_table d a.commands (state_in (store_of l.store) l.table) w.passed in
    (omega (arith, there, f.in_use), room_for d a.commands a.picks.now (store_of a.store.now) a.table.now (store_of l.store) l.table w.passed p f.in_use)

pub loop-alike-preserved-then-may_go : goal.loop-alike-preserved-then-may_go
loop-alike-preserved-then-may_go c = let a = c.args in
    let l = c.loop-alike in
    let d = drives_of a.store.now.drives in
    let v = c.take_within in
    let p = c.from-place.result in
    let steps = c.in-Some.ensures.steps in
    let callee = ap chunk_by_callee c.into_iter-alike-iterator.ensures.into_iter_gives ∙ c.chunk_by-alike-items.ensures.closure in
    let compares = still_compares _ (together a.commands) _ _ _ l.yielded_by (subst (ComputesOnPairs _ (together a.commands)) (sym callee) (always_returns_same _ _ _ (λ x r g called. search rules))) in
    let adjacent = (steps.2 (together a.commands) compares).1.0 in
    let moved = v.ensures.moved ∙ ap (λ (x : LentDrives). steps_done (drives_of x) v.result (get_or l.table p no_record) (store_of l.store)) l.invariant.0.5 in (
      same_lent a.store.now l.store v.new.store l.invariant.0 v.ensures.same,
      subst (λ (k : ℕ). PicksLeft d a.commands a.picks.now (store_of a.store.now) a.table.now (store_of v.new.store) v.new.table c.may_go.new.watches (l.steps + k) (chunk_by_rest c.next.new.self)) (sym c.from-steps.ensures)
          (part_taken d a.commands a.picks.now (store_of a.store.now) a.table.now c.may_go.new.watches p (store_of l.store) l.table l.watches l.steps (chunk_by_rest l.alike-iterator) c.in-Some.alike.now (chunk_by_rest c.next.new.self) steps.0 adjacent c.from-place.ensures l.invariant.1 c.may_go.ensures.watching
          (eqb-true _ 0 (sym c.may_go.ensures.free ∙ c.if-may_go.true)) v.result v.ensures.many (store_of v.new.store) moved v.new.table v.ensures.record),
    )

pub loop-alike-preserved : goal.loop-alike-preserved
loop-alike-preserved c = let a = c.args in
    let l = c.loop-alike in
    let d = drives_of a.store.now.drives in
    let p = c.from-place.result in
    let steps = c.in-Some.ensures.steps in
    let callee = ap chunk_by_callee c.into_iter-alike-iterator.ensures.into_iter_gives ∙ c.chunk_by-alike-items.ensures.closure in
    let compares = still_compares _ (together a.commands) _ _ _ l.yielded_by (subst (ComputesOnPairs _ (together a.commands)) (sym callee) (always_returns_same _ _ _ (λ x r g called. search rules))) in
    let adjacent = (steps.2 (together a.commands) compares).1.0 in (
      l.invariant.0,
      part_passed d a.commands a.picks.now (store_of a.store.now) a.table.now c.may_go.new.watches p (store_of l.store) l.table l.watches l.steps (chunk_by_rest l.alike-iterator) c.in-Some.alike.now (chunk_by_rest c.next.new.self) steps.0 adjacent c.from-place.ensures l.invariant.1 c.may_go.ensures.watching
          (λ z. false≢true (sym c.if-may_go.false ∙ c.may_go.ensures.free ∙ eq-eqb (place_number l.table a.commands p) 0 z)),
    )

there : (c : In-None) → c.args.commands ≤ length c.loop-alike.table
there c = let a = c.args in
    let l = c.loop-alike in
    in_table (drives_of a.store.now.drives) a.commands (state_in (store_of l.store) l.table) l.invariant.1.passed

pub slice_bounds-accepted-end : goal.slice_bounds-accepted-end
slice_bounds-accepted-end c = there (goal.at.slice_bounds-accepted-end c).In-None

pub slice_bounds-accepted-end-2 : goal.slice_bounds-accepted-end-2
slice_bounds-accepted-end-2 c = sym (length-take-le c.args.commands c.loop-alike.table (there (goal.at.slice_bounds-accepted-end-2 c).In-None))

pub returns-clause-gives : goal.returns-clause-gives
unfolding all_finished
returns-clause-gives c = let a = c.args in
    let l = c.loop-alike in
    let d = drives_of a.store.now.drives in
    let s = state_in (store_of a.store.now) a.table.now in
    subst (λ (x : Ran). RunGives d a.commands (by_picks d a.commands a.picks.now) s x (state_in (store_of l.store) l.table)) (sym c.accepted.ensures)
    (accepted_gives d a.commands (by_picks d a.commands a.picks.now) s l.steps (length a.picks.now - l.steps) (state_in (store_of l.store) l.table) (sym c.in-Ok.ensures.number)
    (all_picked d a.commands a.picks.now (store_of a.store.now) a.table.now (store_of l.store) l.table l.watches l.steps (chunk_by_rest l.alike-iterator) l.invariant.1 c.in-None.ensures.steps.0) _ refl)
