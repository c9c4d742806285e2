-- `board::pick::pick` meets its contract: the numbers 1 and 9 one after another, and past them what is seen of the table gives the whole of
-- the pick.
use mathlib.Core.Path.{◌≡◌, refl, ap, sym, ◌∙◌}
use Prim.Native.Nat.{ℕ, ◌≤◌, min}
use native.Mathlib.Omega.{arith}
use mathlib.Core.Bool.{false}
use mathlib.Core.List.{List}
use lib.ListN.{length, get_or, set}
use Rattle.std.proofs.lemmas.Result.{err_from_is_err_and}
use Rattle.meaning.specs.declared.Record.{Record}
use Rattle.meaning.specs.Store.{Store, memory}
use Rattle.meaning.specs.Drives.{Drives, drives_of}
use Rattle.meaning.specs.State.{most_commands, state_in}
use Rattle.meaning.specs.Lends.{store_of}
use Rattle.meaning.specs.Sizes.{sizes_wrong}
use Rattle.meaning.specs.Command.{no_record}
use Rattle.meaning.proofs.Told.{number_not_0}
use Rattle.meaning.proofs.Numbers.{sizes_long}
use Rattle.board.specs.declared.pick.Sight.{Sight}
use Rattle.board.specs.Seen.{sight_of, Unspoiled}
use Rattle.board.proofs.Picking.{wrong_sizes, too_many, look_refuses, look_accepts, look_unspoiled, refused_gives}
use Rattle.board.proofs.Seen.{seen_small, laid_there, left_alone}
use Rattle.board.proofs.pick.pick.Goals as goal
use Rattle.board.proofs.pick.pick.Goals.{Else-wrong_size, After-place_seen-at, In_ok-blocked}

right : (c : Else-wrong_size) → sizes_wrong (drives_of c.args.store.now.drives) (state_in (store_of c.args.store.now) c.args.table.now) ≡ false
right c = sym c.wrong_size.ensures.value ∙ c.if-wrong_size.false

pub returns-then-wrong_size-clause-gives : goal.returns-then-wrong_size-clause-gives
returns-then-wrong_size-clause-gives c =
    let a = c.args in
    let d = drives_of a.store.now.drives in
    let s = store_of a.store.now in
    refused_gives d a.commands a.place s a.table.now 1 (wrong_sizes d a.commands a.place s a.table.now (sym c.wrong_size.ensures.value ∙ c.if-wrong_size.true)) (λ e. omega arith)

pub returns-then-commands-gt-RECORDS-clause-gives : goal.returns-then-commands-gt-RECORDS-clause-gives
returns-then-commands-gt-RECORDS-clause-gives c =
    let a = c.args in
    let d = drives_of a.store.now.drives in
    let s = store_of a.store.now in
    refused_gives d a.commands a.place s a.table.now 9 (too_many d a.commands a.place s a.table.now (right (goal.at.returns-then-commands-gt-RECORDS-clause-gives c).Else-wrong_size) c.if-commands-gt-RECORDS.true) (λ e. omega arith)

pub look_over-requires : goal.look_over-requires
look_over-requires c =
    let long = c.wrong_size.ensures.long c.if-wrong_size.false in
    let small = seen_small c.args.place c.place_seen-at.result c.place_seen-at.ensures in
    (omega (arith, long, c.if-commands-gt-RECORDS.false), omega (arith, long, small))

pub returns-in_err-blocked-clause-gives : goal.returns-in_err-blocked-clause-gives
returns-in_err-blocked-clause-gives c =
    let a = c.args in
    let d = drives_of a.store.now.drives in
    let s = store_of a.store.now in
    let q = err_from_is_err_and c.from_residual.result c.from_residual.ensures.1 in
    let e = c.in_err-blocked.field-0.0 in
    rw (q.1, q.2) (refused_gives d a.commands a.place s a.table.now _ (look_refuses d a.commands a.place s a.table.now (right (goal.at.returns-in_err-blocked-clause-gives c).Else-wrong_size) c.if-commands-gt-RECORDS.false c.place_seen-at.result c.place_seen-at.ensures e (sym c.look_over.ensures ∙ c.in_err-blocked.was)) (number_not_0 e))

-- past the look over the table
module _ (w : In_ok-blocked) where
  abbrev d : Drives
  d = drives_of w.args.store.now.drives

  abbrev s : Store
  s = store_of w.args.store.now

  abbrev t : List Record
  t = w.args.table.now

  abbrev n : ℕ
  n = w.args.commands

  abbrev p : ℕ
  p = w.args.place

  abbrev at : ℕ
  at = w.place_seen-at.result

  abbrev seen : Sight
  seen = record { bad = false; blocked = w.in_ok-blocked.blocked }

  sizes : sizes_wrong d (state_in s t) ≡ false
  sizes = sym w.wrong_size.ensures.value ∙ w.if-wrong_size.false

  long : most_commands ≤ length t
  long = sizes_long d (state_in s t) sizes

  used : n ≡ min n most_commands
  used = omega (arith, w.if-commands-gt-RECORDS.false)

  sees : seen ≡ sight_of (length (s memory)) d n at t
  sees = look_accepts d n p s t sizes w.if-commands-gt-RECORDS.false at w.place_seen-at.ensures w.in_ok-blocked.blocked (sym w.look_over.ensures ∙ w.in_ok-blocked.was)

  unspoiled : Unspoiled d n p (get_or t at no_record) seen s
  unspoiled = look_unspoiled d n p s t sizes w.if-commands-gt-RECORDS.false at w.place_seen-at.ensures w.in_ok-blocked.blocked (sym w.look_over.ensures ∙ w.in_ok-blocked.was)

pub step_seen-requires : goal.step_seen-requires
step_seen-requires c = unspoiled (goal.at.step_seen-requires c).In_ok-blocked

pub returns-in_err-taken-clause-gives : goal.returns-in_err-taken-clause-gives
returns-in_err-taken-clause-gives c =
    let w = (goal.at.returns-in_err-taken-clause-gives c).In_ok-blocked in
    let q = err_from_is_err_and c.from_residual-in_err-taken.result c.from_residual-in_err-taken.ensures.1 in
    let e = c.in_err-taken.field-0.0 in
    rw (q.1, q.2) (left_alone (d w) (n w) (p w) (s w) (t w) (long w) (at w) (n w) (seen w) c.place_seen-at.ensures (used w) (sees w) _ _ c.in_err-taken.ensures.sees (number_not_0 e))

pub returns-clause-gives : goal.returns-clause-gives
returns-clause-gives c =
    let w = (goal.at.returns-clause-gives c).In_ok-blocked in
    laid_there (d w) (n w) (p w) (s w) (t w) (long w) (at w) (n w) (seen w) c.place_seen-at.ensures (used w) (sees w) _ _ c.in_ok-taken.ensures.sees _ (ap (set (t w) (at w)) c.with_taken.ensures) refl
