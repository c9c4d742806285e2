-- `board::run::may_go` meets its contract: the rows of a place, one after another, and the search for the last of them.
use mathlib.Core.Path.{sym, ap, ◌∙◌}
use Prim.Native.Nat.{ℕ}
use native.Mathlib.Omega.{arith}
use lib.Dec.{eqb}
use Rattle.board.proofs.Picking.{no_place, is_finished}
use Rattle.board.proofs.ByPicks.{search_decides}
use Rattle.board.proofs.run.may_go.Goals as goal
use Rattle.board.proofs.run.may_go.Goals.{then-commands-place-via-then-commands-place, then-commands-place-via-else-commands-place+then-finished}

pub returns-then-commands-place-clause-free : goal.returns-then-commands-place-clause-free
returns-then-commands-place-clause-free c = let a = c.args in
    elim c.then-commands-place.branch [
      | then-commands-place-via-then-commands-place w ↦ ap (λ (k : ℕ). eqb k 0) (sym (no_place a.table.now a.commands a.place w.if-commands-place.true))
      | then-commands-place-via-else-commands-place+then-finished w ↦ ap (λ (k : ℕ). eqb k 0) (sym (is_finished a.table.now a.commands a.place (omega (arith, w.if-commands-place.false)) (sym w.finished.ensures ∙ w.if-finished.true)))
    ]

pub returns-clause-free : goal.returns-clause-free
returns-clause-free c = let a = c.args in
    let e = c.search_on-searched.ensures in
    search_decides a.table.now a.commands a.place c.search_on-searched.result c.if-commands-place.false (omega (arith, c.requires.0, c.requires.1, c.if-commands-place.false)) (sym c.finished.ensures ∙ c.if-finished.false) e.far e.passed e.stopped
