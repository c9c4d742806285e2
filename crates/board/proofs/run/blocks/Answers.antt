-- `board::run::blocks` meets its contract: by the steps taken, by both footprints, and where these meet by the ranges of both.
use mathlib.Core.Path.{refl, sym, ◌∙◌}
use mathlib.Core.Bool.{true≢false}
use borrow.Author.Tests.{le-ltb}
use Rattle.board.proofs.Searching.{done_free, apart_free, by_ranges}
use Rattle.board.proofs.run.blocks.Goals as goal
use Rattle.board.proofs.run.blocks.Goals.{then-earlier-touched, else-earlier-touched}

pub returns-then-footprints_meet : goal.returns-then-footprints_meet
returns-then-footprints_meet c = let a = c.args in
    elim c.if-earlier-touched.branch [
      | then-earlier-touched w ↦ c.ranges_conflict.ensures ∙ sym (by_ranges a.touched a.wanted a.earlier.now a.later.now c.requires.0 c.requires.1 _ w.if-earlier-touched.true refl)
      | else-earlier-touched w ↦ absurd (true≢false (sym c.if-footprints_meet.true ∙ w.value-is ∙ le-ltb a.earlier.now.taken a.touched.steps w.if-earlier-touched.false))
    ]

pub returns-else-footprints_meet : goal.returns-else-footprints_meet
returns-else-footprints_meet c = let a = c.args in
    elim c.if-earlier-touched.branch [
      | then-earlier-touched w ↦ c.if-footprints_meet.false ∙ sym (apart_free a.touched a.wanted a.earlier.now a.later.now c.requires.0 c.requires.1 w.if-earlier-touched.true (sym w.footprints_meet.ensures ∙ sym w.value-is ∙ c.if-footprints_meet.false))
      | else-earlier-touched w ↦ c.if-footprints_meet.false ∙ sym (done_free a.touched a.wanted a.earlier.now a.later.now c.requires.0 c.requires.1 w.if-earlier-touched.false)
    ]
