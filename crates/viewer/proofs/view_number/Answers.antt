-- Each test decides a row of the making's numbers.
use Rattle.std.proofs.lemmas.Bool.{eq-eqb, ne_eqb}
use Rattle.meaning.specs.View.{made_number}
use Rattle.viewer.proofs.view_number.Goals as goal

pub returns-then-at-eq1 : goal.returns-then-at-eq1
unfolding made_number
returns-then-at-eq1 c = simp (eq-eqb _ _ c.if-at-eq1.true)

pub returns-then-not-all_in : goal.returns-then-not-all_in
unfolding made_number
returns-then-not-all_in c = simp (ne_eqb _ _ c.if-at-eq1.false, ← c.all_in.ensures, c.if-not-all_in.true)

pub returns : goal.returns
unfolding made_number
returns c = simp (ne_eqb _ _ c.if-at-eq1.false, ← c.all_in.ensures, c.if-not-all_in.false)
