-- `drive::place_in` meets its contract: each test decides a row of the numbers, and what passes both is what `place_within` asks.
use mathlib.Core.Path.{sym, ap, ◌∙◌}
use Prim.Native.Nat.{ℕ}
use lib.Dec.{ltb}
use Rattle.meaning.specs.Place.{placed}
use Rattle.meaning.proofs.Numbering.{below_count}
use Rattle.drive.proofs.place_in.Goals as goal

pub returns-then-not-maxima_right : goal.returns-then-not-maxima_right
unfolding placed
returns-then-not-maxima_right c = simp (← c.maxima_right.ensures, c.if-not-maxima_right.true)

pub returns-then-above : goal.returns-then-above
unfolding placed
returns-then-above c =
    simp (← c.maxima_right.ensures, c.if-not-maxima_right.false, ← c.largest.ensures, ← c.above.ensures, c.if-above.true)

pub place_within-requires : goal.place_within-requires
place_within-requires c =
    let a = c.args in
    let inside = ap (λ (n : ℕ). ltb n a.sector) (sym c.largest.ensures) ∙ sym c.above.ensures ∙ c.if-above.false in
    (sym c.maxima_right.ensures ∙ c.if-not-maxima_right.false, below_count a.d a.sector inside)

pub returns : goal.returns
unfolding placed
returns c =
    simp
    (← c.maxima_right.ensures, c.if-not-maxima_right.false, ← c.largest.ensures, ← c.above.ensures, c.if-above.false, c.place_within.ensures)
