-- `deck::run::codes_of` meets its contract: after so many turns the codes of as many commands stand in front of zeros.
use native.Mathlib.Omega.{arith}
use Prim.Native.Nat.{◌≤◌}
use lib.ListN.{length, take, length-take}
use Rattle.deck.proofs.Running.{codes_more}
use Rattle.deck.proofs.run.codes_of.Goals as goal

pub loop-place-preserved : goal.loop-place-preserved
loop-place-preserved c =
    let a = c.args in
    let l = c.loop-place in
    let few : length (take a.commands a.table.now) ≤ 32 = omega (arith, c.requires, length-take a.commands a.table.now) in
    codes_more (take a.commands a.table.now) _ l.codes l.place c.loop-place-test.true few l.invariant
