-- `chain::walk::follow_chain` meets its contract: its loop keeps `Walking`, and that the IOPBs so far all end at or before
-- `past`; each return is one of the laws of `Follow`.
use mathlib.Core.Path.{refl, sym, ap, ◌∙◌}
use lib.Seq.{length-take-le}
use Rattle.chain.specs.Found.{found_of}
use borrow.Author.Rules.{rules}
use native.Mathlib.Omega.{arith}
use Rattle.chain.proofs.Follow.{too_many, not_in_memory, shares_a_byte, next_turn, last_turn}
use Rattle.chain.proofs.Past.{still_end}
use Rattle.chain.proofs.walk.follow_chain.Goals as goal

pub loop-n-init : goal.loop-n-init
loop-n-init c = (record { most = search rules; long = refl; followed = λ d. refl; zeros_left = refl }, tt)

pub returns-then-not-all_in : goal.returns-then-not-all_in
returns-then-not-all_in c d = let a = c.args in
    let l = c.loop-n in
    ap found_of (sym (not_in_memory a.memory.now a.start l.addresses l.n l.at l.invariant.0 d c.loop-n-test.true (sym c.all_in.ensures ∙ c.if-not-all_in.true)))

pub slice_bounds-meets_earlier-end : goal.slice_bounds-meets_earlier-end
slice_bounds-meets_earlier-end c = let l = c.loop-n in
    sym (length-take-le l.n l.addresses (omega (arith, l.invariant.0.most, l.invariant.0.long)))

pub meets_earlier-requires : goal.meets_earlier-requires
meets_earlier-requires c = c.loop-n.invariant.1

pub returns-then-meets_earlier : goal.returns-then-meets_earlier
returns-then-meets_earlier c d = let a = c.args in
    let l = c.loop-n in
    ap found_of (sym (shares_a_byte a.memory.now a.start l.addresses l.n l.at l.invariant.0 d c.loop-n-test.true (sym c.all_in.ensures ∙ c.if-not-all_in.false) (sym c.meets_earlier.ensures ∙ c.if-meets_earlier.true)))

pub returns-then-not-goes_on : goal.returns-then-not-goes_on
returns-then-not-goes_on c d = let a = c.args in
    let l = c.loop-n in
    last_turn a.memory.now a.start l.addresses l.n l.at l.invariant.0 d c.loop-n-test.true
    (sym c.all_in.ensures ∙ c.if-not-all_in.false) (sym c.meets_earlier.ensures ∙ c.if-meets_earlier.false)
    c.copied-c.result c.copied-c.ensures (sym c.goes_on.ensures ∙ c.if-not-goes_on.true)

pub loop-n-preserved : goal.loop-n-preserved
loop-n-preserved c = let a = c.args in
    let l = c.loop-n in
    let walking = next_turn a.memory.now a.start l.addresses l.n l.at l.invariant.0 c.copied-c.result c.copied-c.ensures c.loop-n-test.true
    (sym c.all_in.ensures ∙ c.if-not-all_in.false) (sym c.meets_earlier.ensures ∙ c.if-meets_earlier.false)
    (sym c.goes_on.ensures ∙ c.if-not-goes_on.false) in
    (walking, still_end l.addresses l.n l.at l.past (omega (arith, l.invariant.0.long)) l.invariant.1 c.furthest-past.ensures)

pub returns : goal.returns
returns c d = let a = c.args in
    let l = c.loop-n in
    ap found_of (sym (too_many a.memory.now a.start l.addresses l.n l.at l.invariant.0 d c.loop-n-test.false))
