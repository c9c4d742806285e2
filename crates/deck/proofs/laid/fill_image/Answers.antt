-- `deck::laid::fill_image` meets its contract: after n turns the first n sectors are filled.
use mathlib.Core.Path.{refl}
use native.Mathlib.Omega.{arith}
use Rattle.meaning.specs.Deck.{sectors_to}
use Rattle.deck.proofs.Laying.{fills_more, whole_image}
use Rattle.deck.proofs.laid.fill_image.Goals as goal

pub loop-n-init : goal.loop-n-init
unfolding sectors_to
loop-n-init c = refl

pub loop-n-preserved : goal.loop-n-preserved
loop-n-preserved c =
    let l = c.loop-n in
    let filled = c.fill.ensures.after (λ y e. e) in
    fills_more c.args.image.now l.image _ l.n _ (omega (arith, c.from-at.ensures)) (omega arith) l.invariant filled

pub returns : goal.returns
returns c =
    let l = c.loop-n in
    whole_image c.args.image.now l.image l.n (omega arith) (omega (arith, c.requires)) l.invariant
