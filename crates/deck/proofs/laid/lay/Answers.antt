-- `deck::laid::lay` meets its contract: after k turns the first k records are laid in zeros.
use native.Mathlib.Omega.{arith}
use Rattle.deck.proofs.Laying.{all_laid}
use Rattle.deck.proofs.laid.lay.Goals as goal

pub returns : goal.returns
returns c =
    let a = c.args in
    let l = c.loop-k in
    all_laid a.bytes.now c.fill.new.self l.memory _ l.k (c.fill.ensures.after (λ y e. e)) c.requires.0 (omega arith) l.invariant
