-- `deck::laid::lay_record` meets its contract: thirty bytes copied to a part as long are `sets`.
use Prim.Native.Nat.{◌*◌}
use native.Mathlib.Omega.{arith}
use Rattle.meaning.specs.Deck.{lay_record}
use Rattle.board.proofs.Copying.{copied_is_sets}
use Rattle.deck.proofs.laid.lay_record.Goals as goal

pub returns : goal.returns
unfolding lay_record
returns c =
    let a = c.args in
    copied_is_sets 30 a.bytes.now a.memory.now (32 * a.k) (32 * a.k) (omega arith) (omega arith) _ c.copy_from_slice.ensures.after
