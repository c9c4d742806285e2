-- What a pick by what was seen tells of its result fixes the result: an accepted one tells the steps taken, and a refused one has a number of
-- its own.
use mathlib.Core.Path.{◌≡◌, sym, ap, ◌∙◌}
use Prim.Native.Nat.{ℕ}
use Rattle.std.specs.Prelude.{Result, Ok, Err}
use Rattle.meaning.specs.declared.refusals.Refusal.{Refusal}
use Rattle.meaning.proofs.Told.{number_not_0, by_number}
use Rattle.board.specs.Seen.{PickedTaken, picked_taken, PickSees}
use Rattle.board.specs.OneReply.{EachHasOneReply}

picked_once : (a b : Result ℕ Refusal) → picked_taken a ≡ picked_taken b → a ≡ b
picked_once (Ok n) (Ok m) e = ap (λ (x : PickedTaken). Ok x.taken) e
picked_once (Ok n) (Err s) e = absurd (number_not_0 s (sym (ap (λ (x : PickedTaken). x.number) e)))
picked_once (Err r) (Ok m) e = absurd (number_not_0 r (ap (λ (x : PickedTaken). x.number) e))
picked_once (Err r) (Err s) e = ap Err (by_number r s (ap (λ (x : PickedTaken). x.number) e))

pub each_has_one_reply : EachHasOneReply
unfolding PickSees
each_has_one_reply = record { pick_seen = λ d n p r seen s x y e e' j. (picked_once x.0 y.0 (e.0 ∙ sym e'.0) j, (e.1 ∙ sym e'.1) j) }
