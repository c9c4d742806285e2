-- No second reply could meet the contract of a pick by what was seen, whose reply is a result: what the result tells fixes it (Contract 2).
use Rattle.std.specs.Prelude.{ℕ, Result}
use Rattle.meaning.specs.declared.refusals.Refusal.{Refusal}
use Rattle.meaning.specs.declared.Record.{Record}
use Rattle.meaning.specs.OneReply.{OneTold}
use Rattle.meaning.specs.Drives.{Drives}
use Rattle.meaning.specs.Store.{Store}
use Rattle.board.specs.declared.pick.Sight.{Sight}
use Rattle.board.specs.Seen.{PickSees, picked_taken}

pub record EachHasOneReply : Type 0 where
  -- the steps taken, or the refusal; and memory with all four images
  pub pick_seen : (d : Drives) (n p : ℕ) (r : Record) (seen : Sight) (s : Store) → OneTold (λ x. x) (λ (x : Result ℕ Refusal × Store). PickSees d n p r seen s (picked_taken x.0) x.1)
