-- No second reply could meet the contract of a function of this crate whose reply is a result: what the result tells fixes it (Contract 2).
use Rattle.std.specs.Prelude.{ℕ, ◌≡◌, List, Result}
use Rattle.meaning.specs.declared.refusals.Refusal.{Refusal}
use Rattle.meaning.specs.declared.Record.{Record}
use Rattle.meaning.specs.OneReply.{OneTold}
use Rattle.meaning.specs.Drives.{Drives}
use Rattle.meaning.specs.State.{State}
use Rattle.meaning.specs.Walk.{Chain, WalkGives}
use Rattle.chain.specs.declared.walk.Found.{Found}
use Rattle.chain.specs.Found.{walked_of, finding_of, found_of}

pub record EachHasOneReply : Type 0 where
  -- how many commands and where they are, or the refusal
  pub find : (c : Chain) → OneTold (λ r. r) (λ (r : Result Found Refusal). finding_of r ≡ found_of c)
  -- how many commands, or the refusal; and the table
  pub walk_into : (d : Drives) (start : ℕ) (s : State) → OneTold (λ x. x) (λ (x : Result ℕ Refusal × List Record). WalkGives d start s (walked_of x.0) x.1)
