-- `board::run::chain_steps` meets its contract: the library's sum is `sum_of`, and a table has no more in use than it has records.
use mathlib.Core.Path.{◌≡◌, sym, ap, ◌∙◌}
use Prim.Native.Nat.{ℕ, ◌≤◌, min}
use native.Mathlib.Omega.{arith}
use mathlib.Core.Bool.{Bool}
use lib.ListN.{length, take}
use lib.Seq.{take_all}
use Rattle.meaning.specs.Each.{sum_of}
use Rattle.meaning.specs.Command.{steps_of}
use Rattle.meaning.proofs.Means.{Means, holds, fails, means_le}
use Rattle.meaning.specs.Run.{chain_steps}
use Rattle.meaning.proofs.Loops.{sum_is}
use Rattle.board.proofs.run.chain_steps.Goals as goal

pub returns : goal.returns
unfolding chain_steps
returns c = let a = c.args in
    let t = a.table.now in
    c.steps_of_all.ensures ∙ sum_is steps_of (take c.min-last.result t) ∙ ap (sum_of steps_of) (in_use (means_le (min a.commands 32) (length t)))
  where
    in_use : {b : Bool} → Means (min c.args.commands 32 ≤ length c.args.table.now) b → take c.min-last.result c.args.table.now ≡ take (min c.args.commands 32) c.args.table.now
    in_use (holds h) = let e : c.min-last.result ≡ min c.args.commands 32 = omega arith in ap (λ (k : ℕ). take k c.args.table.now) e
    in_use (fails h) = take_all c.min-last.result c.args.table.now (omega arith) ∙ sym (take_all (min c.args.commands 32) c.args.table.now (omega arith))
