-- `board::table::advance` meets its contract: a command has fewer steps than its count can tell.
use mathlib.Core.Path.{sym}
use native.Mathlib.Omega.{arith}
use Rattle.meaning.specs.Command.{remaining}
use Rattle.meaning.specs.Step.{with_taken}
use Rattle.board.proofs.Moving.{steps_small}
use Rattle.board.proofs.Taken.{steps_with}
use Rattle.board.proofs.table.advance.Goals as goal

pub overflow_add-r : goal.overflow_add-r
unfolding remaining
overflow_add-r c = omega (arith, c.requires, steps_small c.args.r.now (omega arith))

pub returns : goal.returns
unfolding with_taken
returns c = sym (steps_with c.args.n c.args.r.now)
