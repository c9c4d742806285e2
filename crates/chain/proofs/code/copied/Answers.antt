-- `chain::code::copied` meets its contract: the fields of the thirty bytes alone are those at their address in memory.
use mathlib.Core.Path.{◌∙◌}
use Rattle.chain.proofs.Alone.{copied_alone}
use Rattle.chain.proofs.code.copied.Goals as goal

pub returns : goal.returns
returns c = let a = c.args in
    c.fields_of-2.ensures ∙ copied_alone a.memory.now a.at c.if-memory-to.false
