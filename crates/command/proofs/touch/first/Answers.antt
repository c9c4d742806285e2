-- `command::touch::first` meets its contract: a list holds 32 ranges and no more.
use Rattle.std.proofs.Common.{sym, rules}
use Rattle.meaning.proofs.Links.{going_start}
use Rattle.command.proofs.touch.first.Goals as goal

pub returns-clause-value : goal.returns-clause-value
returns-clause-value c = let a = c.args in
    sym (going_start a.n a.list.now c.held.result c.held.ensures (search rules)).held
