-- What a command moves, by its code and the command in its copied byte 0.
use Rattle.std.specs.Prelude.{cond}
use Rattle.meaning.specs.declared.Record.{Record}
use Rattle.meaning.specs.Command.{reads, writes}
use Rattle.command.specs.declared.Kind.{Kind}
use Rattle.command.specs.declared.Kind.TheVariants.{Reads, Writes, MovesNothing}

abbrev pub kind_of : Record → Kind
kind_of r = cond (reads r) Reads (cond (writes r) Writes MovesNothing)
