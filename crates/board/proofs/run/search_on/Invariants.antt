-- `board::run::search_on` meets its contract: no command that its loop has passed blocks the one at the place.
use mathlib.Core.Path.{◌≡◌}
use mathlib.Core.Bool.{false}
use lib.ListN.{get_or, take}
use Rattle.meaning.specs.Each.{some_of}
use Rattle.meaning.specs.Command.{no_record}
use Rattle.board.specs.Sight.{blocking}
use Rattle.board.proofs.run.search_on.Given as goal

abbrev pub invariant-loop-earlier : goal.invariant-loop-earlier
invariant-loop-earlier l =
    some_of (blocking (get_or l.table l.place no_record)) (take l.earlier l.table) ≡ false
