-- `board::run::opening` meets its contract: its loop watches one command more, and passes no bad one.
use mathlib.Core.Path.{◌≡◌}
use mathlib.Core.Bool.{false}
use lib.ListN.{length, take}
use Rattle.meaning.specs.Drives.{drives_of}
use Rattle.meaning.specs.Each.{some_of}
use Rattle.command.specs.Data.{bad_in}
use Rattle.board.specs.Watching.{Watching}
use Rattle.board.proofs.run.opening.Given as goal

abbrev pub invariant-loop-place : goal.invariant-loop-place
invariant-loop-place l =
    Watching l.place l.table l.watches × (some_of (bad_in (length l.store.memory.now) (drives_of l.store.drives)) (take l.place l.table) ≡ false)
