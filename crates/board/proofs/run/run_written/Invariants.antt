-- `board::run::run_written` meets its contract: its loop keeps `WrittenLeft`, on what is lent.
use Rattle.meaning.specs.Lends.{store_of, SameLent}
use Rattle.meaning.specs.Drives.{drives_of}
use Rattle.board.proofs.Written.{WrittenLeft}
use Rattle.board.proofs.run.run_written.Given as goal

abbrev pub invariant-loop-at : goal.invariant-loop-at
invariant-loop-at l =
    SameLent l.initial.store l.store
    × WrittenLeft (drives_of l.initial.store.drives) l.commands l.budget (store_of l.initial.store) l.initial.table (store_of l.store) l.table l.left l.at
