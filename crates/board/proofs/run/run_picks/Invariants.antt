-- `board::run::run_picks` meets its contract: its loop keeps `PicksLeft`, on what is lent.
use Rattle.std.specs.Slice.Iter.{chunk_by_rest}
use Rattle.meaning.specs.Lends.{store_of, SameLent}
use Rattle.meaning.specs.Drives.{drives_of}
use Rattle.board.proofs.ByPicks.{PicksLeft}
use Rattle.board.proofs.run.run_picks.Given as goal

abbrev pub invariant-loop-alike : goal.invariant-loop-alike
invariant-loop-alike l =
    SameLent l.initial.store l.store
    × PicksLeft (drives_of l.initial.store.drives) l.fn.commands l.picks (store_of l.initial.store) l.initial.table (store_of l.store) l.table l.watches l.steps (chunk_by_rest l.alike-iterator)
