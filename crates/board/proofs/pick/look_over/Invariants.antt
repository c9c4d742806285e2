-- `board::pick::look_over` meets its contract: no record so far is bad, and it is known whether one of them blocks.
use Rattle.meaning.specs.Drives.{drives_of}
use Rattle.board.proofs.Sighting.{Seen}
use Rattle.board.proofs.pick.look_over.Given as goal

abbrev pub invariant-loop-k : goal.invariant-loop-k
invariant-loop-k l = Seen l.memory (drives_of l.fn.drives) l.wanted l.place l.r-items l.k l.waits
