-- `deck::laid::fill_image` meets its contract: after n turns the first n sectors are filled.
use mathlib.Core.Path.{◌≡◌}
use Prim.Native.Nat.{◌*◌}
use mathlib.Core.List.{◌++◌}
use lib.ListN.{drop}
use Rattle.meaning.specs.Sectors.{sector_bytes}
use Rattle.meaning.specs.Deck.{sectors_to}
use Rattle.deck.proofs.laid.fill_image.Given as goal

abbrev pub invariant-loop-n : goal.invariant-loop-n
invariant-loop-n l = l.image ≡ sectors_to l.n ++ drop (sector_bytes * l.n) l.initial.image
