-- `deck::laid::lay` meets its contract: after k turns the first k records are laid in zeros.
use mathlib.Core.Path.{◌≡◌}
use mathlib.Core.List.{foldl}
use Rattle.meaning.specs.Each.{up_to}
use Rattle.meaning.specs.Deck.{lay_record}
use Rattle.deck.proofs.laid.lay.Given as goal

abbrev pub invariant-loop-k : goal.invariant-loop-k
invariant-loop-k l = l.memory ≡ foldl (lay_record l.bytes) l.initial.memory (up_to l.k)
