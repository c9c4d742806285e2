-- After k turns of `chain::links::links_at` the list is the first k elements, before elements of zeros.
use mathlib.Core.Path.{◌≡◌}
use Rattle.meaning.specs.Links.{links_at, padded}
use Rattle.chain.proofs.links.links_at.Given as goal

abbrev pub invariant-loop-k : goal.invariant-loop-k
invariant-loop-k l = l.list ≡ padded (links_at l.memory l.at l.k)
