-- `chain::sizes::sizes_wrong` meets its contract: where memory is right, the images decide.
use borrow.Author.Tests.{le-ltb}
use Rattle.meaning.specs.Sizes.{store_wrong}
use Rattle.chain.proofs.sizes.sizes_wrong.Goals as goal

pub returns-else-memory-gt-MEMORY_LIMIT : goal.returns-else-memory-gt-MEMORY_LIMIT
unfolding store_wrong
returns-else-memory-gt-MEMORY_LIMIT c = simp (le-ltb _ _ c.if-memory-gt-MEMORY_LIMIT.false, c.images_wrong.ensures c.args.memory.now)
