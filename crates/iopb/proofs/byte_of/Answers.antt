-- `iopb::byte_of` meets its contract: the test says which case of the definition holds.
use Rattle.meaning.specs.Fields.{byte_of}
use Rattle.iopb.proofs.byte_of.Goals as goal

pub returns-then-all_in : goal.returns-then-all_in
unfolding byte_of
returns-then-all_in c = simp (← c.all_in.ensures, c.if-all_in.true)

pub returns-else-all_in : goal.returns-else-all_in
unfolding byte_of
returns-else-all_in c = simp (← c.all_in.ensures, c.if-all_in.false)
