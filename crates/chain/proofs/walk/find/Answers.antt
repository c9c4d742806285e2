-- `chain::walk::find` meets its contract: past the tests for 1 and 2 the chain is followed.
use mathlib.Core.Path.{sym, ap, ◌∙◌}
use borrow.Author.Tests.{ne_eqb}
use Rattle.meaning.specs.Lends.{images_of}
use Rattle.meaning.specs.Drives.{drives_of}
use Rattle.chain.specs.Found.{found_of}
use Rattle.chain.proofs.Found.{for_chain}
use Rattle.chain.proofs.walk.find.Goals as goal

pub returns : goal.returns
returns c =
    let a = c.args in
    c.follow_chain.ensures (drives_of a.disks.drives) ∙ ap found_of (sym (for_chain (drives_of a.disks.drives) a.start a.records a.memory.now (images_of a.disks) c.if-records-lt-MOST_COMMANDS.false
    (sym c.sizes_wrong.ensures ∙ c.if-sizes_wrong.false) (ne_eqb _ _ c.if-start-eq1.false)))
