-- `board::step::close` meets its contract: the four closing bytes are laid over those of the IOPB.
use mathlib.Core.Path.{ap, ◌∙◌}
use lib.Seq.{sets}
use lib.ListN.{length}
use Rattle.meaning.specs.Step.{closing}
use Rattle.board.proofs.Copying.{laid_is_sets}
use Rattle.board.proofs.step.close.Goals as goal

pub returns : goal.returns
unfolding closing
returns c = let a = c.args in
    let posted = c.copy_from_slice.ensures.after ∙ c.posted.ensures in
    laid_is_sets 4 a.memory.now c.copy_from_slice.new.self a.r.now.iopb (ap length posted) c.requires ∙ ap (sets a.memory.now a.r.now.iopb) posted
