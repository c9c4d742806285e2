-- `board::step::move_part` meets its contract: the direction decides which part is copied where.
use Rattle.board.proofs.Copying.{copied_is_sets}
use Rattle.board.proofs.Windows.{part_read, part_written}
use Rattle.board.proofs.step.move_part.Goals as goal

pub returns-then-reads : goal.returns-then-reads
returns-then-reads c u s = let a = c.args in
    let k = c.requires in
    part_read u a.memory.now a.image.now s a.at a.disk a.size a.reads c.if-reads.true _ (copied_is_sets a.size a.image.now a.memory.now a.disk a.at k.1 k.0 _ c.copy_from_slice.ensures.after)

pub returns-else-reads : goal.returns-else-reads
returns-else-reads c u s = let a = c.args in
    let k = c.requires in
    part_written u a.memory.now a.image.now s a.at a.disk a.size a.reads c.if-reads.false _ (copied_is_sets a.size a.memory.now a.image.now a.at a.disk k.0 k.1 _ c.copy_from_slice-else-reads.ensures.after)
