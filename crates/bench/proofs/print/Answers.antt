-- `bench::print` is safe and ends: what `print_deck` counts lies within its run.
use Rattle.deck.proofs.Outcomes.{print_counts}
use Rattle.bench.proofs.print.Goals as goal

pub slice_bounds-text-end : goal.slice_bounds-text-end
slice_bounds-text-end c = (print_counts _ _ _ _ c.print_deck-length.ensures).0

pub slice_bounds-write_all-end : goal.slice_bounds-write_all-end
slice_bounds-write_all-end c = (print_counts _ _ _ _ c.print_deck-length.ensures).1
