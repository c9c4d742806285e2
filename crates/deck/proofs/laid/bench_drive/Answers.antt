-- `deck::laid::bench_drive` meets its contract: its mark is what `protects` ensures.
use Rattle.meaning.specs.Deck.{bench_drive}
use Rattle.deck.proofs.laid.bench_drive.Goals as goal

pub returns : goal.returns
unfolding bench_drive
returns c = cc
