-- `deck::lines::Text::put_count` meets its contract: its four pieces are those of a line.
use Rattle.meaning.specs.Lines.{decimal}
use Rattle.deck.proofs.Putting.{put_line}
use Rattle.deck.proofs.lines.Text.put_count.Goals as goal

pub returns : goal.returns
returns c = put_line c.args.self.now c.args.word.now (decimal c.args.n) _ _ _ _ c.put_word.ensures c.put_byte.ensures c.put_decimal.ensures c.put_byte-2.ensures
