-- `deck::lines::Text::put_decimal` ends: the number before the last digit is a tenth, which is less.
use Rattle.deck.proofs.lines.Text.+put_decimal.Given as goal

abbrev pub decreases-put_decimal : goal.decreases-put_decimal
decreases-put_decimal l = l.n
