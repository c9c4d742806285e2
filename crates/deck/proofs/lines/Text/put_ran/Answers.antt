-- `deck::lines::Text::put_ran` meets its contract: the lines of the commands, and the one with the steps.
use mathlib.Core.Path.{◌∙◌}
use native.Mathlib.Omega.{arith}
use Rattle.deck.proofs.Putting.{put_behind}
use Rattle.deck.proofs.Numerals.{decimal_few}
use Rattle.deck.proofs.Outcomes.{run_lines}
use Rattle.deck.proofs.lines.Text.put_ran.Goals as goal

pub put_count-requires : goal.put_count-requires
put_count-requires c = omega (arith, c.put_commands.ensures.upper_bound, decimal_few 3 c.args.ran.now.steps (omega (arith, c.requires)))

pub returns : goal.returns
returns c = put_behind _ _ _ _ c.put_commands.ensures.put c.put_count.ensures ∙ run_lines c.args.ran.now
