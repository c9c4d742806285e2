-- `deck::lines::Text::put_commands` meets its contract: after so many turns as many lines stand there, the first ten of five bytes and the
-- others of at most six.
use mathlib.Core.Path.{◌≡◌}
use Prim.Native.Nat.{◌*◌, ◌≤◌, ◌-◌, min}
use lib.ListN.{length, take}
use Rattle.meaning.specs.Lines.{command_lines}
use Rattle.deck.proofs.lines.Text.put_commands.Given as goal

abbrev pub invariant-loop-place : goal.invariant-loop-place
invariant-loop-place l = (length l.self ≤ 6 * l.place - min l.place 10) × (l.self ≡ command_lines 0 (take l.place l.codes))
