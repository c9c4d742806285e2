-- `deck::lines::Text::put_commands` meets its contract: after so many turns as many lines stand there, the first ten of five bytes and the
-- others of at most six.
use mathlib.Core.Path.{sym, ap, ◌∙◌}
use Prim.Native.Nat.{ℕ}
use native.Mathlib.Omega.{arith}
use mathlib.Core.List.{List, [], ◌∷◌, ◌++◌}
use lib.ListN.{length, get_or, length-append}
use Rattle.meaning.specs.Lines.{command_lines}
use Rattle.deck.proofs.Numerals.{no_lines, lines_at, lines_room}
use Rattle.deck.proofs.lines.Text.put_commands.Goals as goal

pub loop-place-init : goal.loop-place-init
loop-place-init c = (omega (arith, ap length c.requires.0), c.requires.0 ∙ sym (no_lines 0))

pub loop-place-preserved : goal.loop-place-preserved
loop-place-preserved c =
    let l = c.loop-place in
    let codes = c.args.codes.now in
    let code = get_or codes l.place 0 in
    let line = command_lines l.place (code ∷ []) in (
      omega (
        arith,
        lines_room l.place code (length l.self) (omega (arith, c.requires)) l.invariant.0,
        ap length c.put_command.ensures,
        length-append l.self line,
      ),
      c.put_command.ensures ∙ ap (λ (x : List ℕ). x ++ line) l.invariant.1 ∙ lines_at codes l.place c.loop-place-test.true,
    )
