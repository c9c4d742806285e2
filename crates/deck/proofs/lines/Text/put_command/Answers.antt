-- `deck::lines::Text::put_command` meets its contract: its four pieces are those of a line.
use mathlib.Core.Path.{sym, ap, ◌∙◌}
use Prim.Native.Nat.{ℕ}
use native.Mathlib.Omega.{arith}
use mathlib.Core.List.{List, [], ◌∷◌, ◌++◌}
use lib.ListN.{length, length-append}
use Rattle.meaning.specs.Lines.{space, decimal, hex}
use Rattle.deck.proofs.Putting.{put_line}
use Rattle.deck.proofs.Numerals.{decimal_few, line_is}
use Rattle.deck.proofs.lines.Text.put_command.Goals as goal

pub put_decimal-requires : goal.put_decimal-requires
put_decimal-requires c = omega (arith, decimal_few 1 c.args.place c.requires.0)

pub put_byte-requires : goal.put_byte-requires
put_byte-requires c =
    let a = c.args in
    omega (arith, c.requires, decimal_few 1 a.place c.requires.0, ap length c.put_decimal.ensures, length-append a.self.now (decimal a.place))

pub put_hex-requires : goal.put_hex-requires
put_hex-requires c =
    let a = c.args in
    omega (
      arith,
      c.requires,
      decimal_few 1 a.place c.requires.0,
      ap length c.put_decimal.ensures,
      length-append a.self.now (decimal a.place),
      ap length c.put_byte.ensures,
      length-append c.put_decimal.new.self (space ∷ []),
    )

pub put_byte-requires-2 : goal.put_byte-requires-2
put_byte-requires-2 c =
    let a = c.args in
    omega (
      arith,
      c.requires,
      decimal_few 1 a.place c.requires.0,
      ap length c.put_decimal.ensures,
      length-append a.self.now (decimal a.place),
      ap length c.put_byte.ensures,
      length-append c.put_decimal.new.self (space ∷ []),
      ap length c.put_hex.ensures,
      length-append c.put_byte.new.self (hex a.code),
    )

pub returns : goal.returns
returns c =
    let a = c.args in
    put_line a.self.now (decimal a.place) (hex a.code) _ _ _ _ c.put_decimal.ensures c.put_byte.ensures c.put_hex.ensures c.put_byte-2.ensures
    ∙ ap (λ (x : List ℕ). a.self.now ++ x) (sym (line_is a.place a.code))
