-- `deck::lines::Text::put_decimal` meets its contract: the digits before the last are those of a tenth, which is less.
use mathlib.Core.Path.{sym, ap, ◌∙◌}
use Prim.Native.Nat.{ℕ, ◌/◌, ◌%◌}
use native.Mathlib.Omega.{arith}
use mathlib.Core.List.{List, [], ◌∷◌, ◌++◌, append_assoc}
use lib.ListN.{length, length-append}
use Rattle.meaning.specs.Lines.{digit, decimal}
use Rattle.deck.proofs.Numerals.{decimal_one, decimal_more}
use Rattle.deck.proofs.lines.Text.+put_decimal.Goals as goal

pub put_byte-requires : goal.put_byte-requires
put_byte-requires t c = omega (arith, c.requires, ap length (decimal_one c.args.n c.if-n-lt10.true))

pub returns-then-n-lt10 : goal.returns-then-n-lt10
returns-then-n-lt10 t c =
    let a = c.args in
    c.put_byte.ensures ∙ ap (λ (x : List ℕ). a.self.now ++ x) (ap (λ (x : ℕ). x ∷ []) c.digit.ensures ∙ sym (decimal_one a.n c.if-n-lt10.true))

pub put_decimal-requires : goal.put_decimal-requires
put_decimal-requires t c =
    let a = c.args in
    let more = decimal_more a.n c.if-n-lt10.false c.ranges.n.fits in (
      omega (arith, c.decreases, c.if-n-lt10.false),
      omega (arith, c.requires, ap length more, length-append (decimal (a.n / 10)) (digit (a.n % 10) ∷ [])),
    )

pub put_byte-requires-2 : goal.put_byte-requires-2
put_byte-requires-2 t c =
    let a = c.args in
    let more = decimal_more a.n c.if-n-lt10.false c.ranges.n.fits in
    omega (
      arith,
      c.requires,
      ap length c.put_decimal.ensures,
      length-append a.self.now (decimal (a.n / 10)),
      ap length more,
      length-append (decimal (a.n / 10)) (digit (a.n % 10) ∷ []),
    )

pub returns : goal.returns
returns t c =
    let a = c.args in
    let last = ap (λ (x : ℕ). x ∷ []) c.digit-2.ensures in
    c.put_byte-2.ensures
    ∙ ap (λ (x : List ℕ). x ++ c.digit-2.result ∷ []) c.put_decimal.ensures
    ∙ append_assoc a.self.now (decimal (a.n / 10)) (c.digit-2.result ∷ [])
    ∙ ap (λ (x : List ℕ). a.self.now ++ (decimal (a.n / 10) ++ x)) last
    ∙ ap (λ (x : List ℕ). a.self.now ++ x) (sym (decimal_more a.n c.if-n-lt10.false c.ranges.n.fits))
