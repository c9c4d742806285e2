-- `deck::lines::Text::put_refused` meets its contract: each refusal has its own line.
use Prim.Native.Nat.{ℕ}
use mathlib.Core.Path.{ap, ◌∙◌}
use mathlib.Core.List.{[], ◌∷◌, ◌++◌}
use native.Mathlib.Omega.{arith}
use lib.ListN.{length}
use Rattle.meaning.specs.Lines.{space, newline, chain_word, decimal}
use Rattle.deck.proofs.Putting.{put_behind}
use Rattle.deck.proofs.Numerals.{decimal_few}
use Rattle.deck.proofs.Outcomes.{none_lines, refused_lines}
use Rattle.deck.proofs.lines.Text.put_refused.Goals as goal

pub put_count-requires : goal.put_count-requires
put_count-requires c =
    let n = c.from-in-NoChain.result in
    omega (arith, ap length c.requires, decimal_few 2 n (omega (arith, c.from-in-NoChain.ensures, c.from.type_inv)))

pub returns-in-NoDeck : goal.returns-in-NoDeck
returns-in-NoDeck c = put_behind _ _ _ _ c.requires c.put_word.ensures ∙ none_lines c.args.refused c.in-NoDeck.is

pub returns-in-NoChain : goal.returns-in-NoChain
returns-in-NoChain c =
    let number = c.from-in-NoChain.ensures ∙ c.from.ensures in
    put_behind _ _ _ _ c.requires c.put_count.ensures
    ∙ ap (λ (n : ℕ). chain_word ++ space ∷ decimal n ++ newline ∷ []) number
    ∙ refused_lines c.args.refused c.in-NoChain.refusal c.in-NoChain.is
