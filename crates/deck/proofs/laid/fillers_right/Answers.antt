-- `deck::laid::fillers_right` meets its contract: the first test decides, and where it passes the second does.
use mathlib.Core.Path.{sym, ap, ◌∙◌}
use borrow.Author.Tests.{eq-eqb, ne_eqb}
use Rattle.std.specs.Prelude.{◌≡◌, cond, eqb, leb}
use Rattle.std.proofs.Common.{rules, tests}
use Rattle.std.proofs.lemmas.Bool.{and_left}
use Rattle.meaning.specs.Deck.{byte_in, fillers_right}
use Rattle.meaning.proofs.Rows.{and_second}
use Rattle.deck.proofs.laid.fillers_right.Goals as goal

pub returns-then-bytes-k-eq0 : goal.returns-then-bytes-k-eq0
unfolding fillers_right
returns-then-bytes-k-eq0 c =
    let a = c.args in
    let most : c.from.result ≡ cond (eqb a.k 0) 1 0 = search (rules, tests) in
    ap (leb (byte_in a.bytes.now a.k 31)) most ∙ sym (and_second _ _ (eq-eqb _ _ c.if-bytes-k-eq0.true))

pub returns-else-bytes-k-eq0 : goal.returns-else-bytes-k-eq0
unfolding fillers_right
returns-else-bytes-k-eq0 c = let wrong = ne_eqb _ _ c.if-bytes-k-eq0.false in wrong ∙ sym (and_left _ _ wrong)
