-- `deck::laid::is_deck` meets its contract: whole records, and each with its fillers right.
use mathlib.Core.Path.{refl, sym, ◌∙◌}
use native.Mathlib.Omega.{arith}
use Rattle.std.proofs.Common.{rules, tests}
use Rattle.std.proofs.lemmas.Iterator.{YieldsList-from_range}
use Rattle.std.proofs.lemmas.Iterator.Search.{all_from_yields_List}
use Rattle.meaning.specs.Deck.{record_count, fillers_right}
use Rattle.deck.proofs.Counting.{all_in_range}
use Rattle.deck.proofs.Laying.{by_fillers, no_records}
use Rattle.deck.proofs.laid.is_deck.Goals as goal

pub returns-then-whole_records : goal.returns-then-whole_records
returns-then-whole_records c =
    let b = c.args.bytes.now in
    let n = record_count b in
    let places = YieldsList-from_range 0 n n refl (omega arith) in
    all_from_yields_List (fillers_right b) _ _ _ c.all.ensures.ran places (λ x r q k. search (rules, tests))
    ∙ all_in_range (fillers_right b) n
    ∙ sym (by_fillers b (sym c.whole_records.ensures ∙ c.if-whole_records.true))

pub returns-else-whole_records : goal.returns-else-whole_records
returns-else-whole_records c =
    c.if-whole_records.false ∙ sym (no_records c.args.bytes.now (sym c.whole_records.ensures ∙ c.if-whole_records.false))
