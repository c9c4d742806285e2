-- `deck::run::run_deck` meets its contract: a deck is laid, and its outcome is that of the chain laid.
use mathlib.Core.Path.{refl, sym, ◌∙◌}
use Rattle.meaning.specs.Bench.{outcome_of}
use Rattle.deck.proofs.Laying.{deck_few}
use Rattle.deck.proofs.Outcomes.{no_deck_lem, reports_none, reports_deck}
use Rattle.deck.proofs.run.run_deck.Goals as goal

pub returns-then-not-is_deck : goal.returns-then-not-is_deck
returns-then-not-is_deck c =
    let b = c.args.bytes.now in
    reports_none (outcome_of b) (no_deck_lem b (sym c.is_deck.ensures ∙ c.if-not-is_deck.true))

pub lay-requires : goal.lay-requires
lay-requires c =
    (refl, deck_few c.args.bytes.now (sym c.is_deck.ensures ∙ c.if-not-is_deck.false))

pub returns : goal.returns
returns c =
    let b = c.args.bytes.now in
    let is-deck = sym c.is_deck.ensures ∙ c.if-not-is_deck.false in
    reports_deck b _ _ _ c.run_chain.result is-deck c.lay.ensures c.fill_image.ensures c.bench_drives.ensures c.run_chain.ensures
