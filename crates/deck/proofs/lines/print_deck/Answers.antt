-- `deck::lines::print_deck` meets its contract: the lines are those of the deck's outcome.
use mathlib.Core.Path.{◌≡◌, sym, ap, ◌∙◌}
use Rattle.std.specs.Prelude.{Ok}
use Rattle.meaning.specs.Lines.{lines_of}
use Rattle.deck.specs.Meant.{Report, meant}
use Rattle.deck.proofs.Bounds.{report_steps}
use Rattle.deck.proofs.Outcomes.{too_short, prints}
use Rattle.deck.proofs.lines.print_deck.Goals as goal
use Rattle.deck.proofs.lines.print_deck.Goals.{in-Ok, in-Err}

pub returns-then-out-lt-MOST_BYTES : goal.returns-then-out-lt-MOST_BYTES
returns-then-out-lt-MOST_BYTES c =
    let a = c.args in
    too_short a.bytes.now a.out.now c.if-out-lt-MOST_BYTES.true

pub put_ran-requires : goal.put_ran-requires
put_ran-requires c =
    let told = c.in-Ok.ensures in
    (c.new-text.ensures, told.few, report_steps c.args.bytes.now (Ok c.in-Ok.ran) told)

pub returns : goal.returns
returns c =
    let a = c.args in
    let lines = λ (r : Report). lines_of (meant r) in
    let put : c.match-run_deck.text ≡ lines_of (meant c.run_deck.result) =
    elim c.match-run_deck.branch [
      | in-Ok w ↦ w.text-is ∙ w.put_ran.ensures ∙ sym (ap lines w.in-Ok.is)
      | in-Err w ↦ w.text-is ∙ w.put_refused.ensures ∙ sym (ap lines w.in-Err.is)
    ]
    in
    let room = c.if-out-lt-MOST_BYTES.false in
    let copy = c.copy_to in
    prints a.bytes.now a.out.now c.match-run_deck.text c.run_deck.result copy.result copy.new.out room c.run_deck.ensures put copy.ensures
