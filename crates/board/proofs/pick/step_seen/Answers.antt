-- `board::pick::step_seen` meets its contract: each test decides a row of the numbers, and past all of them the step lies within memory and
-- image.
use mathlib.Core.Path.{◌≡◌, refl, sym, ◌∙◌}
use native.Mathlib.Omega.{arith}
use mathlib.Core.Bool.{false}
use Rattle.meaning.specs.Drives.{drives_of}
use Rattle.meaning.specs.Lends.{store_of}
use Rattle.meaning.specs.Command.{remaining}
use Rattle.meaning.specs.Pick.{bad_record}
use Rattle.meaning.proofs.Records.{unfinished_some}
use Rattle.board.proofs.Moving.{ready, one_step, steps_small}
use Rattle.board.proofs.Seen.{not_there, at_end, kept_waiting, goes_by, refused_sees, accepted_sees}
use Rattle.board.proofs.pick.step_seen.Goals as goal
use Rattle.board.proofs.pick.step_seen.Goals.{Else-seen}

pub returns-then-commands-place-clause-sees : goal.returns-then-commands-place-clause-sees
returns-then-commands-place-clause-sees c = let a = c.args in
    let y = c.requires in
    refused_sees (drives_of a.store.now.drives) a.commands a.place a.r.now a.seen (store_of a.store.now) 8 _ refl
    (not_there (drives_of a.store.now.drives) a.commands a.place a.r.now a.seen (store_of a.store.now) y.right y.few y.sound c.if-commands-place.true) (λ e. omega arith)

pub returns-then-finished-clause-sees : goal.returns-then-finished-clause-sees
returns-then-finished-clause-sees c = let a = c.args in
    let y = c.requires in
    refused_sees (drives_of a.store.now.drives) a.commands a.place a.r.now a.seen (store_of a.store.now) 7 _ refl
    (at_end (drives_of a.store.now.drives) a.commands a.place a.r.now a.seen (store_of a.store.now) y.right y.few y.sound c.if-commands-place.false (sym c.finished.ensures ∙ c.if-finished.true)) (λ e. omega arith)

pub returns-then-seen-clause-sees : goal.returns-then-seen-clause-sees
returns-then-seen-clause-sees c = let a = c.args in
    let y = c.requires in
    refused_sees (drives_of a.store.now.drives) a.commands a.place a.r.now a.seen (store_of a.store.now) 6 _ refl
    (kept_waiting (drives_of a.store.now.drives) a.commands a.place a.r.now a.seen (store_of a.store.now) y.right y.few y.sound c.if-commands-place.false (sym c.finished.ensures ∙ c.if-finished.false) c.if-seen.true) (λ e. omega arith)

-- past the tests the record is not bad
good : (c : Else-seen) → bad_record (drives_of c.args.store.now.drives) (store_of c.args.store.now) c.args.r.now ≡ false
good c = c.requires.good c.if-commands-place.false (sym c.finished.ensures ∙ c.if-finished.false) c.if-seen.false

pub take_steps-requires : goal.take_steps-requires
take_steps-requires c = let a = c.args in
    let some = unfinished_some a.r.now (sym c.finished.ensures ∙ c.if-finished.false) in
    (some, ready (drives_of a.store.now.drives) (store_of a.store.now) a.r.now 1 c.requires.right (good (goal.at.take_steps-requires c).Else-seen) some)

pub overflow_add-result : goal.overflow_add-result
unfolding remaining
overflow_add-result c = let a = c.args in
    let some = unfinished_some a.r.now (sym c.finished.ensures ∙ c.if-finished.false) in
    let small = steps_small a.r.now (omega arith) in
    omega (arith, some, small)

pub returns-clause-sees : goal.returns-clause-sees
returns-clause-sees c = let a = c.args in
    let y = c.requires in
    accepted_sees (drives_of a.store.now.drives) a.commands a.place a.r.now a.seen (store_of a.store.now) _
    (goes_by (drives_of a.store.now.drives) a.commands a.place a.r.now a.seen (store_of a.store.now) y.right y.few y.sound c.if-commands-place.false (sym c.finished.ensures ∙ c.if-finished.false) c.if-seen.false false (good (goal.at.returns-clause-sees c).Else-seen))
    (c.take_steps.ensures.done ∙ one_step (drives_of a.store.now.drives) a.r.now (store_of a.store.now))
