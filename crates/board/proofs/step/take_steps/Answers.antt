-- `board::step::take_steps` meets its contract: the sectors' moves, then the close where no step is left.
use mathlib.Core.Path.{sym, ap, ◌∙◌}
use Prim.Native.Nat.{ℕ}
use native.Mathlib.Omega.{arith}
use mathlib.Core.List.{List}
use lib.ListN.{length}
use lib.Seq.{sets}
use Rattle.meaning.specs.declared.LentDrives.{LentDrives}
use Rattle.meaning.specs.Step.{closing}
use Rattle.meaning.specs.Store.{Store, memory, lent}
use Rattle.meaning.specs.Drives.{drives_of}
use Rattle.meaning.specs.Lends.{store_of}
use Rattle.board.proofs.Moving.{lent_images, no_steps, closed_done, open_done, sectors_long}
use Rattle.board.proofs.step.take_steps.Goals as goal

pub returns-then-n-eq0-clause-done : goal.returns-then-n-eq0-clause-done
returns-then-n-eq0-clause-done c =
    let a = c.args in
    no_steps (drives_of a.store.now.drives) a.n a.r.now (store_of a.store.now) c.if-n-eq0.true

pub close-requires : goal.close-requires
close-requires c =
    let a = c.args in
    let long = ap (λ (s : Store). length (s memory)) c.move_on_unit.ensures.done ∙ sectors_long a.n a.r.now (store_of a.store.now) memory in
    omega (arith, c.requires.1.status, long)

pub returns-then-n-remaining-clause-done : goal.returns-then-n-remaining-clause-done
returns-then-n-remaining-clause-done c =
    let a = c.args in
    let v = c.move_on_unit in
    let u = v.new.store in
    let d = drives_of a.store.now.drives in
    ap (λ (x : List ℕ). lent x (lent_images u)) c.close.ensures
    ∙ ap (λ (l : LentDrives). lent (sets u.memory.now a.r.now.iopb (closing (drives_of l) a.r.now)) (lent_images u)) v.ensures.same.5
    ∙ closed_done d a.n a.r.now (store_of a.store.now) u.memory.now (lent_images u) v.ensures.done (omega (arith, c.if-n-eq0.false)) (c.if-n-remaining.true ∙ c.remaining.ensures)

pub returns-else-n-remaining-clause-done : goal.returns-else-n-remaining-clause-done
returns-else-n-remaining-clause-done c =
    let a = c.args in
    let u = c.move_on_unit.new.store in
    open_done (drives_of a.store.now.drives) a.n a.r.now (store_of a.store.now) u.memory.now (lent_images u) c.move_on_unit.ensures.done c.requires.0 (λ q. c.if-n-remaining.false (q ∙ sym c.remaining.ensures))
