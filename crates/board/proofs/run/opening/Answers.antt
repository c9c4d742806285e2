-- `board::run::opening` meets its contract: the rows of a run one after another, and of number 9 one record after another.
use mathlib.Core.Path.{◌≡◌, refl, sym, ap, ◌∙◌, subst}
use Prim.Native.Nat.{ℕ, ◌<◌}
use native.Mathlib.Omega.{arith}
use mathlib.Core.Bool.{true, false}
use lib.ListN.{length, get_or, take}
use Rattle.meaning.specs.Drives.{drives_of}
use Rattle.meaning.specs.declared.Record.{Record}
use Rattle.meaning.specs.Each.{some_of}
use Rattle.meaning.specs.Lends.{store_of}
use Rattle.meaning.specs.State.{state_in}
use Rattle.meaning.specs.Sizes.{sizes_wrong}
use Rattle.meaning.specs.Command.{no_record}
use Rattle.meaning.proofs.Numbers.{sizes_long}
use Rattle.command.specs.Data.{bad_in}
use Rattle.command.specs.declared.sound.Judged.{Judged}
use Rattle.command.proofs.Data.{judged_by_rooms}
use Rattle.command.specs.Footprints.{footprint_of}
use Rattle.board.specs.Watching.{Watching}
use lib.Seq.{get_or-take, length-take-le}
use Rattle.board.proofs.Searching.{none_more, some_here, watching_none, watching_more}
use Rattle.board.proofs.Runs.{wrong_sizes, too_many, by_bad}
use Rattle.board.proofs.run.opening.Goals as goal
use Rattle.board.proofs.run.opening.Goals.{Else-wrong_size, Else-commands-gt-RECORDS, After-judge-judged, After-loop-place}

right : (c : Else-wrong_size) → let a = c.args in sizes_wrong (drives_of a.store.now.drives) (state_in (store_of a.store.now) a.table.now) ≡ false
right c = sym c.wrong_size.ensures.value ∙ c.if-wrong_size.false

pub returns-then-wrong_size-clause-number : goal.returns-then-wrong_size-clause-number
returns-then-wrong_size-clause-number c = let a = c.args in
    sym (wrong_sizes (drives_of a.store.now.drives) a.commands (store_of a.store.now) a.table.now (sym c.wrong_size.ensures.value ∙ c.if-wrong_size.true))

pub returns-then-commands-gt-RECORDS-clause-number : goal.returns-then-commands-gt-RECORDS-clause-number
returns-then-commands-gt-RECORDS-clause-number c = let a = c.args in
    sym (too_many (drives_of a.store.now.drives) a.commands (store_of a.store.now) a.table.now (right (goal.at.returns-then-commands-gt-RECORDS-clause-number c).Else-wrong_size) c.if-commands-gt-RECORDS.true)

-- all commands have a record
there : (c : Else-commands-gt-RECORDS) → (let a = c.args in sizes_wrong (drives_of a.store.now.drives) (state_in (store_of a.store.now) a.table.now) ≡ false) → length (take c.args.commands c.args.table.now) ≡ c.args.commands
there c e = let a = c.args in
    let long = sizes_long (drives_of a.store.now.drives) (state_in (store_of a.store.now) a.table.now) e in
    length-take-le a.commands a.table.now (omega (arith, long, c.if-commands-gt-RECORDS.false))

-- what is said of the record that the loop has come to
said : (c : After-judge-judged) → c.loop-place.place < c.args.commands
    → c.judge-judged.result ≡ record { footprint = footprint_of (get_or c.args.table.now c.loop-place.place no_record); bad = bad_in (length c.args.store.now.memory.now) (drives_of c.args.store.now.drives) (get_or c.args.table.now c.loop-place.place no_record) }
said c h = let a = c.args in
    c.judge-judged.ensures
    ∙ judged_by_rooms (length a.store.now.memory.now) (drives_of a.store.now.drives) c.rooms_of-rooms.result c.rooms_of-rooms.ensures (get_or (take a.commands a.table.now) c.loop-place.place no_record)
    ∙ ap (λ (r : Record). record { footprint = footprint_of r; bad = bad_in (length a.store.now.memory.now) (drives_of a.store.now.drives) r }) (get_or-take a.commands a.table.now c.loop-place.place no_record h)

pub slice_bounds-r-items-end : goal.slice_bounds-r-items-end
slice_bounds-r-items-end c = let at = goal.at.slice_bounds-r-items-end c in
    sym (there at.Else-commands-gt-RECORDS (right at.Else-wrong_size))

pub loop-place-init : goal.loop-place-init
loop-place-init c = (watching_none c.default-watches.result c.default-watches.ensures.1.0 c.args.table.now, refl)

pub returns-then-judged-clause-number : goal.returns-then-judged-clause-number
returns-then-judged-clause-number c = let a = c.args in
    let at = goal.at.returns-then-judged-clause-number c in
    let all = there at.Else-commands-gt-RECORDS (right at.Else-wrong_size) in
    let k = c.loop-place.place in
    let h : k < a.commands = omega (arith, all, c.loop-place-test.true) in
    let long = sizes_long (drives_of a.store.now.drives) (state_in (store_of a.store.now) a.table.now) (right at.Else-wrong_size) in
    let bad = sym (ap (λ (x : Judged). x.bad) (said at.After-judge-judged h)) ∙ c.if-judged.true in
    sym
    (by_bad (drives_of a.store.now.drives) a.commands (store_of a.store.now) a.table.now (right at.Else-wrong_size) c.if-commands-gt-RECORDS.false true
    (some_here no_record (bad_in (length a.store.now.memory.now) (drives_of a.store.now.drives)) a.table.now k a.commands h (omega (arith, long, h, c.if-commands-gt-RECORDS.false)) bad))

pub loop-place-preserved : goal.loop-place-preserved
loop-place-preserved c = let a = c.args in
    let at = goal.at.loop-place-preserved c in
    let all = there at.Else-commands-gt-RECORDS (right at.Else-wrong_size) in
    let l = c.loop-place in
    let h : l.place < a.commands = omega (arith, all, c.loop-place-test.true) in
    let long = sizes_long (drives_of a.store.now.drives) (state_in (store_of a.store.now) a.table.now) (right at.Else-wrong_size) in
    let e = said at.After-judge-judged h in (
      watching_more a.table.now l.place l.watches (omega (arith, h, c.if-commands-gt-RECORDS.false)) l.invariant.0 _ (ap (λ (x : Judged). x.footprint) e) refl,
      none_more no_record (bad_in (length a.store.now.memory.now) (drives_of a.store.now.drives)) a.table.now l.place (omega (arith, long, h, c.if-commands-gt-RECORDS.false)) l.invariant.1 (sym (ap (λ (x : Judged). x.bad) e) ∙ c.if-judged.false),
    )

at-end : (c : After-loop-place) → length (take c.args.commands c.args.table.now) ≡ c.args.commands → c.loop-place.place ≡ c.args.commands
at-end c all = omega (arith, all, c.loop-place-test.false, c.loop-place.auto.place-end)

pub returns-clause-number : goal.returns-clause-number
returns-clause-number c = let a = c.args in
    let at = goal.at.returns-clause-number c in
    let e = at-end at.After-loop-place (there at.Else-commands-gt-RECORDS (right at.Else-wrong_size)) in
    sym
    (by_bad (drives_of a.store.now.drives) a.commands (store_of a.store.now) a.table.now (right at.Else-wrong_size) c.if-commands-gt-RECORDS.false false
    (ap (λ (k : ℕ). some_of (bad_in (length a.store.now.memory.now) (drives_of a.store.now.drives)) (take k a.table.now)) (sym e) ∙ c.loop-place.invariant.1))

pub returns-clause-watching : goal.returns-clause-watching
returns-clause-watching c =
    let at = goal.at.returns-clause-watching c in
    let e = at-end at.After-loop-place (there at.Else-commands-gt-RECORDS (right at.Else-wrong_size)) in
    subst (λ (k : ℕ). Watching k c.args.table.now c.loop-place.watches) e c.loop-place.invariant.0
