-- `board::pick::pick_seen` meets its contract: 1, 9 and the last row, and all between them by `step_seen`.
use mathlib.Core.Path.{◌≡◌, refl, sym, ap, ◌∙◌}
use native.Mathlib.Omega.{arith}
use mathlib.Core.Bool.{true, false, true≢false}
use lib.ListN.{length}
use Rattle.std.proofs.lemmas.Bool.{not-true, not-false}
use Rattle.meaning.specs.declared.Drive.{Drive}
use Rattle.meaning.specs.declared.Record.{Record}
use Rattle.meaning.specs.declared.lends.LentStore.{LentStore}
use Rattle.meaning.specs.Drives.{drive_of, drives_of}
use Rattle.meaning.specs.Lends.{store_of}
use Rattle.meaning.specs.Sizes.{store_wrong}
use Rattle.meaning.specs.Pick.{bad_record}
use Rattle.units.specs.declared.rooms.Room.{Room}
use Rattle.units.specs.Rooms.{room_in}
use Rattle.command.specs.Data.{bad_by}
use Rattle.command.proofs.Data.{bad_in_lem, by_own_room}
use Rattle.board.proofs.Seen.{wrong_sizes, too_many, some_bad, goes_by, refused_sees}
use Rattle.board.proofs.pick.pick_seen.Goals as goal
use Rattle.board.proofs.pick.pick_seen.Goals.{Else-wrong_store, then-commands-gt-RECORDS-via-then-commands-gt-RECORDS, then-commands-gt-RECORDS-via-else-commands-gt-RECORDS+then-seen, then-place-commands+then-not-finished+then-not-seen+else-bad_record, else-place-commands, else-place-commands-via-then-place-commands+then-not-finished+else-not-seen, else-place-commands-via-then-place-commands+else-not-finished, else-place-commands-via-else-place-commands}

right : (c : Else-wrong_store) → store_wrong (drives_of c.args.store.now.drives) (store_of c.args.store.now) ≡ false
right c = sym c.wrong_store.ensures ∙ c.if-wrong_store.false

pub returns-then-wrong_store-clause-sees : goal.returns-then-wrong_store-clause-sees
returns-then-wrong_store-clause-sees c = let a = c.args in
    refused_sees (drives_of a.store.now.drives) a.commands a.place a.r.now a.seen (store_of a.store.now) 1 _ refl
    (wrong_sizes (drives_of a.store.now.drives) a.commands a.place a.r.now a.seen (store_of a.store.now) (sym c.wrong_store.ensures ∙ c.if-wrong_store.true)) (λ e. omega arith)

pub returns-then-commands-gt-RECORDS-clause-sees : goal.returns-then-commands-gt-RECORDS-clause-sees
returns-then-commands-gt-RECORDS-clause-sees c = let a = c.args in
    let e = right (goal.at.returns-then-commands-gt-RECORDS-clause-sees c).Else-wrong_store in
    refused_sees (drives_of a.store.now.drives) a.commands a.place a.r.now a.seen (store_of a.store.now) 9 _ refl
    (elim c.then-commands-gt-RECORDS.branch [
      | then-commands-gt-RECORDS-via-then-commands-gt-RECORDS w ↦
          too_many (drives_of a.store.now.drives) a.commands a.place a.r.now a.seen (store_of a.store.now) e w.if-commands-gt-RECORDS.true
      | then-commands-gt-RECORDS-via-else-commands-gt-RECORDS+then-seen w ↦
          some_bad (drives_of a.store.now.drives) a.commands a.place a.r.now a.seen (store_of a.store.now) e w.if-commands-gt-RECORDS.false w.if-seen.true
    ]) (λ e. omega arith)

-- by the room x on the drive y of its own unit the record is asked what the rules ask
by_room : (l : LentStore) (r : Record) (y : Drive) (x : Room) → store_wrong (drives_of l.drives) (store_of l) ≡ false → y ≡ drive_of l.drives r.unit → x ≡ room_in y
    → bad_record (drives_of l.drives) (store_of l) r ≡ bad_by (length l.memory.now) x r
by_room l r y x e ey ex =
    bad_in_lem (drives_of l.drives) (store_of l) e r ∙ sym (by_own_room (length l.memory.now) (drives_of l.drives) r x (ex ∙ ap room_in ey))

pub returns-then-bad_record-clause-sees : goal.returns-then-bad_record-clause-sees
returns-then-bad_record-clause-sees c = let a = c.args in
    let e = right (goal.at.returns-then-bad_record-clause-sees c).Else-wrong_store in
    let unfinished = sym c.finished.ensures ∙ c.if-not-finished.true in
    let bad = by_room a.store.now a.r.now c.drive_of.result c.room_in-room.result e c.drive_of.ensures c.room_in-room.ensures ∙ sym c.bad_record.ensures ∙ c.if-bad_record.true in
    refused_sees (drives_of a.store.now.drives) a.commands a.place a.r.now a.seen (store_of a.store.now) 9 _ refl
    (goes_by (drives_of a.store.now.drives) a.commands a.place a.r.now a.seen (store_of a.store.now) e c.if-commands-gt-RECORDS.false c.if-seen.false c.if-place-commands.true unfinished (not-true a.seen.blocked c.if-not-seen.true) true bad) (λ e. omega arith)

pub step_seen-requires : goal.step_seen-requires
step_seen-requires c = let a = c.args in
    let e = right (goal.at.step_seen-requires c).Else-wrong_store in
    record {
      right = e;
      few = c.if-commands-gt-RECORDS.false;
      sound = c.if-seen.false;
      good =
          λ h f b.
          elim c.if-place-commands.branch [
            | then-place-commands+then-not-finished+then-not-seen+else-bad_record w ↦
                by_room a.store.now a.r.now w.drive_of.result w.room_in-room.result e w.drive_of.ensures w.room_in-room.ensures ∙ sym w.bad_record.ensures ∙ w.if-bad_record.false
            | else-place-commands w ↦
                elim w.else-place-commands.branch [
                  | else-place-commands-via-then-place-commands+then-not-finished+else-not-seen v ↦ absurd (true≢false (sym (not-false a.seen.blocked v.if-not-seen.false) ∙ b))
                  | else-place-commands-via-then-place-commands+else-not-finished v ↦ absurd (true≢false (sym v.if-not-finished.false ∙ v.finished.ensures ∙ f))
                  | else-place-commands-via-else-place-commands v ↦ absurd (omega (arith, h, v.if-place-commands.false))
                ]
          ];
    }
