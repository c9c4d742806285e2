-- `board::pick::look_over` meets its contract: a bad record ends the look, and every other is seen as `Sighting` says.
use mathlib.Core.Path.{◌≡◌, subst, ◌∙◌}
use Prim.Native.Nat.{ℕ}
use native.Mathlib.Omega.{arith}
use mathlib.Core.List.{List}
use lib.ListN.{length, get_or, take}
use Rattle.meaning.specs.declared.Record.{Record}
use Rattle.meaning.specs.Command.{no_record}
use Rattle.meaning.specs.Drives.{drives_of}
use Rattle.board.proofs.Sighting.{Seen, seen_bad, seen_near, seen_far, seen_all}
use Rattle.board.proofs.pick.look_over.Goals as goal
use Rattle.board.proofs.pick.look_over.Goals.{After-loop-k, then-seen-2, else-seen-2}

-- the record at a place
abbrev at : List Record → ℕ → Record
at t q = get_or t q no_record

pub returns-then-seen : goal.returns-then-seen
returns-then-seen c = let a = c.args in
    let used = take a.commands a.table.now in
    seen_bad a.memory (drives_of a.drives) (at a.table.now a.place) a.place used c.loop-k.k c.loop-k-test.true c.rooms_of-rooms.result c.rooms_of-rooms.ensures c.footprint_of-footprint.result c.footprint_of-footprint.ensures c.look-seen.result c.look-seen.ensures c.if-seen.true

pub loop-k-preserved : goal.loop-k-preserved
loop-k-preserved c = let a = c.args in
    let l = c.loop-k in
    let used = take a.commands a.table.now in
    elim c.if-seen-2.branch [
      | then-seen-2 w ↦
          seen_near a.memory (drives_of a.drives) (at a.table.now a.place) a.place used l.k c.loop-k-test.true c.rooms_of-rooms.result c.rooms_of-rooms.ensures c.footprint_of-footprint.result c.footprint_of-footprint.ensures c.look-seen.result c.look-seen.ensures
          c.if-seen.false l.waits c.if-seen-2.waits l.invariant w.if-seen-2.true (w.waits-is ∙ w.ranges_conflict.ensures)
      | else-seen-2 w ↦
          seen_far a.memory (drives_of a.drives) (at a.table.now a.place) a.place used l.k c.loop-k-test.true c.rooms_of-rooms.result c.rooms_of-rooms.ensures c.footprint_of-footprint.result c.footprint_of-footprint.ensures c.look-seen.result c.look-seen.ensures
          c.if-seen.false l.waits c.if-seen-2.waits l.invariant w.if-seen-2.false (w.waits-is ∙ w.if-seen-2.false)
    ]

pub returns : goal.returns
returns c = let a = c.args in
    let l = c.loop-k in
    let used = take a.commands a.table.now in
    let all : l.k ≡ length used = omega (arith, c.loop-k-test.false, l.auto.k-end) in
    seen_all a.memory (drives_of a.drives) (at a.table.now a.place) a.place used l.waits (subst (λ (k : ℕ). Seen a.memory (drives_of a.drives) (at a.table.now a.place) a.place used k l.waits) all l.invariant)
