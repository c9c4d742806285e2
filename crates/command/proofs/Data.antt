-- What number 9 asks of a record: of its data the hull alone, of its unit the room, and of memory its length alone.
use mathlib.Core.Path.{◌≡◌, refl, sym, ap, ap₂, ◌∙◌}
use Prim.Native.Nat.{ℕ, ◌+◌, ◌*◌, ◌<◌, max}
use native.Mathlib.Decide.{dec_lt}
use native.Mathlib.Nat.{zero-add}
use native.Mathlib.Omega.{arith}
use mathlib.Core.Bool.{Bool, true, false, not, ◌&&◌, ◌||◌, or_assoc, or-true, or-false}
use mathlib.Core.List.{List, [], ◌∷◌}
use lib.Dec.{ltb, leb, eqb}
use borrow.Author.Tests.{lt-ltb, le-ltb, eq-eqb}
use lib.ListN.{length}
use Rattle.std.proofs.lemmas.Bool.{or_left, cond-true}
use Rattle.meaning.specs.declared.Drive.{Drive}
use Rattle.meaning.specs.Drives.{Drives}
use Rattle.meaning.specs.declared.Record.{Record}
use Rattle.meaning.specs.Store.{Store, memory}
use Rattle.meaning.specs.Sizes.{store_wrong}
use Rattle.meaning.specs.Each.{some_of}
use Rattle.meaning.specs.Fields.{iopb_bytes}
use Rattle.meaning.specs.Sectors.{sector_bytes}
use Rattle.meaning.specs.Ends.{drive_end}
use Rattle.meaning.specs.Ranges.{Range}
use Rattle.meaning.specs.Links.{most_links, bytes_in}
use Rattle.meaning.specs.Code.{outside}
use Rattle.meaning.specs.Command.{writes, transfers, steps_of}
use Rattle.meaning.specs.Touch.{data_bytes}
use Rattle.meaning.specs.Pick.{bad_transfer, bad_record}
use Rattle.meaning.proofs.Means.{Means, holds, fails, same_test, means_above, means_lt}
use Rattle.meaning.proofs.Conditions.{right_store}
use Rattle.meaning.proofs.Rows.{or_second}
use Rattle.units.specs.declared.rooms.Room.{Room}
use Rattle.units.specs.declared.rooms.Rooms.{Rooms}
use Rattle.units.specs.Rooms.{no_room, room_in, rooms_of, room_of}
use Rattle.units.proofs.ByUnit.{room_where, room_by_unit}
use Rattle.command.specs.declared.touch.Hull.{Hull}
use Rattle.command.specs.declared.touch.Footprint.{Footprint}
use Rattle.command.specs.Footprints.{far, nearer, hull_with, hull_from, hull_of, data_hull, footprint_of}
use Rattle.command.specs.Data.{bad_data, bad_move, bad_by, bad_in}
use Rattle.command.specs.Look.{judged_as, looked_as, may_block}

-- ---- the hull of some ranges tells whether one of them lies outside memory, and how many bytes they have

past_either : (n a b : ℕ) → ltb n (max a b) ≡ (ltb n a || ltb n b)
past_either n a b =
    elim (dec_lt n a) [
      | yes h ↦ lt-ltb n (max a b) (omega arith) ∙ sym (or_left _ _ (lt-ltb n a h))
      | no h ↦
          elim (dec_lt n b) [
            | yes g ↦ lt-ltb n (max a b) (omega arith) ∙ sym (or_second _ _ (le-ltb n a (omega arith)) ∙ lt-ltb n b g)
            | no g ↦ le-ltb n (max a b) (omega arith) ∙ sym (or_second _ _ (le-ltb n a (omega arith)) ∙ le-ltb n b (omega arith))
          ]
    ]

-- begun no further than `far`, a range ends past n as before, since n is less than that
nearer_end : (n : ℕ) (x : Range) → n < far → ltb n (nearer x.from + x.many) ≡ outside n x
nearer_end n x h = same_test (means_lt n (nearer x.from + x.many)) (as_far (means_lt n (x.from + x.many)))
  where
    as_far : {b : Bool} → Means (n < x.from + x.many) b → Means (n < nearer x.from + x.many) b
    as_far (holds g) = holds (omega arith)
    as_far (fails g) = fails (λ e. g (omega arith))

outside_from : (n : ℕ) → n < far → (h : Hull) (xs : List Range) → ltb n (hull_from h xs).high ≡ (ltb n h.high || some_of (outside n) xs)
outside_from n f h [] = sym (or-false (ltb n h.high))
outside_from n f h (x ∷ xs) =
    outside_from n f (hull_with h x) xs
    ∙ ap (λ (b : Bool). b || some_of (outside n) xs) (past_either n h.high (nearer x.from + x.many) ∙ ap (λ (b : Bool). ltb n h.high || b) (nearer_end n x f))
    ∙ or_assoc (ltb n h.high) (outside n x) (some_of (outside n) xs)

bytes_from : (h : Hull) (xs : List Range) → (hull_from h xs).bytes ≡ h.bytes + bytes_in xs
bytes_from h [] = omega arith
bytes_from h (x ∷ xs) = omega (arith, bytes_from (hull_with h x) xs)

by_hull : (n : ℕ) → n < far → (r : Record) → transfers r ≡ true
    → bad_data n r ≡ (ltb most_links r.ranges || (some_of (outside n) (data_bytes r) || not (eqb (bytes_in (data_bytes r)) (sector_bytes * r.count))))
unfolding bad_data
by_hull n f r moves =
    let moved : data_hull r ≡ hull_of (data_bytes r) = ap hull_of (cond-true (transfers r) (data_bytes r) [] moves) in
    let high = ap (λ (h : Hull). ltb n h.high) moved ∙ outside_from n f (hull_of []) (data_bytes r) ∙ or_second _ _ (le-ltb n 0 (omega arith)) in
    let bytes = ap (λ (h : Hull). h.bytes) moved ∙ bytes_from (hull_of []) (data_bytes r) ∙ zero-add (bytes_in (data_bytes r)) in
    ap₂ (λ (a : Bool) (k : ℕ). ltb most_links r.ranges || (a || not (eqb k (sector_bytes * r.count)))) high bytes

-- ---- the rules' number 9 is what the code tests

regroup : (x a b c d e f : Bool) → ((((((x || a) || b) || c) || d) || e) || f) ≡ (x || (a || ((b || (c || d)) || (e || f))))
regroup true a b c d e f = refl
regroup false true b c d e f = refl
regroup false false true c d e f = refl
regroup false false false true d e f = refl
regroup false false false false true e f = refl
regroup false false false false false e f = refl

-- an absent unit has no sector, so that a transfer on it, which has a count, goes past its end
no_room_lem : (n : ℕ) (r : Record) → bad_move n no_room r ≡ true
unfolding bad_move
no_room_lem n r = go (means_lt 0 r.count)
  where
    past : Bool → Bool
    past b = eqb r.count 0 || (bad_data n r || (b || writes r && false))

    go : {b : Bool} → Means (0 < r.count) b → bad_move n no_room r ≡ true
    go (holds h) = ap past (lt-ltb 0 (r.sector + r.count) (omega (arith, h))) ∙ ap (λ (b : Bool). eqb r.count 0 || b) (or-true (bad_data n r)) ∙ or-true (eqb r.count 0)
    go (fails h) = or_left _ _ (eq-eqb r.count 0 (omega (arith, h)))

-- the room on a drive tells what the drive itself does
by_room : (n : ℕ) (d : Drive) (r : Record)
    → (not d.present || (eqb r.count 0 || (bad_data n r || ((drive_end d r.sector r.count).past || writes r && d.protected)))) ≡ bad_move n (room_in d) r
unfolding bad_move
by_room n d r = go d.present refl
  where
    go : (b : Bool) → d.present ≡ b
        → (not d.present || (eqb r.count 0 || (bad_data n r || ((drive_end d r.sector r.count).past || writes r && d.protected)))) ≡ bad_move n (room_in d) r
    go true e = or_second _ _ (ap not e) ∙ ap (λ (m : Room). bad_move n m r) (sym (room_where d true e))
    go false e = or_left _ _ (ap not e) ∙ sym (ap (λ (m : Room). bad_move n m r) (room_where d false e) ∙ no_room_lem n r)

not-leb : (a n : ℕ) → not (leb a n) ≡ ltb n a
not-leb a n = same_test (means_above a n) (means_lt n a)

module _ (d : Drives) (s : Store) (right : store_wrong d s ≡ false) (r : Record) where
  abbrev n : ℕ
  n = length (s memory)

  small : n < far
  small = omega (arith, (right_store d s right).memory_fits)

  -- the drive of its own unit
  abbrev own : Drive
  own = d.on r.unit

  by_parts : transfers r ≡ true → bad_transfer d s r ≡ bad_move n (room_in own) r
  unfolding bad_transfer
  by_parts moves =
      regroup (not own.present) (eqb r.count 0) (ltb most_links r.ranges) (some_of (outside n) (data_bytes r)) (not (eqb (bytes_in (data_bytes r)) (sector_bytes * r.count)))
      (drive_end own r.sector r.count).past (writes r && own.protected)
      ∙ ap (λ (b : Bool). not own.present || (eqb r.count 0 || (b || ((drive_end own r.sector r.count).past || writes r && own.protected)))) (sym (by_hull n small r moves))
      ∙ by_room n own r

  -- what is asked of a transfer is not asked of any other command
  if_moves : (b : Bool) → transfers r ≡ b → (b && bad_transfer d s r) ≡ (b && bad_move n (room_in own) r)
  if_moves true e = by_parts e
  if_moves false e = refl

  pub bad_in_lem : bad_record d s r ≡ bad_in n d r
  unfolding bad_record bad_by bad_in
  bad_in_lem =
      ap₂ (λ (a b : Bool). (a || ltb (steps_of r) r.taken) || b) (not-leb (r.iopb + iopb_bytes) n) (if_moves (transfers r) refl)
      ∙ or_assoc (ltb n (r.iopb + iopb_bytes)) (ltb (steps_of r) r.taken) (transfers r && bad_move n (room_in own) r)

-- a record is judged by the room of its own unit as by the drives
pub by_own_room : (n : ℕ) (d : Drives) (r : Record) (m : Room) → m ≡ room_in (d.on r.unit) → bad_by n m r ≡ bad_in n d r
unfolding bad_in
by_own_room n d r m e = ap (λ (x : Room). bad_by n x r) e

-- and so is what a run and a pick see of it, by the rooms of all units
module _ (n : ℕ) (d : Drives) (m : Rooms) (all : m ≡ rooms_of d) (r : Record) where
  pub by_rooms : bad_by n (room_of m r.unit) r ≡ bad_in n d r
  by_rooms = by_own_room n d r (room_of m r.unit) (ap (λ (x : Rooms). room_of x r.unit) all ∙ room_by_unit d r.unit)

  pub judged_by_rooms : judged_as n m r ≡ record { footprint = footprint_of r; bad = bad_in n d r }
  judged_by_rooms j = record { footprint = footprint_of r; bad = by_rooms j }

  pub looked_by_rooms : (wanted : Footprint) (earlier : Bool) → looked_as n m r wanted earlier ≡ record { bad = bad_in n d r; near = may_block r wanted earlier }
  looked_by_rooms wanted earlier j = record { bad = by_rooms j; near = may_block r wanted earlier }
