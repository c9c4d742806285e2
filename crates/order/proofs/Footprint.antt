-- Steps of commands that do not conflict commute: every move of a step keeps to what `touched` says of its command, so that two
-- commands of which neither disturbs the other have steps whose moves all keep apart.
use mathlib.Core.Path.{◌≡◌, sym, subst, ◌∙◌}
use mathlib.Core.Logic.{◌≢◌, ◌⊎◌, inl, inr}
use Prim.Native.Nat.{ℕ, ◌+◌, ◌-◌, ◌*◌, ◌≤◌, ◌<◌}
use native.Mathlib.Omega.{arith}
use mathlib.Core.Bool.{Bool, true, false, ◌||◌, cond}
use mathlib.Core.List.{List, [], ◌∷◌, ◌++◌, map}
use lib.Dec.{eqb}
use borrow.Author.Tests.{ltb-false}
use Rattle.std.proofs.lemmas.Bool.{or_parts, cond_both}
use Rattle.meaning.specs.Drives.{Drives}
use Rattle.meaning.specs.declared.Record.{Record}
use Rattle.meaning.specs.Each.{some_of}
use Rattle.meaning.specs.Store.{memory, disk, same, Store, Area, area, Move, copy, post}
use Rattle.meaning.specs.Sectors.{sector_bytes}
use Rattle.meaning.specs.Ranges.{Range, bytes, sectors_of, crosses, overlap, meet}
use Rattle.meaning.specs.Command.{reads, writes, steps_of, remaining}
use Rattle.meaning.specs.Pieces.{Piece, piece_of, pieces_of}
use Rattle.meaning.specs.Touch.{Touched, data_bytes, status_bytes, sectors, by_read, by_write, touched, touched_by, disturbs, conflict}
use Rattle.meaning.specs.Conditions.{SomeOf}
use Rattle.meaning.specs.Step.{pieces_at, in_memory, in_sector, sector_move, closing, close_move, step_moves, step, sector_move_by}
use Rattle.meaning.proofs.Means.{Means, holds, fails, means_eq, some_of_both}
use Rattle.meaning.proofs.Rows.{and_second}
use Rattle.meaning.proofs.All.{All, all_append, all_map}
use Rattle.meaning.proofs.Spaces.{Separate, writes_to, reads_from, Spares, KeepApart, moves_comm}
use Rattle.meaning.proofs.Places.{part_of, parts_separate, memory_disk, disk_memory}
use Rattle.meaning.proofs.Pieces.{piece_from, piece_to, piece_asked, OfMemory, data_memory}

-- ---- an area that lies in what a command reads or writes

-- bytes among bytes of memory, or part of one of some sectors; an empty area lies anywhere
data Lies : Area → Range → Type 0 where
  among : (i a f m : ℕ) → f ≤ i → i + a ≤ f + m → Lies (area memory i a) (bytes f m)
  one_of : (u n a c f m : ℕ) → a + c ≤ sector_bytes → f ≤ n → n < f + m → Lies (part_of u n a c) (sectors_of u f m)
  nothing : {z : Range} (x : Area) → x.many ≡ 0 → Lies x z

-- ranges with nothing in common hold separate areas
lies_separate : {x y : Area} {z w : Range} → overlap z w ≡ false → Lies x z → Lies y w → Separate x y
unfolding crosses
lies_separate e (nothing x h) k = λ _ _ _. omega arith
lies_separate e (among i a f m h k) (nothing y l) = λ _ _ _. omega arith
lies_separate e (one_of u i a c f m s h k) (nothing y l) = λ _ _ _. omega arith
lies_separate e (among i a f m h k) (among j b g n h' k') = λ _ _ _. omega (arith, ltb-false)
lies_separate e (among i a f m h k) (one_of v j b c g n _ h' k') = memory_disk i a v (sector_bytes * j + b) c
lies_separate e (one_of u i a c f m _ h k) (among j b g n h' k') = disk_memory u (sector_bytes * i + a) c j b
lies_separate e (one_of u i a c f m s h k) (one_of v j b o g n t h' k') = parts_separate u i a c v j b o s t other
  where
    other : same (disk u) (disk v) ≡ true → i ≢ j
    other s q =
        let z = sym (and_second (same (disk u) (disk v)) (crosses f m g n) s) ∙ e in
        omega (arith, ltb-false)

-- in one of some ranges
abbrev Inside : Area → List Range → Type 0
Inside x zs = SomeOf (Lies x) zs

-- a test that all the ranges fail is failed by the one that the area lies in
find : (p : Range → Bool) (x : Area) (zs : List Range) → some_of p zs ≡ false → Inside x zs → (z : Range) × (p z ≡ false) × Lies x z
find p x [] e h = absurd h
find p x (z ∷ zs) e (inl h) = (z, (or_parts (p z) (some_of p zs) e).0, h)
find p x (z ∷ zs) e (inr h) = find p x zs (or_parts (p z) (some_of p zs) e).1 h

meet_separate : (x y : Area) (zs ws : List Range) → meet zs ws ≡ false → Inside x zs → Inside y ws → Separate x y
meet_separate x y zs ws e h k =
    let f = find (λ z. some_of (overlap z) ws) x zs e h in
    let g = find (overlap f.0) y ws f.1 k in
    lies_separate g.1 f.2 g.2

-- ---- a move that keeps to what a command reads and writes

record KeepsTo (t : Touched) (v : Move) : Type 0 where
  written : Inside (writes_to v) t.written
  read : All (λ x. Inside x t.read) (reads_from v)

keeps_spares : (t u : Touched) (v w : Move) → disturbs t u ≡ false → KeepsTo t v → KeepsTo u w → Spares v w
unfolding disturbs
keeps_spares t u v w e h k =
    record {
      written = meet_separate (writes_to v) (writes_to w) t.written (u.read ++ u.written) e h.written (both_read (writes_to w) (inr k.written));
      read = all_map (λ y. Inside y u.read) (Separate (writes_to v))
          (λ y i. meet_separate (writes_to v) y t.written (u.read ++ u.written) e h.written (both_read y (inl i))) (reads_from w) k.read;
    }
  where
    both_read : (x : Area) → Inside x u.read ⊎ Inside x u.written → Inside x (u.read ++ u.written)
    both_read x = (some_of_both (Lies x) u.read u.written).1

keeps_apart : (t u : Touched) (vs ws : List Move) → disturbs t u ≡ false → disturbs u t ≡ false → All (KeepsTo t) vs → All (KeepsTo u) ws
    → All (λ w. All (λ v. KeepApart v w) vs) ws
keeps_apart t u vs ws e f h k =
    all_map (KeepsTo u) (λ w. All (λ v. KeepApart v w) vs)
    (λ w j. all_map (KeepsTo t) (λ v. KeepApart v w) (λ v i. (keeps_spares t u v w e i j, keeps_spares u t w v f j i)) vs h)
    ws k

-- ---- the moves of a step keep to what its command reads and writes

-- a piece lies in one of the ranges, and the part of the sector that goes with it in the k-th sector
record PieceOf (r : Record) (k : ℕ) (rs : List Range) (p : Piece) : Type 0 where
  piece : Inside (in_memory p) rs
  part : Lies (in_sector r k p) (sectors r)

part_lies : (r : Record) (k : ℕ) (p : Piece) → k < r.count → (1 ≤ p.many → (sector_bytes * k ≤ p.at) × (p.at + p.many ≤ sector_bytes * k + sector_bytes))
    → Lies (in_sector r k p) (sectors r)
part_lies r k p h w = go (means_eq p.many 0)
  where
    go : {b : Bool} → Means (p.many ≡ 0) b → Lies (in_sector r k p) (sectors r)
    go (holds e) = nothing (in_sector r k p) e
    go (fails n) =
        let q = w (omega arith) in
        one_of r.unit (r.sector + k) (p.at - sector_bytes * k) p.many r.sector r.count (omega arith) (omega arith) (omega arith)

pieces_lie : (r : Record) (k : ℕ) (rs : List Range) (b : ℕ) → k < r.count → All OfMemory rs
    → All (PieceOf r k rs) (pieces_of rs b (sector_bytes * k) (sector_bytes * k + sector_bytes))
pieces_lie r k [] b h m = tt
pieces_lie r k (x ∷ rs) b h m =
    let lo = sector_bytes * k in
    let hi = sector_bytes * k + sector_bytes in
    let p = piece_of x b lo hi in
    let in-x = among p.from p.many x.from x.many (piece_from x b lo hi) (piece_to x b lo hi) in (
      record { piece = inl (subst (Lies (in_memory p)) (sym m.0) in-x); part = part_lies r k p h (piece_asked x b lo hi) },
      all_map (PieceOf r k rs) (PieceOf r k (x ∷ rs)) (λ q i. record { piece = inr i.piece; part = i.part })
          (pieces_of rs (b + x.many) lo hi) (pieces_lie r k rs (b + x.many) h m.1),
    )

status_lies : (r : Record) → Lies (area memory r.iopb 4) (status_bytes r)
status_lies r = among r.iopb 4 r.iopb 4 (omega arith) (omega arith)

-- moves of pieces, if each keeps to it
all_moves : (t : Touched) (v : Piece → Move) (P : Piece → Type 0) → ((p : Piece) → P p → KeepsTo t (v p)) → (ps : List Piece) → All P ps → All (KeepsTo t) (map v ps)
all_moves t v P f [] h = tt
all_moves t v P f (p ∷ ps) h = (f p h.0, all_moves t v P f ps h.1)

sector_keeps : (rd wr : Bool) (r : Record) (k : ℕ) → k < cond (rd || wr) r.count 1 → All (KeepsTo (touched_by rd wr r)) (sector_move_by rd wr r k)
sector_keeps true wr r k h =
    all_moves (by_read r) (λ p. copy (in_sector r k p) memory (in_memory p).from) (PieceOf r k (data_bytes r))
    (λ p i. record { written = (some_of_both (Lies (in_memory p)) (data_bytes r) (status_bytes r ∷ [])).1 (inl i.piece); read = (inl i.part, tt) })
    (pieces_at r k) (pieces_lie r k (data_bytes r) 0 h (data_memory r))
sector_keeps false true r k h =
    all_moves (by_write r) (λ p. copy (in_memory p) (disk r.unit) (in_sector r k p).from) (PieceOf r k (data_bytes r))
    (λ p i. record { written = inl i.part; read = (i.piece, tt) })
    (pieces_at r k) (pieces_lie r k (data_bytes r) 0 h (data_memory r))
sector_keeps false false r k h = tt

close_keeps : (rd wr : Bool) (d : Drives) (r : Record) → KeepsTo (touched_by rd wr r) (post memory r.iopb (closing d r))
unfolding closing
close_keeps true wr d r = record { written = (some_of_both (Lies (area memory r.iopb 4)) (data_bytes r) (status_bytes r ∷ [])).1 (inr (inl (status_lies r))); read = tt }
close_keeps false true d r = record { written = inr (inl (status_lies r)); read = tt }
close_keeps false false d r = record { written = inl (status_lies r); read = tt }

step_keeps : (d : Drives) (r : Record) → r.taken < steps_of r → All (KeepsTo (touched r)) (step_moves d r)
unfolding steps_of touched step_moves sector_move close_move
step_keeps d r h =
    all_append (KeepsTo (touched r)) (sector_move r r.taken) (cond (eqb (r.taken + 1) (steps_of r)) (close_move d r) [])
    (sector_keeps (reads r) (writes r) r r.taken h)
    (cond_both (eqb (r.taken + 1) (steps_of r)) (close_move d r) [] (All (KeepsTo (touched r))) (λ _. (close_keeps (reads r) (writes r) d r, tt)) (λ _. tt))

-- ---- steps

pub step_comm : (d : Drives) (r q : Record) (s : Store) → 0 < remaining r → 0 < remaining q → conflict r q ≡ false
    → step d r (step d q s) ≡ step d q (step d r s)
unfolding step conflict remaining
step_comm d r q s h k e =
    let n = or_parts (disturbs (touched r) (touched q)) (disturbs (touched q) (touched r)) e in
    moves_comm (step_moves d r) (step_moves d q) s
    (keeps_apart (touched r) (touched q) (step_moves d r) (step_moves d q) n.0 n.1 (step_keeps d r (omega arith)) (step_keeps d q (omega arith)))
