-- A step byte by byte: first its sector moves, then the close is laid over. What each of the two leaves alone needs no bound; what it brings
-- lies in memory and on the disk where numbers 1, 9 and 7 do not refuse the step.
use mathlib.Core.Path.{◌≡◌, refl, sym, ap, ◌∙◌}
use mathlib.Core.Logic.{◌≢◌, ◌⊎◌, inl, inr}
use Prim.Native.Nat.{ℕ, ◌+◌, ◌-◌, ◌*◌, ◌≤◌, ◌<◌}
use native.Mathlib.Omega.{arith}
use mathlib.Core.Bool.{Bool, true, cond, true≢false}
use mathlib.Core.List.{List, [], ◌∷◌, map}
use lib.ListN.{length, get_or}
use lib.Seq.{ext_get_or}
use lib.Dec.{eqb}
use Rattle.meaning.specs.Drives.{Drives}
use Rattle.meaning.specs.declared.Record.{Record}
use Rattle.meaning.specs.Store.{Space, memory, disk, Store, post, move, moves}
use Rattle.meaning.specs.Sectors.{sector_bytes}
use Rattle.meaning.specs.Links.{bytes_in}
use Rattle.meaning.specs.Pieces.{Piece, byte_at}
use Rattle.meaning.specs.Command.{steps_of, transfers}
use Rattle.meaning.specs.Touch.{data_bytes}
use Rattle.meaning.specs.Step.{pieces_at, in_sector, sector_move_by, sector_move, closing, close_move, step_moves, step}
use Rattle.meaning.specs.Conditions.{Absent, Reads, Writes, SomeOf}
use Rattle.meaning.proofs.All.{All, all_map, all_both}
use Rattle.meaning.proofs.Means.{Means, holds, fails, is_true, is_false, means_eq}
use Rattle.meaning.proofs.Spaces.{moves_append, length_moves}
use Rattle.meaning.proofs.Ranges.{no_memory}
use Rattle.meaning.proofs.Conditions.{means_images, image_size, not_both, means_reads, means_writes, means_transfers, means_bad_record, Inside, Good, good}
use Rattle.meaning.proofs.Pieces.{Holds, asked_held, held_asked, pieces_at_lem, pieces_asked, pieces_inside, in_list_order}
use Rattle.meaning.proofs.Still.{step_keeps_lengths}
use Rattle.promises.specs.StepMoves.{MayStep, own_disk, on_image, in_memory, Last, Fetched, Kept, Posted, StepMovesOne}
use Rattle.promises.proofs.Bytes.{put_in, put_out}
use Rattle.promises.proofs.Scattered.{Straight, moving, all_out, all_in}

-- ---- the sector, of any record

-- its bytes lie in memory and on the disk of its unit
pub record DataIn (r : Record) (s : Store) : Type 0 where
  pub whole : sector_bytes * r.taken + sector_bytes ≤ bytes_in (data_bytes r)
  pub bytes : All (Inside (length (s memory))) (data_bytes r)
  pub image : on_image r + sector_bytes ≤ length (s (own_disk r))

record SectorMoved (r : Record) (s s' : Store) : Type 0 where
  fetched : Reads r → DataIn r s → (j : ℕ) → j < sector_bytes → ((i : ℕ) → j < i → i < sector_bytes → in_memory r i ≢ in_memory r j)
      → get_or (s' memory) (in_memory r j) 0 ≡ get_or (s (own_disk r)) (on_image r + j) 0
  kept : Writes r → DataIn r s → (j : ℕ) → j < sector_bytes → get_or (s' (own_disk r)) (on_image r + j) 0 ≡ get_or (s memory) (in_memory r j) 0
  stays : (p : Space) (x : ℕ) → ¬ Fetched r p x → ¬ Kept r p x → get_or (s' p) x 0 ≡ get_or (s p) x 0

-- the pieces of its sector, of which byte v of the data is one of those from lo up to hi
module _ (r : Record) where
  abbrev lo : ℕ
  lo = sector_bytes * r.taken

  abbrev hi : ℕ
  hi = lo + sector_bytes

  abbrev ps : List Piece
  ps = pieces_at r r.taken

  abbrev on_disk_place : Piece → ℕ
  on_disk_place p = (in_sector r r.taken p).from

  abbrev in_memory_place : Piece → ℕ
  in_memory_place p = p.from

  -- where byte v of the data is, on the disk and in memory
  abbrev disk_at : ℕ → ℕ
  disk_at v = on_image r + (v - lo)

  abbrev memory_at : ℕ → ℕ
  memory_at v = byte_at (data_bytes r) v

  abbrev Laid : Piece → Type 0
  Laid p = ((i : ℕ) → i < p.many → p.from + i ≡ byte_at (data_bytes r) (p.at + i - 0)) × (1 ≤ p.many → (lo ≤ p.at) × (p.at + p.many ≤ hi))

  all_laid : All Laid ps
  all_laid = all_both _ _ ps (pieces_at_lem lo hi (data_bytes r) 0) (pieces_asked lo hi (data_bytes r) 0)

  disk_straight : (p : Piece) → Laid p → (i : ℕ) → i < p.many → on_disk_place p + i ≡ disk_at (p.at + i)
  disk_straight p h i l = let q = (h.1 (omega arith)).0 in omega arith

  memory_straight : (p : Piece) → Laid p → (i : ℕ) → i < p.many → in_memory_place p + i ≡ memory_at (p.at + i)
  memory_straight p h i l = h.0 i l ∙ ap (byte_at (data_bytes r)) (omega arith)

  reading : All (Straight (own_disk r) memory refl on_disk_place in_memory_place disk_at memory_at) ps
  reading = all_map Laid _ (λ p h. record { source = disk_straight p h; goal = memory_straight p h }) ps all_laid

  writing : All (Straight memory (own_disk r) refl in_memory_place on_disk_place memory_at disk_at) ps
  writing = all_map Laid _ (λ p h. record { source = memory_straight p h; goal = disk_straight p h }) ps all_laid

  -- byte j of the sector
  byte_held : (s : Store) → DataIn r s → (j : ℕ) → j < sector_bytes → SomeOf (Holds (lo + j)) ps
  byte_held s d j h = asked_held lo hi (data_bytes r) 0 (lo + j) (omega arith) (omega arith) (omega arith) (let w = d.whole in omega arith)

  disk_byte : (j : ℕ) → disk_at (lo + j) ≡ on_image r + j
  disk_byte j = omega arith

  of_held : (v : ℕ) → SomeOf (Holds v) ps → (lo ≤ v) × (v < hi)
  of_held v k = held_asked lo hi (data_bytes r) 0 v k

  memory_byte : (v : ℕ) → lo ≤ v → memory_at v ≡ in_memory r (v - lo)
  memory_byte v h = ap (byte_at (data_bytes r)) (omega arith)

  inside_both : (s : Store) → DataIn r s → All (λ p. (p.from + p.many ≤ length (s memory)) × (1 ≤ p.many → on_disk_place p + p.many ≤ length (s (own_disk r)))) ps
  inside_both s d =
      all_map (λ p. (p.from + p.many ≤ length (s memory)) × (1 ≤ p.many → (lo ≤ p.at) × (p.at + p.many ≤ hi))) _
      (λ p h. (h.0, λ k. let q = h.1 k in let w = d.image in omega (arith, q.0, q.1))) ps
      (all_both _ _ ps (pieces_inside lo hi (length (s memory)) (data_bytes r) 0 d.bytes) (pieces_asked lo hi (data_bytes r) 0))

  fetches : (s : Store) → DataIn r s → (j : ℕ) → j < sector_bytes → ((i : ℕ) → j < i → i < sector_bytes → in_memory r i ≢ in_memory r j)
      → get_or (moves (map (moving (own_disk r) memory refl on_disk_place in_memory_place disk_at memory_at) ps) s memory) (in_memory r j) 0 ≡ get_or (s (own_disk r)) (on_image r + j) 0
  fetches s d j h later =
      all_in (own_disk r) memory refl on_disk_place in_memory_place disk_at memory_at ps reading (in_list_order r r.taken) s
      (all_map _ _ (λ p f k. (f.0, f.1 k)) ps (inside_both s d)) (lo + j) (byte_held s d j h)
      (λ w l k e. let q = of_held w k in later (w - lo) (omega arith) (omega (arith, q.1)) (sym (memory_byte w q.0) ∙ e))
      ∙ ap (λ (x : ℕ). get_or (s (own_disk r)) x 0) (disk_byte j)

  keeps : (s : Store) → DataIn r s → (j : ℕ) → j < sector_bytes
      → get_or (moves (map (moving memory (own_disk r) refl in_memory_place on_disk_place memory_at disk_at) ps) s (own_disk r)) (on_image r + j) 0 ≡ get_or (s memory) (in_memory r j) 0
  keeps s d j h =
      ap (λ (x : ℕ). get_or (moves (map (moving memory (own_disk r) refl in_memory_place on_disk_place memory_at disk_at) ps) s (own_disk r)) x 0) (sym (disk_byte j))
      ∙ all_in memory (own_disk r) refl in_memory_place on_disk_place memory_at disk_at ps writing (in_list_order r r.taken) s
      (all_map _ _ (λ p f k. (f.1 k, f.0)) ps (inside_both s d)) (lo + j) (byte_held s d j h)
      (λ w l k e. let q = of_held w k in omega (arith, e, q.0))

  sector_moved : (s : Store) → SectorMoved r s (moves (sector_move r r.taken) s)
  unfolding sector_move moves
  sector_moved s = go (means_reads r) (means_writes r)
    where
      go : {a b : Bool} → Means (Reads r) a → Means (Writes r) b → SectorMoved r s (moves (sector_move_by a b r r.taken) s)
      go (holds y) z =
          record {
            fetched = λ _ d. fetches s d;
            kept = λ q. absurd (not_both r y q);
            stays = λ p x n _.
                all_out (own_disk r) memory refl on_disk_place in_memory_place disk_at memory_at ps reading s p x
                (λ h. let q = of_held h.1.0 h.1.1 in n (y, (h.0, (h.1.0 - lo, omega (arith, q.0, q.1), h.1.2 ∙ memory_byte h.1.0 q.0))));
          }
      go (fails n) (holds z) =
          record {
            fetched = λ y. absurd (n y);
            kept = λ _ d. keeps s d;
            stays = λ p x _ k.
                all_out memory (own_disk r) refl in_memory_place on_disk_place memory_at disk_at ps writing s p x
                (λ h. let q = of_held h.1.0 h.1.1 in k (z, (h.0, (omega (arith, h.1.2, q.0, q.1), omega (arith, h.1.2, q.0, q.1)))));
          }
      go (fails n) (fails o) =
          record {
            fetched = λ y. absurd (n y);
            kept = λ z. absurd (o z);
            stays = λ _ _ _ _. refl;
          }

-- ---- the close, of any record

record Closed (d : Drives) (r : Record) (s s' : Store) : Type 0 where
  posted : Last r → r.iopb + 4 ≤ length (s memory) → (j : ℕ) → j < 4 → get_or (s' memory) (r.iopb + j) 0 ≡ get_or (closing d r) j 0
  stays : (p : Space) (x : ℕ) → ¬ Posted r p x → get_or (s' p) x 0 ≡ get_or (s p) x 0

closed : (d : Drives) (r : Record) (s : Store) → Closed d r s (moves (cond (eqb (r.taken + 1) (steps_of r)) (close_move d r) []) s)
unfolding close_move moves move
closed d r s = go (means_eq (r.taken + 1) (steps_of r))
  where
    go : {b : Bool} → Means (Last r) b → Closed d r s (moves (cond b (post memory r.iopb (closing d r) ∷ []) []) s)
    go (holds l) =
        record {
          posted = λ _ fits. put_in memory r.iopb (closing d r) s fits;
          stays = λ p x n. put_out memory r.iopb (closing d r) s p x (λ h. n (l, h));
        }
    go (fails n) = record { posted = λ l. absurd (n l); stays = λ _ _ _. refl }

-- ---- a step that may be taken

-- a disk is that of one unit
pub same_unit : {u v : ℕ} → disk u ≡ disk v → u ≡ v
same_unit e = cc

-- a transfer has as many steps as its count; every other command has one
transfer_steps : (r : Record) → Reads r ⊎ Writes r → steps_of r ≡ r.count
unfolding steps_of
transfer_steps r t = rw (is_true (means_transfers r) t)

other_steps : (r : Record) → ¬ (Reads r ⊎ Writes r) → steps_of r ≡ 1
unfolding steps_of
other_steps r n = rw (is_false (means_transfers r) n)

module _ (d : Drives) (r : Record) (s : Store) (may : MayStep d r s) where
  sound : Good d s r
  sound = good d s r (is_false (means_bad_record d s r) may.sound)

  -- what number 9 lets pass lies in memory and on the drive
  status_in : r.iopb + 4 ≤ length (s memory)
  status_in = let h = sound.placed in omega arith

  pub data_in : Reads r ⊎ Writes r → DataIn r s
  data_in t =
      let is : transfers r ≡ true = is_true (means_transfers r) t in
      let sectors = sound.sectors_in is in
      let left : ¬ (r.count ≤ r.taken) = rw (transfer_steps r t) at may.unfinished in
      let total = sound.bytes_whole is in
      let size = image_size d s (is_false (means_images d s) (λ w. may.sizes (inr w))) r.unit (sound.there is) in
      record { whole = omega arith; bytes = sound.bytes_in_lem is; image = omega arith }

  moves_or_closes : (Reads r ⊎ Writes r) ⊎ Last r
  moves_or_closes = go (means_transfers r)
    where
      go : {b : Bool} → Means (Reads r ⊎ Writes r) b → (Reads r ⊎ Writes r) ⊎ Last r
      go (holds t) = inl t
      go (fails n) = inr (omega (arith, other_steps r n, may.unfinished))

  -- nothing is written on an absent unit
  absent_unwritten : (u : ℕ) → Absent d u → (x : ℕ) → ¬ Kept r (disk u) x
  absent_unwritten u gone x k =
      let here = sound.there (is_true (means_transfers r) (inr k.0)) in
      true≢false (sym here ∙ ap (λ (v : ℕ). (d.on v).present) (sym (same_unit k.1.0)) ∙ gone)

-- ---- the two together

module _ (d : Drives) (r : Record) (s : Store) where
  between : Store
  between = moves (sector_move r r.taken) s

  first : SectorMoved r s between
  unfolding between
  first = sector_moved r s

  between_size : (p : Space) → length (between p) ≡ length (s p)
  unfolding between
  between_size = length_moves (sector_move r r.taken) s

  then_closed : Closed d r between (step d r s)
  unfolding step step_moves between
  then_closed = rw moves_append (closed d r between)

  -- what a step leaves alone needs no bound
  pub step_stays : (p : Space) (x : ℕ) → ¬ Fetched r p x → ¬ Kept r p x → ¬ Posted r p x → get_or (step d r s p) x 0 ≡ get_or (s p) x 0
  step_stays p x f k o = then_closed.stays p x o ∙ first.stays p x f k

  -- and so does a whole disk to which no byte of a write goes
  disk_stays : (u : ℕ) → ((x : ℕ) → ¬ Kept r (disk u) x) → step d r s (disk u) ≡ s (disk u)
  disk_stays u n =
      ext_get_or 0 (step d r s (disk u)) (s (disk u)) (step_keeps_lengths d r s (disk u))
      (λ x _. step_stays (disk u) x (λ f. no_memory u f.1.0) (n x) (λ o. no_memory u o.1.0))

pub step_moves_one : StepMovesOne
step_moves_one d r s may =
    let a = first d r s in
    let b = then_closed d r s in
    record {
      fetched = λ y j h later n. b.stays memory (in_memory r j) n ∙ a.fetched y (data_in d r s may (inl y)) j h later;
      kept = λ z j h. b.stays (own_disk r) (on_image r + j) (λ o. no_memory r.unit o.1.0) ∙ a.kept z (data_in d r s may (inr z)) j h;
      posted = λ l. b.posted l (rw (between_size d r s memory) (status_in d r s may));
      stays = step_stays d r s;
      sizes = step_keeps_lengths d r s;
      other_disks = λ u o. disk_stays d r s u (λ x k. o (same_unit k.1.0));
      absent_disks = λ u o. disk_stays d r s u (absent_unwritten d r s may u o);
      moves_or_closes = moves_or_closes d r s may;
    }
