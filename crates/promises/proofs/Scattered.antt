-- What moves of pieces leave, byte by byte. Each piece holds some bytes of the data, in their order, and goes from one space to another;
-- later pieces hold later bytes. So a byte of the data comes to its place, unless a later byte has the same place, and nothing else changes.
-- And where byte o of a range is, among the ranges laid end to end.
use mathlib.Core.Path.{◌≡◌, refl, sym, ap, ◌∙◌}
use mathlib.Core.Logic.{◌≢◌, inl, inr}
use Prim.Native.Nat.{ℕ, zero, suc, ◌+◌, ◌-◌, ◌≤◌, ◌<◌}
use native.Mathlib.Nat.{zero-add, not-suc-le-zero, le_of_suc-le-suc}
use native.Mathlib.Omega.{arith}
use mathlib.Core.Bool.{false, true≢false}
use mathlib.Core.List.{List, [], ◌∷◌, map}
use lib.ListN.{length, get_or, take}
use borrow.Author.Tests.{lt-ltb, le-ltb}
use Rattle.std.proofs.lemmas.Bool.{cond-false, cond-true}
use Rattle.meaning.specs.Store.{Space, same, Store, area, Move, copy, move, moves}
use Rattle.meaning.specs.Links.{bytes_in}
use Rattle.meaning.specs.Pieces.{Piece, byte_at}
use Rattle.meaning.specs.Conditions.{Within, SomeOf}
use Rattle.meaning.proofs.All.{All, all_map, all_some}
use Rattle.meaning.proofs.Means.{is_true}
use Rattle.meaning.proofs.Spaces.{AsLong, length_moves}
use Rattle.meaning.proofs.Ranges.{means_same}
use Rattle.meaning.proofs.Pieces.{Holds, Sorted}
use Rattle.promises.specs.StepMoves.{ByteOfRange}
use Rattle.promises.proofs.Bytes.{copied_in, copied_out_lem}

-- from space Q to space P, piece p from `from p` to `to p`; byte v of the data comes from S v and goes to D v
module _ (Q P : Space) (other : same Q P ≡ false) (from to : Piece → ℕ) (S D : ℕ → ℕ) where
  abbrev pub moving : Piece → Move
  moving p = copy (area Q (from p) p.many) P (to p)

  pub record Straight (p : Piece) : Type 0 where
    pub source : (i : ℕ) → i < p.many → from p + i ≡ S (p.at + i)
    pub goal : (i : ℕ) → i < p.many → to p + i ≡ D (p.at + i)

  abbrev pub Fits : Store → Piece → Type 0
  Fits s p = 1 ≤ p.many → (to p + p.many ≤ length (s P)) × (from p + p.many ≤ length (s Q))

  -- bytes to which nothing goes
  pub all_out : (ps : List Piece) → All Straight ps → (s : Store) (q : Space) (x : ℕ)
      → ¬ ((q ≡ P) × ((v : ℕ) × SomeOf (Holds v) ps × (x ≡ D v))) → get_or (moves (map moving ps) s q) x 0 ≡ get_or (s q) x 0
  unfolding moves move
  all_out [] h s q x n = refl
  all_out (p ∷ ps) h s q x n =
      all_out ps h.1 (move (moving p) s) q x (λ k. n (k.0, (k.1.0, inr k.1.1, k.1.2)))
      ∙ copied_out_lem Q (from p) p.many P (to p) s q x (λ k. n (k.0, (p.at + (x - to p), inl (omega arith, omega (arith, k.1)), here k.1)))
    where
      here : Within x (to p) p.many → x ≡ D (p.at + (x - to p))
      here w = let e : to p + (x - to p) ≡ x = omega arith in sym e ∙ h.0.goal (x - to p) (omega arith)

  -- what they come from stays
  source_stays : (p : Piece) (s : Store) (x : ℕ) → get_or (move (moving p) s Q) x 0 ≡ get_or (s Q) x 0
  unfolding move
  source_stays p s x = copied_out_lem Q (from p) p.many P (to p) s Q x (λ k. true≢false (sym (is_true (means_same Q P) k.0) ∙ other))

  long_after : (p : Piece) (s : Store) → AsLong (move (moving p) s) s
  unfolding moves
  long_after p s = length_moves (moving p ∷ []) s

  later_fits : (p : Piece) (s : Store) (ps : List Piece) → All (Fits s) ps → All (Fits (move (moving p) s)) ps
  later_fits p s ps h = all_map (Fits s) (Fits (move (moving p) s)) (λ q f k. (rw (long_after p s P) (f k).0, rw (long_after p s Q) (f k).1)) ps h

  -- a later piece holds later bytes
  held_later : (n : ℕ) (ps : List Piece) → All (λ q. n ≤ q.at) ps → (w : ℕ) → SomeOf (Holds w) ps → n ≤ w
  held_later n ps h w k =
      let q = all_some _ (Holds w) ps h k in
      let a = q.1 in
      let b = q.2 in
      omega arith

  pub all_in : (ps : List Piece) → All Straight ps → Sorted ps → (s : Store) → All (Fits s) ps → (v : ℕ) → SomeOf (Holds v) ps
      → ((w : ℕ) → v < w → SomeOf (Holds w) ps → D w ≢ D v)
      → get_or (moves (map moving ps) s P) (D v) 0 ≡ get_or (s Q) (S v) 0
  unfolding moves move
  all_in [] h o s f v k later = absurd k
  all_in (p ∷ ps) h o s f v (inl k) later =
      let i = v - p.at in
      let less : i < p.many = omega arith in
      let at : p.at + i ≡ v = omega arith in
      let fits = f.0 (omega arith) in
      let goes : D v ≡ to p + i = ap D (sym at) ∙ sym (h.0.goal i less) in
      let comes : from p + i ≡ S v = h.0.source i less ∙ ap S at in
      all_out ps h.1 (move (moving p) s) P (D v) (λ z. later z.1.0 (omega (arith, held_later (p.at + p.many) ps o.0 z.1.0 z.1.1)) (inr z.1.1) (sym z.1.2))
      ∙ ap (λ (x : ℕ). get_or (move (moving p) s P) x 0) goes
      ∙ copied_in Q (from p) p.many P (to p) s fits.0 fits.1 i less
      ∙ ap (λ (x : ℕ). get_or (s Q) x 0) comes
  all_in (p ∷ ps) h o s f v (inr k) later =
      all_in ps h.1 o.1 (move (moving p) s) (later_fits p s ps f.1) v k (λ w l m. later w l (inr m)) ∙ source_stays p s (S v)

-- ---- byte by byte of the ranges themselves

pub byte_of_range : ByteOfRange
byte_of_range [] k o h l = absurd (not-suc-le-zero h)
byte_of_range (x ∷ rs) zero o h l = ap (byte_at (x ∷ rs)) (zero-add o) ∙ cond-true _ _ _ (lt-ltb o x.many l)
byte_of_range (x ∷ rs) (suc k) o h l =
    let at : x.many + bytes_in (take k rs) + o - x.many ≡ bytes_in (take k rs) + o = omega arith in
    cond-false _ _ _ (le-ltb (x.many + bytes_in (take k rs) + o) x.many (omega arith)) ∙ ap (byte_at rs) at ∙ byte_of_range rs k o (le_of_suc-le-suc h) l
