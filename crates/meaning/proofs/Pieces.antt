-- Laws of ranges laid end to end: every byte that was asked for lies in a piece; a piece lies in its range and among the bytes that were asked
-- for, or it is empty; later pieces hold later bytes, each where the ranges have it; and the ranges of a command's data are all of memory.
use mathlib.Core.Path.{◌≡◌, refl, sym, ap, ◌∙◌}
use mathlib.Core.Logic.{◌≢◌, inl, inr}
use mathlib.Core.Bool.{Bool, true, false, not}
use Prim.Native.Nat.{ℕ, ◌+◌, ◌-◌, ◌*◌, ◌≤◌, ◌<◌}
use native.Mathlib.Decide.{dec_lt}
use native.Mathlib.Omega.{arith}
use mathlib.Core.List.{List, [], ◌∷◌, map}
use borrow.Author.Tests.{lt-ltb, le-ltb, eq-eqb, ne_eqb}
use Rattle.std.proofs.lemmas.Bool.{cond-false, cond-true}
use Rattle.meaning.specs.declared.Link.{Link}
use Rattle.meaning.specs.declared.Record.{Record}
use Rattle.meaning.specs.Sectors.{sector_bytes}
use Rattle.meaning.specs.Ranges.{Range, bytes}
use Rattle.meaning.specs.Links.{range_of, ranges_of, bytes_in}
use Rattle.meaning.specs.Pieces.{Piece, byte_at, before, piece_of, pieces_of}
use Rattle.meaning.specs.Command.{listed, links_of}
use Rattle.meaning.specs.Touch.{data_bytes}
use Rattle.meaning.specs.Step.{pieces_at}
use Rattle.meaning.specs.Conditions.{SomeOf}
use Rattle.meaning.proofs.All.{All, all_map, all_some}
use Rattle.meaning.proofs.Conditions.{Inside}

-- ---- every byte that was asked for

-- byte v of the data lies in a piece
abbrev pub Holds : ℕ → Piece → Type 0
Holds v p = (p.at ≤ v) × (v < p.at + p.many)

-- where a sector straddles ranges, no byte of it is left out
module _ (lo hi : ℕ) where
  pub asked_held : (rs : List Range) (b v : ℕ) → lo ≤ v → v < hi → b ≤ v → v < b + bytes_in rs → SomeOf (Holds v) (pieces_of rs b lo hi)
  asked_held [] b v l h m t = absurd (omega arith)
  asked_held (x ∷ rs) b v l h m t =
      elim (dec_lt v (b + x.many)) [
        | yes here ↦ inl (omega arith, omega arith)
        | no past ↦ inr (asked_held rs (b + x.many) v l h (omega arith) (omega arith))
      ]

-- ---- one piece

module _ (x : Range) (b lo hi : ℕ) where
  abbrev p : Piece
  p = piece_of x b lo hi

  -- it begins in its range, and ends there
  pub piece_from : x.from ≤ p.from
  piece_from = omega arith

  pub piece_to : p.from + p.many ≤ x.from + x.many
  piece_to = omega arith

  -- unless it is empty, it holds some of the bytes from lo to hi
  pub piece_asked : 1 ≤ p.many → (lo ≤ p.at) × (p.at + p.many ≤ hi)
  piece_asked h = (omega arith, omega arith)

-- ---- one piece after the other

-- later pieces hold later bytes
abbrev pub Sorted : List Piece → Type 0
Sorted [] = Unit {0}
Sorted (p ∷ ps) = All (λ q. p.at + p.many ≤ q.at) ps × Sorted ps

module _ (lo hi : ℕ) where
  -- they begin where their range does, or later
  begins : (rs : List Range) (b : ℕ) → All (λ p. b ≤ p.at) (pieces_of rs b lo hi)
  begins [] b = tt
  begins (x ∷ rs) b =
      (omega arith, all_map (λ p. b + x.many ≤ p.at) (λ p. b ≤ p.at) (λ p h. omega arith) (pieces_of rs (b + x.many) lo hi) (begins rs (b + x.many)))

  ends : (x : Range) (b : ℕ) → (piece_of x b lo hi).at + (piece_of x b lo hi).many ≤ b + x.many
  ends x b = omega arith

  pub pieces_sorted : (rs : List Range) (b : ℕ) → Sorted (pieces_of rs b lo hi)
  pieces_sorted [] b = tt
  pieces_sorted (x ∷ rs) b =
      let e = ends x b in (
        all_map (λ p. b + x.many ≤ p.at) (λ p. (piece_of x b lo hi).at + (piece_of x b lo hi).many ≤ p.at) (λ p h. omega arith) (pieces_of rs (b + x.many) lo hi) (begins rs (b + x.many)),
        pieces_sorted rs (b + x.many),
      )

  -- each where the ranges have it
  pub pieces_at_lem : (rs : List Range) (b : ℕ) → All (λ p. (i : ℕ) → i < p.many → p.from + i ≡ byte_at rs (p.at + i - b)) (pieces_of rs b lo hi)
  pieces_at_lem [] b = tt
  pieces_at_lem (x ∷ rs) b = ((λ i h. first i h), all-map_at (pieces_of rs (b + x.many) lo hi) (begins rs (b + x.many)) (pieces_at_lem rs (b + x.many)))
    where
      s₁ : ℕ
      s₁ = before x b lo

      first : (i : ℕ) → i < (piece_of x b lo hi).many → x.from + s₁ + i ≡ byte_at (x ∷ rs) (b + s₁ + i - b)
      first i h =
          let less : b + s₁ + i - b < x.many = omega arith in
          let at : x.from + s₁ + i ≡ x.from + (b + s₁ + i - b) = omega arith in
          at ∙ sym (cond-true _ _ _ (lt-ltb (b + s₁ + i - b) x.many less))

      all-map_at : (ps : List Piece) → All (λ p. b + x.many ≤ p.at) ps → All (λ p. (i : ℕ) → i < p.many → p.from + i ≡ byte_at rs (p.at + i - (b + x.many))) ps
          → All (λ p. (i : ℕ) → i < p.many → p.from + i ≡ byte_at (x ∷ rs) (p.at + i - b)) ps
      all-map_at [] u v = tt
      all-map_at (p ∷ ps) u v = (
        (λ i h.
            let past : x.many ≤ p.at + i - b = let z = u.0 in omega arith in
            let at : p.at + i - (b + x.many) ≡ p.at + i - b - x.many = omega arith in
            v.0 i h ∙ ap (byte_at rs) at ∙ sym (cond-false _ _ _ (le-ltb (p.at + i - b) x.many past))),
        all-map_at ps u.1 v.1,
      )

  pub pieces_asked : (rs : List Range) (b : ℕ) → All (λ p. 1 ≤ p.many → (lo ≤ p.at) × (p.at + p.many ≤ hi)) (pieces_of rs b lo hi)
  pieces_asked [] b = tt
  pieces_asked (x ∷ rs) b = (piece_asked x b lo hi, pieces_asked rs (b + x.many))

  -- they hold bytes from lo up to hi alone
  pub held_asked : (rs : List Range) (b v : ℕ) → SomeOf (Holds v) (pieces_of rs b lo hi) → (lo ≤ v) × (v < hi)
  held_asked rs b v k =
      let p = all_some _ (Holds v) (pieces_of rs b lo hi) (pieces_asked rs b) k in
      let h = p.2 in
      let q = p.1 (omega arith) in
      (omega (arith, q.0), omega (arith, q.1))

  pub pieces_inside : (n : ℕ) (rs : List Range) (b : ℕ) → All (Inside n) rs → All (λ p. p.from + p.many ≤ n) (pieces_of rs b lo hi)
  pieces_inside n [] b h = tt
  pieces_inside n (x ∷ rs) b h = (omega (arith, piece_to x b lo hi, h.0), pieces_inside n rs (b + x.many) h.1)

-- the pieces of a sector, those of the first range first: it fills its ranges in list order
pub in_list_order : (r : Record) (k : ℕ) → Sorted (pieces_at r k)
in_list_order r k = pieces_sorted (sector_bytes * k) (sector_bytes * k + sector_bytes) (data_bytes r) 0

-- ---- ranges of memory

abbrev pub OfMemory : Range → Type 0
OfMemory x = x ≡ bytes x.from x.many

links_memory : (xs : List Link) → All OfMemory (map range_of xs)
links_memory [] = tt
links_memory (x ∷ xs) = (refl, links_memory xs)

pub data_memory : (r : Record) → All OfMemory (data_bytes r)
data_memory r = go (listed r)
  where
    go : (b : Bool) → All OfMemory (ranges_of b r.address r.count (links_of r))
    go true = links_memory (links_of r)
    go false = (refl, tt)

-- ---- where the data is, by whether there is a list

pub data_plain : (r : Record) → r.ranges ≡ 0 → data_bytes r ≡ bytes r.address (sector_bytes * r.count) ∷ []
data_plain r e = cond-false _ _ _ (ap not (eq-eqb r.ranges 0 e))

pub data_listed : (r : Record) → r.ranges ≢ 0 → data_bytes r ≡ map range_of (links_of r)
data_listed r n = cond-true _ _ _ (ap not (ne_eqb r.ranges 0 n))
