-- A sector written and read back is equal: the steps between leave each byte of it, since whole sectors are written and theirs is another.
-- And ranges that are disjoint lay each byte of the data in a place of its own, as far as they reach: past the whole sector, since number 9
-- was not given.
use mathlib.Core.Path.{◌≡◌, refl, sym, ◌∙◌}
use mathlib.Core.Logic.{◌≢◌, inl, inr}
use Prim.Native.Nat.{ℕ, ◌+◌, ◌-◌, ◌*◌, ◌<◌}
use native.Mathlib.Nat.{not-suc-le-zero}
use native.Mathlib.Omega.{arith}
use mathlib.Core.Bool.{Bool, cond}
use mathlib.Core.List.{List, [], ◌∷◌, ◌++◌}
use lib.ListN.{get_or}
use Rattle.meaning.specs.Drives.{Drives}
use Rattle.meaning.specs.Store.{disk}
use Rattle.meaning.specs.State.{State}
use Rattle.meaning.specs.Sectors.{sector_bytes}
use Rattle.meaning.specs.Ranges.{Range}
use Rattle.meaning.specs.Links.{bytes_in}
use Rattle.meaning.specs.Pieces.{byte_at}
use Rattle.meaning.specs.Touch.{data_bytes}
use Rattle.meaning.specs.Pick.{step_at}
use Rattle.meaning.specs.Conditions.{Within, SomeOf}
use Rattle.meaning.proofs.Means.{Means, holds, fails, means_lt}
use Rattle.meaning.proofs.Ranges.{no_memory}
use Rattle.meaning.proofs.Pieces.{data_plain}
use Rattle.promises.specs.StepMoves.{sector_of}
use Rattle.promises.specs.PickMoves.{command_at}
use Rattle.promises.specs.Taken.{steps_at, Along, Taken}
use Rattle.promises.specs.WrittenThenRead.{Spares, Disjoint, DisjointSuffices, PlainIsDisjoint, WrittenThenRead, ReadBackIfDisjoint}
use Rattle.promises.proofs.StepMoves.{data_in, same_unit, step_stays}
use Rattle.promises.proofs.PickMoves.{may_step, taken_moves_one}
use Rattle.promises.proofs.Taken.{Accepted, along_after}

-- a byte of sector k of unit u stays
sector_stays : (d : Drives) (u k : ℕ) (ps : List ℕ) (s : State)
    → Along d (Spares u k) ps s
    → (j : ℕ)
    → j < sector_bytes
    → get_or ((steps_at d ps s).store (disk u)) (sector_bytes * k + j) 0 ≡ get_or (s.store (disk u)) (sector_bytes * k + j) 0
unfolding step_at
sector_stays d u k [] s none j h = refl
sector_stays d u k (p ∷ ps) s none j h =
    sector_stays d u k ps (step_at d p s) none.1 j h
    ∙ step_stays d (command_at s p) s.store (disk u) (sector_bytes * k + j) (λ f. no_memory u f.1.0)
    (λ w. none.0 w.0 (sym (same_unit w.1.0), omega (arith, w.1.1)))
    (λ o. no_memory u o.1.0)

-- ---- ranges that are disjoint

-- byte v of the data lies in one of its ranges
byte_lies : (rs : List Range) (v : ℕ) → v < bytes_in rs → SomeOf (λ y. Within (byte_at rs v) y.from y.many) rs
byte_lies [] v h = absurd (not-suc-le-zero h)
byte_lies (x ∷ rs) v h = go (means_lt v x.many) (byte_lies rs (v - x.many))
  where
    go : {b : Bool} → Means (v < x.many) b → (v - x.many < bytes_in rs → SomeOf (λ y. Within (byte_at rs (v - x.many)) y.from y.many) rs)
        → SomeOf (λ y. Within (cond b (x.from + v) (byte_at rs (v - x.many))) y.from y.many) (x ∷ rs)
    go (holds l) rest = inl (omega arith, omega arith)
    go (fails n) rest = inr (rest (omega arith))

one_place : (rs : List Range) → Disjoint rs → (i j : ℕ) → i < j → j < bytes_in rs → byte_at rs j ≢ byte_at rs i
one_place [] d i j h l = absurd (not-suc-le-zero l)
one_place (x ∷ rs) d i j h l = go (means_lt i x.many) (means_lt j x.many) (one_place rs d.1 (i - x.many) (j - x.many)) (byte_lies rs (j - x.many))
  where
    go : {a b : Bool} → Means (i < x.many) a → Means (j < x.many) b
        → (i - x.many < j - x.many → j - x.many < bytes_in rs → byte_at rs (j - x.many) ≢ byte_at rs (i - x.many))
        → (j - x.many < bytes_in rs → SomeOf (λ y. Within (byte_at rs (j - x.many)) y.from y.many) rs)
        → cond b (x.from + j) (byte_at rs (j - x.many)) ≢ cond a (x.from + i) (byte_at rs (i - x.many))
    go (holds p) (holds q) rest lies e = omega arith
    go (holds p) (fails q) rest lies e = d.0 (byte_at rs (j - x.many)) (omega (arith, e), omega (arith, e)) (lies (omega arith))
    go (fails p) (holds q) rest lies e = p (omega arith)
    go (fails p) (fails q) rest lies e = rest (omega arith) (omega arith) e

pub disjoint_suffices : DisjointSuffices
disjoint_suffices d r s may t apart i j h l =
    let whole = (data_in d r s may t).whole in
    one_place (data_bytes r) apart (sector_bytes * r.taken + i) (sector_bytes * r.taken + j) (omega arith) (omega arith)

pub plain_is_disjoint : PlainIsDisjoint
plain_is_disjoint r e = rw (data_plain r e) ((λ a w none. none), tt)

-- ---- written and read back

module _ (d : Drives) (n : ℕ) (before : List ℕ) (w : ℕ) (between : List ℕ) (r : ℕ) (after : List ℕ) (s s' : State) (h : Taken d n (before ++ (w ∷ (between ++ (r ∷ after)))) s s') where
  abbrev s₁ : State
  s₁ = steps_at d before s

  abbrev s₂ : State
  s₂ = steps_at d between (step_at d w s₁)

  -- both picks are accepted
  from_w : Along d (Accepted d n) (w ∷ (between ++ (r ∷ after))) s₁
  from_w = along_after d (Accepted d n) before (w ∷ (between ++ (r ∷ after))) s h.accepted

  from_r : Along d (Accepted d n) (r ∷ after) s₂
  from_r = along_after d (Accepted d n) between (r ∷ after) (step_at d w s₁) from_w.1

pub written_then_read : WrittenThenRead
written_then_read d n before w between r after s s' h writes reads unit same spares apart once j k =
    let s₁ = steps_at d before s in
    let s₂ = steps_at d between (step_at d w s₁) in
    let written = (taken_moves_one d n w s₁ (from_w d n before w between r after s s' h).0).moved in
    let back = (taken_moves_one d n r s₂ (from_r d n before w between r after s s' h).0).moved in
    back.fetched reads j k (λ i l m. once j i l m) (apart j k)
    ∙ rw (unit, same) (sector_stays d (command_at s₁ w).unit (sector_of (command_at s₁ w)) between (step_at d w s₁) spares j k)
    ∙ written.kept writes j k

-- number 9 was not given for the read, or its pick would not have been accepted
pub read_back_if_disjoint : ReadBackIfDisjoint
read_back_if_disjoint d n before w between r after s s' h writes reads unit same spares apart disjoint =
    let s₂ = steps_at d between (step_at d w (steps_at d before s)) in
    let may = may_step d n r s₂ (from_r d n before w between r after s s' h).0 in
    written_then_read d n before w between r after s s' h writes reads unit same spares apart
    (disjoint_suffices d (command_at s₂ r) s₂.store may (inl reads) disjoint)
