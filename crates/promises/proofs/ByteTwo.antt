-- Steps at two sets of drives that are the same but for the mark of the command's own unit: they leave the same bytes but for byte 2 of the
-- close, and where the marks are the same they leave the same store.
use mathlib.Core.Path.{◌≡◌, refl, ap}
use mathlib.Core.Logic.{◌≢◌}
use Prim.Native.Nat.{ℕ, zero, suc, ◌+◌}
use native.Mathlib.Omega.{arith}
use mathlib.Core.Bool.{Bool, true, false, cond}
use mathlib.Core.List.{List, [], ◌∷◌, ◌++◌}
use lib.ListN.{get_or, set}
use lib.Seq.{sets}
use lib.Dec.{eqb}
use Rattle.meaning.specs.declared.Record.{Record}
use Rattle.meaning.specs.Drives.{Drives}
use Rattle.meaning.specs.Store.{Space, memory, Store, put, Move, post, move, moves}
use Rattle.meaning.specs.Command.{steps_of}
use Rattle.meaning.specs.Step.{sector_move, closing_byte0, drive_status, closing, close_move, step_moves, step}
use Rattle.meaning.proofs.Means.{Means, holds, fails}
use Rattle.meaning.proofs.Overwrite.{others_same}
use Rattle.meaning.proofs.Ranges.{means_same}
use Rattle.meaning.proofs.Spaces.{moves_append}

module _ (d e : Drives) (r : Record) where
  pub closing_same : (d.on r.unit).protected ≡ (e.on r.unit).protected → closing d r ≡ closing e r
  unfolding closing
  closing_same h = ap (λ (b : Bool). closing_byte0 r ∷ r.code ∷ cond b 0x13 0x03 ∷ r.fitted ∷ []) h

  pub step_same : (s : Store) → (d.on r.unit).protected ≡ (e.on r.unit).protected → step d r s ≡ step e r s
  unfolding step step_moves close_move
  step_same s h = ap (λ (l : List ℕ). moves (sector_move r r.taken ++ cond (eqb (r.taken + 1) (steps_of r)) (post memory r.iopb l ∷ []) []) s) (closing_same h)

  pub closing_others : (j : ℕ) → j ≢ 2 → get_or (closing d r) j 0 ≡ get_or (closing e r) j 0
  unfolding closing
  closing_others zero n = refl
  closing_others (suc zero) n = refl
  closing_others (suc (suc zero)) n = absurd (n refl)
  closing_others (suc (suc (suc j))) n = refl

-- four bytes laid at i, of which the third is v or w
third_alone : (l : List ℕ) (i a b v w f x : ℕ) → x ≢ i + 2 → get_or (sets l i (a ∷ b ∷ v ∷ f ∷ [])) x 0 ≡ get_or (sets l i (a ∷ b ∷ w ∷ f ∷ [])) x 0
third_alone l i a b v w f x n = others_same (set (set l i a) (suc i) b) (suc (suc i)) (f ∷ []) v w x 0 (λ e. n (omega arith))

put_third : (u : Store) (p : Space) (i a b v w f x : ℕ) → ¬ ((p ≡ memory) × (x ≡ i + 2))
    → get_or (put memory i (a ∷ b ∷ v ∷ f ∷ []) u p) x 0 ≡ get_or (put memory i (a ∷ b ∷ w ∷ f ∷ []) u p) x 0
unfolding put
put_third u p i a b v w f x n = go (means_same p memory)
  where
    go : {z : Bool} → Means (p ≡ memory) z
        → get_or (cond z (sets (u p) i (a ∷ b ∷ v ∷ f ∷ [])) (u p)) x 0 ≡ get_or (cond z (sets (u p) i (a ∷ b ∷ w ∷ f ∷ [])) (u p)) x 0
    go (holds e) = third_alone (u p) i a b v w f x (λ y. n (e, y))
    go (fails _) = refl

pub step_but_third : (d e : Drives) (r : Record) (s : Store) (p : Space) (x : ℕ) → ¬ ((p ≡ memory) × (x ≡ r.iopb + 2))
    → get_or (step d r s p) x 0 ≡ get_or (step e r s p) x 0
unfolding step step_moves close_move closing moves move
step_but_third d e r s p x n =
    rw (moves_append (sector_move r r.taken) (closes d last) s, moves_append (sector_move r r.taken) (closes e last) s) (go last)
  where
    last : Bool
    last = eqb (r.taken + 1) (steps_of r)

    closes : Drives → Bool → List Move
    closes d b = cond b (close_move d r) []

    between : Store
    between = moves (sector_move r r.taken) s

    go : (b : Bool) → get_or (moves (closes d b) between p) x 0 ≡ get_or (moves (closes e b) between p) x 0
    go true = put_third between p r.iopb (closing_byte0 r) r.code (drive_status (d.on r.unit)) (drive_status (e.on r.unit)) r.fitted x n
    go false = refl
