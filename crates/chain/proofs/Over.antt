-- Records that are laid one by one over those of a table: after k of them it is the first k of the one over the rest of the other.
use mathlib.Core.Path.{◌≡◌, refl, ap}
use Prim.Native.Nat.{ℕ, zero, suc, ◌+◌, ◌≤◌, ◌<◌}
use native.Mathlib.Nat.{le_refl, not-suc-le-zero, le_of_suc-le-suc}
use native.Mathlib.Omega.{arith}
use native.Mathlib.Numerals.{add-one}
use mathlib.Core.List.{List, [], ◌∷◌, map}
use lib.ListN.{length, take, set, get_or, length-append, length-take, length-drop, length-map, get_or-map}
use Rattle.std.proofs.lemmas.List.{length-take-le, take-map, take-take}
use Rattle.meaning.specs.Drives.{Drives}
use Rattle.meaning.specs.declared.Record.{Record}
use Rattle.chain.specs.Records.{over, record_at, filled_at}

-- one record more; x is what `get_or` would give past the end
over_suc : (x : Record) (k : ℕ) (of to : List Record) → k < length of → k < length to → set (over k of to) k (get_or of k x) ≡ over (suc k) of to
over_suc x k [] to h g = absurd (not-suc-le-zero h)
over_suc x k (r ∷ of) [] h g = absurd (not-suc-le-zero g)
over_suc x zero (r ∷ of) (y ∷ to) h g = refl
over_suc x (suc k) (r ∷ of) (y ∷ to) h g = ap (r ∷◌) (over_suc x k of to (le_of_suc-le-suc h) (le_of_suc-le-suc g))

pub over_next : (x : Record) (k : ℕ) (of to : List Record) → k < length of → k < length to → set (over k of to) k (get_or of k x) ≡ over (k + 1) of to
over_next x k of to h g = rw add-one (over_suc x k of to h g)

-- the other table's length stays
pub length_over : (n : ℕ) (of to : List Record) → n ≤ length of → n ≤ length to → length (over n of to) ≡ length to
length_over n of to h g = simp (length-append, length-take, length-drop) (omega arith)

-- ---- the records of IOPBs

module _ (m : List ℕ) (d : Drives) (addresses : List ℕ) (t : List Record) where
  long : length (map (record_at m d) addresses) ≡ length addresses
  long = length-map addresses (record_at m d)

  pub filled_next : (k : ℕ) → k < length addresses → k < length t → set (filled_at m d k addresses t) k (record_at m d (get_or addresses k 0)) ≡ filled_at m d (k + 1) addresses t
  filled_next k h g =
      rw (← get_or-map (record_at m d) addresses k 0) (over_next (record_at m d 0) k (map (record_at m d) addresses) t (omega (arith, long)) g)

  -- those of the first k addresses, by these addresses alone
  pub filled_few : (k : ℕ) → k ≤ length addresses → filled_at m d (length (take k addresses)) (take k addresses) t ≡ filled_at m d k addresses t
  filled_few k h = simp (length-take-le k addresses h, take-map, take-take k k addresses (le_refl k))
