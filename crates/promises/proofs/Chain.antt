-- What a chain comes to, from IOPB to IOPB: `follow` gives the verdict of the first IOPB where a case of the walk's table holds, and has
-- laid up the records of those before it.
use mathlib.Core.Path.{◌≡◌, refl}
use mathlib.Core.Logic.{◌≢◌, ⊎_elim}
use Prim.Native.Nat.{ℕ, zero, suc, ◌+◌, ◌%◌, ◌<◌}
use native.Mathlib.Nat.{not-suc-le-zero, le_of_suc-le-suc, eq-or-lt_of_le}
use native.Mathlib.Omega.{arith}
use mathlib.Core.Bool.{Bool, true, false, not, cond, or-false, not-not}
use mathlib.Core.List.{List, [], ◌∷◌, ◌++◌}
use lib.ListN.{length}
use lib.Dec.{eqb}
use Rattle.std.proofs.lemmas.List.Folds.{list_any-append}
use Rattle.meaning.specs.Drives.{Drives}
use Rattle.meaning.specs.declared.Record.{Record}
use Rattle.meaning.specs.Each.{some_of}
use Rattle.meaning.specs.Fields.{iopb_bytes, all_in, chen, next_address}
use Rattle.meaning.specs.Code.{copied_at, odd}
use Rattle.meaning.specs.State.{most_commands}
use Rattle.meaning.specs.Walk.{record_of, shares, goes_on, Chain, refused, accepted, follow}
use Rattle.meaning.specs.Table.{Given, NoneOf}
use Rattle.meaning.specs.Conditions.{Shares}
use Rattle.meaning.proofs.Means.{Means, holds, fails, when_true, when_false, means_iff, means_or, below_more, means_not-and, means_above, means_eq, means_other}
use Rattle.meaning.proofs.Ranges.{means_shares}
use Rattle.promises.specs.WalkNumbers.{walked_at, reached, OutOfMemory, SharesEarlier, Ends, at_iopb, Comes, InTurn}

-- what holds below k and at k holds up to k
pub up_to : (P : ℕ → Type 0) {k : ℕ} → ((j : ℕ) → j < k → P j) → P k → (j : ℕ) → j < suc k → P j
up_to P {k} below here j h = ⊎_elim (λ e. rw e here) (below j) (eq-or-lt_of_le (le_of_suc-le-suc h))

module _ (m : List ℕ) (d : Drives) (start : ℕ) where
  -- the k-th command's record, and the records of the first k
  abbrev pub record_at : ℕ → Record
  record_at k = walked_at d m (reached m start k)

  abbrev pub commands_to : ℕ → List Record
  commands_to zero = []
  commands_to (suc k) = commands_to k ++ record_at k ∷ []

  -- a test put to the records of the first k
  module _ (P : ℕ → Type 0) (p : Record → Bool) (means : (j : ℕ) → Means (P j) (p (record_at j))) where
    means_earlier : (k : ℕ) → Means ((j : ℕ) × (j < k) × P j) (some_of p (commands_to k))
    means_earlier zero = fails (λ h. not-suc-le-zero h.1)
    means_earlier (suc k) =
        rw list_any-append
        (means_iff (below_more P k) (means_or (means_earlier k) (rw or-false (means k))))

  -- the three tests at the k-th IOPB
  means_out : (k : ℕ) → Means (OutOfMemory m start k) (not (all_in m (reached m start k)))
  means_out k = means_above (reached m start k + iopb_bytes) (length m)

  means_shares_earlier : (k : ℕ)
      → Means (SharesEarlier m start k) (some_of (λ r. shares r.iopb (reached m start k)) (commands_to k))
  unfolding record_of
  means_shares_earlier k =
      means_earlier (λ j. Shares (reached m start j) (reached m start k))
      (λ r. shares r.iopb (reached m start k))
      (λ j. means_shares (reached m start j) (reached m start k))
      k

  means_ends : (k : ℕ) → Means (Ends m start k) (not (goes_on (copied_at m (reached m start k))))
  unfolding copied_at
  means_ends k =
      let set = chen m (reached m start k) in
      let next = next_address m (reached m start k) in
      means_not-and (eqb set 1) (not (odd next)) (means_other set 1) (rw not-not (means_eq (next % 2) 1))

  -- what a chain comes to, and why
  abbrev pub Verdict : Chain → Type 0
  Verdict (refused N) = (N ≢ 0) × InTurn m start N
  Verdict (accepted rs) =
      (k : ℕ) × (Comes m start k × Given (at_iopb m start k) 0) × (rs ≡ commands_to (suc k))

  -- the k-th IOPB gives the verdict, or the rest of the chain does
  at_verdict : (k : ℕ) {a b : Bool} (g : Bool) (rest : Chain)
      → Means (OutOfMemory m start k) a
      → Means (SharesEarlier m start k) b
      → Means (Ends m start k) (not g)
      → k < most_commands
      → Comes m start k
      → (NoneOf (at_iopb m start k) → Verdict rest)
      → Verdict (cond a (refused 3) (cond b (refused 4) (cond g rest (accepted (commands_to (suc k))))))
  at_verdict k g rest (holds o) y z l c on = (omega arith, (k, c, (omega arith, o)))
  at_verdict k g rest (fails n) (holds s) z l c on = (omega arith, (k, c, (omega arith, (n, s))))
  at_verdict k true rest (fails n) (fails p) z l c on = on (omega arith, (n, (p, (when_false z refl, tt))))
  at_verdict k false rest (fails n) (fails p) z l c on = (k, (c, (omega arith, (n, (p, when_true z refl)))), refl)

  follow_verdict : (left k : ℕ)
      → k + left ≡ most_commands
      → Comes m start k
      → Verdict (follow left m d (commands_to k) (reached m start k))
  unfolding follow copied_at
  follow_verdict zero k e c = (omega arith, (k, c, omega arith))
  follow_verdict (suc left) k e c =
      at_verdict k (goes_on (copied_at m (reached m start k))) (follow left m d (commands_to (suc k)) (reached m start (suc k)))
      (means_out k) (means_shares_earlier k) (means_ends k) (omega arith) c
      (λ none. follow_verdict left (suc k) (omega arith) (up_to (λ j. NoneOf (at_iopb m start j)) c none))

  -- from the first IOPB on
  abbrev pub chain : Chain
  chain = follow most_commands m d [] start

  pub chain_verdict : Verdict chain
  chain_verdict = follow_verdict most_commands 0 refl (λ j h. absurd (not-suc-le-zero h))
