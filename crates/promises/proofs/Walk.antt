-- The walk gives each number exactly when its table says: 1 and 2 by their tests, and then the verdict of the chain, which has one end.
use mathlib.Core.Path.{◌≡◌, refl, subst}
use mathlib.Core.Logic.{◌↔◌, ◌≢◌}
use Prim.Native.Nat.{ℕ, ◌%◌, ◌<◌}
use native.Mathlib.Omega.{arith}
use mathlib.Core.Bool.{Bool, true, false, cond}
use mathlib.Core.List.{List, [], ◌∷◌}
use Rattle.meaning.specs.Drives.{Drives}
use Rattle.meaning.specs.Store.{memory}
use Rattle.meaning.specs.State.{State}
use Rattle.meaning.specs.Code.{odd}
use Rattle.meaning.specs.Walk.{Chain, refused, accepted, chain_at, answered, walk_reply, WalkGives}
use Rattle.meaning.specs.Table.{◌⇒◌, Given}
use Rattle.meaning.specs.Conditions.{Odd}
use Rattle.meaning.proofs.Means.{Means, holds, fails, is_true, means_lt, means_eq}
use Rattle.meaning.proofs.Table.{row_first, one_given, none_given}
use Rattle.meaning.proofs.Conditions.{means_sizes}
use Rattle.promises.specs.WalkNumbers.{at_iopb, InTurn, walk_table, WalkExactlyWhen}
use Rattle.promises.proofs.Chain.{Verdict, chain, chain_verdict}

-- the chain has one end
in_turn_once : (m : List ℕ) (start : ℕ) {N M : ℕ} → InTurn m start N → InTurn m start M → N ≡ M
in_turn_once m start {N} {M} (k, c, g) (l, d, h) = go (means_lt k l) (means_lt l k)
  where
    go : {a b : Bool} → Means (k < l) a → Means (l < k) b → N ≡ M
    go (holds a) y = absurd (none_given (at_iopb m start k) N (d k a) g)
    go (fails n) (holds b) = absurd (none_given (at_iopb m start l) M (c l b) h)
    go (fails n) (fails p) =
        let same : l ≡ k = omega arith in
        one_given (at_iopb m start k) g (subst (λ j. Given (at_iopb m start j) M) same h)

-- the number of a chain, and its end
verdict_in_turn : (m : List ℕ) (d : Drives) (start : ℕ) (c : Chain) → Verdict m d start c → InTurn m start (answered c).number
verdict_in_turn m d start (refused N) v = v.1
verdict_in_turn m d start (accepted rs) v = (v.0, v.1.0, v.1.1)

-- the walk's number, the tests 1 and 2 first
first_two : (a b : Bool) (c : Chain)
    → (answered (cond a (refused 1) (cond b (refused 2) c))).number ≡ cond a 1 (cond b 2 (answered c).number)
first_two true b c = refl
first_two false true c = refl
first_two false false c = refl

module _ (d : Drives) (start : ℕ) (s : State) where
  number_exactly_when : (N : ℕ) → ((walk_reply d start s).number ≡ N) ↔ Given (walk_table d start s N) N
  unfolding walk_reply chain_at
  number_exactly_when N =
      rw first_two
      (row_first 1 (Odd start ⇒ 2 ∷ InTurn m start N ⇒ N ∷ []) (means_sizes d s)
      (row_first 2 (InTurn m start N ⇒ N ∷ []) (means_eq (start % 2) 1) in_turn not_2)
      (not_1 (odd start)))
    where
      m : List ℕ
      m = s.store memory

      last : ℕ
      last = (answered (chain m d start)).number

      turn : InTurn m start last
      turn = verdict_in_turn m d start (chain m d start) (chain_verdict m d start)

      in_turn : (last ≡ N) ↔ Given (InTurn m start N ⇒ N ∷ []) N
      in_turn = rw (is_true (means_eq N N) refl) ((λ e. rw (← e) turn), λ v. in_turn_once m start turn v)

      -- at an IOPB neither 1 nor 2 is given
      not_2 : last ≢ 2
      not_2 e = let v : InTurn m start 2 = rw e at turn in v.2.1.1.1.1

      not_1 : (b : Bool) → cond b 2 last ≢ 1
      not_1 true e = omega arith
      not_1 false e = let v : InTurn m start 1 = rw e at turn in v.2.1.1.1.1

pub walk_exactly_when : (N : ℕ) → WalkExactlyWhen N
unfolding WalkGives
walk_exactly_when N d start s w t' g = rw g.0 (number_exactly_when d start s N)
