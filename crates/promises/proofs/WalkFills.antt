-- What an accepted walk leaves in the table: the records of the IOPBs that it came to, and the rest as it was. The records are those
-- that `follow` has laid up, one for each IOPB.
use mathlib.Core.Path.{◌≡◌, refl, ◌∙◌}
use Prim.Native.Nat.{ℕ, zero, suc, ◌+◌, ◌-◌, ◌≤◌, ◌<◌}
use native.Mathlib.Nat.{not-suc-le-zero}
use native.Mathlib.Omega.{arith}
use mathlib.Core.Bool.{Bool, true, false, cond}
use mathlib.Core.List.{List, [], ◌∷◌, ◌++◌}
use lib.ListN.{length, get_or, drop, length-append, get_or-append}
use lib.Seq.{get_or_at, get_or-append-add, get_or-drop}
use Rattle.meaning.specs.Drives.{Drives}
use Rattle.meaning.specs.declared.Record.{Record}
use Rattle.meaning.specs.Store.{memory}
use Rattle.meaning.specs.State.{most_commands}
use Rattle.meaning.specs.Sizes.{sizes_wrong}
use Rattle.meaning.specs.Code.{odd}
use Rattle.meaning.specs.Walk.{Chain, refused, accepted, chain_at, answered, filled, walk_reply, walk_leaves, WalkGives}
use Rattle.meaning.specs.Command.{no_record}
use Rattle.meaning.proofs.Numbers.{sizes_long}
use Rattle.meaning.proofs.Walks.{table_length}
use Rattle.promises.specs.WalkNumbers.{Filled, WalkFills}
use Rattle.promises.proofs.Chain.{up_to, record_at, commands_to, Verdict, chain, chain_verdict}

-- a list in front of what is left of another
get_d_behind : {A : Type 0} (rs t : List A) (z : A) (j : ℕ) → length rs ≤ j → get_or (rs ++ drop (length rs) t) j z ≡ get_or t j z
get_d_behind rs t z j h =
    let e : length rs + (j - length rs) ≡ j = omega arith in
    rw (← e) (get_or-append-add rs (drop (length rs) t) (j - length rs) z ∙ get_or-drop (length rs) t (j - length rs) z)

module _ (m : List ℕ) (d : Drives) (start : ℕ) where
  length_commands : (k : ℕ) → length (commands_to m d start k) ≡ k
  length_commands zero = refl
  length_commands (suc k) =
      omega (arith, length_commands k, length-append (commands_to m d start k) (record_at m d start k ∷ []))

  get_d_commands : (k j : ℕ) → j < k → get_or (commands_to m d start k) j no_record ≡ record_at m d start j
  get_d_commands zero j h = absurd (not-suc-le-zero h)
  get_d_commands (suc k) j h =
      up_to (λ j. get_or (commands_to m d start (suc k)) j no_record ≡ record_at m d start j)
      (λ j l. get_or-append (commands_to m d start k) _ no_record j (rw length_commands l) ∙ get_d_commands k j l)
      (get_or_at (commands_to m d start k) _ [] no_record k (length_commands k))
      j h

  chain_filled : (t : List Record) (c : Chain)
      → most_commands ≤ length t
      → Verdict m d start c
      → (answered c).number ≡ 0
      → (k : ℕ) × Filled m d start t (answered c) (filled c t) k
  chain_filled t (refused N) l v e = absurd (v.0 e)
  chain_filled t (accepted rs) l (k, v, e) _ =
      let long : length rs ≡ suc k = rw e (length_commands (suc k)) in
      let few = v.1.0 in (
        k,
        record {
          comes = v.0;
          ends = v.1;
          commands = long;
          records = λ j h. get_or-append rs _ no_record j (omega arith) ∙ rw e (get_d_commands (suc k) j (omega arith));
          others = λ j h. get_d_behind rs t no_record j (omega arith);
          size = table_length rs t (omega arith);
        },
      )

  -- after the tests 1 and 2
  after_two : (t : List Record) (a b : Bool) (c : Chain)
      → (a ≡ false → most_commands ≤ length t)
      → Verdict m d start c
      → let x = cond a (refused 1) (cond b (refused 2) c) in (answered x).number ≡ 0 → (k : ℕ) × Filled m d start t (answered x) (filled x t) k
  after_two t true b c l v e = absurd (omega arith)
  after_two t false true c l v e = absurd (omega arith)
  after_two t false false c l v e = chain_filled t c (l refl) v e

pub walk_fills : WalkFills
unfolding WalkGives walk_reply walk_leaves chain_at
walk_fills d start s w t' g z =
    let m = s.store memory in
    rw (g.0, g.1)
    (after_two m d start s.table (sizes_wrong d s) (odd start) (chain m d start) (sizes_long d s) (chain_verdict m d start) (rw g.0 at z))
