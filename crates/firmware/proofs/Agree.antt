-- Records behind the 32nd change nothing that a call looks at, and stay where they are (board's laws on a longer table). A table that
-- is too short has none.
use mathlib.Core.Path.{◌≡◌, refl, sym, ap, ◌∙◌, subst}
use Prim.Native.Nat.{ℕ, ◌≤◌, ◌<◌}
use native.Mathlib.Omega.{arith}
use mathlib.Core.Bool.{Bool, true, false, cond}
use mathlib.Core.List.{List, [], ◌∷◌, ◌++◌, append-nil, append_assoc}
use lib.ListN.{length, drop, length-append, drop_of_length-le, take-append-drop}
use lib.Dec.{eqb}
use lib.Seq.{length-take-le, drop-append-le}
use borrow.Author.Tests.{eqb-true}
use Rattle.meaning.specs.Drives.{Drives}
use Rattle.meaning.specs.declared.Record.{Record}
use Rattle.meaning.specs.declared.Walked.{Walked}
use Rattle.meaning.specs.declared.Ran.{Ran}
use Rattle.meaning.specs.Store.{memory}
use Rattle.meaning.specs.State.{State, most_commands}
use Rattle.meaning.specs.Code.{odd}
use Rattle.meaning.specs.Walk.{Chain, refused, accepted, follow, chain_at, filled, answered, walk_reply, walk_leaves, WalkGives}
use Rattle.meaning.specs.Pick.{pick_number, step_at, picked, PickGives}
use Rattle.meaning.specs.Run.{Tally, at_start, one_pick, picks_from, by_picks, as_written, all_finished, run_number, ran_to, run_reply, RunGives}
use Rattle.meaning.proofs.Means.{Means, holds, fails, means_lt}
use Rattle.meaning.proofs.Numbers.{full_table, run_passed, most_32}
use Rattle.meaning.proofs.Walks.{chain_most}
use Rattle.tables.proofs.Longer.{longer, behind, run_longer, pick_longer, by_picks_long, as_written_long, by_picks_longer, as_written_longer, finished_longer}
use Rattle.firmware.specs.Agree.{front_of, rest_of, before, TwoFormsAgree}

-- ---- a state is its front before its rest

whole : (s : State) → before (front_of s) (rest_of s) ≡ s
whole s = λ j. record { table = take-append-drop most_commands s.table j; store = s.store }

-- what holds behind a table that is long enough, and behind no records, holds of every front
by_front : (P : State → List Record → Type 0) → ((s : State) → P s []) → ((s : State) (rest : List Record) → most_commands ≤ length s.table → P s rest) → (s : State) → P (front_of s) (rest_of s)
by_front P none some s = go (means_lt (length s.table) most_commands)
  where
    go : {b : Bool} → Means (length s.table < most_commands) b → P (front_of s) (rest_of s)
    go (holds h) = subst (P (front_of s)) (sym (drop_of_length-le s.table {i = most_commands} (omega arith))) (none (front_of s))
    go (fails h) = some (front_of s) (rest_of s) (let e = length-take-le most_commands s.table (omega arith) in omega arith)

alone : (s : State) → before s [] ≡ s
alone s = λ j. record { table = append-nil s.table j; store = s.store }

-- ---- the walk

module _ (d : Drives) (start : ℕ) where
  abbrev WalksBehind : State → List Record → Type 0
  WalksBehind s rest = (w : Walked) (t' : List Record) → WalkGives d start s w t' → WalkGives d start (before s rest) w (t' ++ rest)

  chain_behind : (s : State) (rest : List Record) → most_commands ≤ length s.table → chain_at d start (before s rest) ≡ chain_at d start s
  unfolding chain_at
  chain_behind s rest full =
      ap (λ (b : Bool). cond b (refused 1) (cond (odd start) (refused 2) (follow most_commands (s.store memory) d [] start)))
      (full_table d (before s rest) (omega (arith, length-append s.table rest)) ∙ sym (full_table d s full))

  filled_behind : (c : Chain) (t rest : List Record) → ((rs : List Record) → c ≡ accepted rs → length rs ≤ length t) → filled c (t ++ rest) ≡ filled c t ++ rest
  filled_behind (refused k) t rest h = refl
  filled_behind (accepted rs) t rest h = ap (rs ++◌) (drop-append-le (length rs) t rest (h rs refl)) ∙ sym (append_assoc rs (drop (length rs) t) rest)

  walks_behind : (s : State) (rest : List Record) → most_commands ≤ length s.table → WalksBehind s rest
  unfolding WalkGives walk_reply walk_leaves
  walks_behind s rest full w t' g =
      let e = chain_behind s rest full in
      let fits : (rs : List Record) → chain_at d start s ≡ accepted rs → length rs ≤ length s.table = λ rs c. let m = chain_most d start s rs c in omega arith in
      (g.0 ∙ ap answered (sym e), ap (◌++ rest) g.1 ∙ sym (filled_behind (chain_at d start s) s.table rest fits) ∙ ap (λ (c : Chain). filled c (s.table ++ rest)) (sym e))

  walks_alone : (s : State) → WalksBehind s []
  walks_alone s w t' g = subst (λ (x : State). WalkGives d start x w (t' ++ [])) (sym (alone s)) (subst (WalkGives d start s w) (sym (append-nil t')) g)

-- ---- a pick is a run of one

one_picked : (d : Drives) (n p : ℕ) (s : State) → (by_picks d n (p ∷ []) s).state ≡ picked d n p s
unfolding by_picks picks_from one_pick picked
one_picked d n p s = go (eqb (pick_number d n p s) 0)
  where
    go : (b : Bool) → (cond {A = Tally} b (record { steps = 1; refused = 0; state = step_at d p s }) (record { steps = 0; refused = 1; state = s })).state ≡ cond b (step_at d p s) s
    go true = refl
    go false = refl

module _ (d : Drives) (n p : ℕ) where
  abbrev PicksBehind : State → List Record → Type 0
  PicksBehind s rest = (k : ℕ) (s' : State) → PickGives d n p s k s' → PickGives d n p (before s rest) k (before s' rest)

  picks_behind : (s : State) (rest : List Record) → most_commands ≤ length s.table → PicksBehind s rest
  unfolding PickGives
  picks_behind s rest full k s' g = (
    g.0 ∙ sym (pick_longer d n s rest full p),
    ap (λ (x : State). before x rest) (g.1 ∙ sym (one_picked d n p s)) ∙ sym (ap (λ (y : Tally). y.state) (by_picks_longer d n (p ∷ []) s rest full)) ∙ one_picked d n p (before s rest),
  )

  picks_alone : (s : State) → PicksBehind s []
  picks_alone s k s' g = subst (λ (x : State). PickGives d n p x k (before s' [])) (sym (alone s)) (subst (PickGives d n p s k) (sym (alone s')) g)

-- ---- a run that leaves a table as long as it was, and changes nothing of records behind

module _ (d : Drives) (n : ℕ) (go : State → Tally) (long : (s : State) → length (go s).state.table ≡ length s.table)
    (behind-it : (s : State) (rest : List Record) → most_commands ≤ length s.table → n ≤ most_commands → go (longer s rest) ≡ behind (go s) rest) where
  abbrev RunsBehind : State → List Record → Type 0
  RunsBehind s rest = (r : Ran) (s' : State) → RunGives d n go s r s' → RunGives d n go (before s rest) r (before s' rest)

  module _ (s : State) (rest : List Record) (full : most_commands ≤ length s.table) where
    few : eqb (run_number d n s) 0 ≡ true → n ≤ most_commands
    few e = most_32 d n s (run_passed d n s (eqb-true (run_number d n s) 0 e))

    to_behind : ran_to d n go (longer s rest) ≡ behind (ran_to d n go s) rest
    unfolding ran_to
    to_behind = ap (λ (k : ℕ). cond (eqb k 0) (go (longer s rest)) (at_start (longer s rest))) (run_longer d n s rest full) ∙ by (eqb (run_number d n s) 0) refl
      where
        by : (b : Bool) → eqb (run_number d n s) 0 ≡ b → cond b (go (longer s rest)) (at_start (longer s rest)) ≡ behind (cond b (go s) (at_start s)) rest
        by true e = behind-it s rest full (few e)
        by false e = refl

    -- whether all are finished is asked of the same records
    finished_behind : (t : List Record) → n ≤ most_commands → length t ≡ length s.table → all_finished (t ++ rest) n ≡ all_finished t n
    finished_behind t h long = finished_longer t rest n (omega arith)

    ended_long : length (ran_to d n go s).state.table ≡ length s.table
    unfolding ran_to
    ended_long = by (eqb (run_number d n s) 0)
      where
        by : (b : Bool) → length (cond b (go s) (at_start s)).state.table ≡ length s.table
        by true = long s
        by false = refl

    reply_behind : run_reply d n go (longer s rest) ≡ run_reply d n go s
    unfolding run_reply
    reply_behind =
        let number = run_longer d n s rest full in
        let y = ran_to d n go s in
        (λ j. record {
          steps = (to_behind j).steps;
          refused = (to_behind j).refused;
          number = number j;
          finished = cond (eqb (number j) 0) (all_finished (to_behind j).state.table n) false;
        })
        ∙ ap (λ (b : Bool). record { steps = y.steps; refused = y.refused; number = run_number d n s; finished = b }) (by (eqb (run_number d n s) 0) refl)
      where
        by : (b : Bool) → eqb (run_number d n s) 0 ≡ b → cond b (all_finished ((ran_to d n go s).state.table ++ rest) n) false ≡ cond b (all_finished (ran_to d n go s).state.table n) false
        by true e = finished_behind (ran_to d n go s).state.table (few e) ended_long
        by false e = refl

    runs_behind : RunsBehind s rest
    unfolding RunGives
    runs_behind r s' g = (g.0 ∙ sym reply_behind, ap (λ (x : State). before x rest) g.1 ∙ sym (ap (λ (y : Tally). y.state) to_behind))

  runs_alone : (s : State) → RunsBehind s []
  runs_alone s r s' g = subst (λ (x : State). RunGives d n go x r (before s' [])) (sym (alone s)) (subst (RunGives d n go s r) (sym (alone s')) g)

-- ---- all four

pub two_forms_agree : TwoFormsAgree
two_forms_agree = record {
  walks = λ d start s w t' g. subst (λ (x : State). WalkGives d start x w (t' ++ rest_of s)) (whole s) (by_front (WalksBehind d start) (walks_alone d start) (walks_behind d start) s w t' g);
  picks = λ d n p s k s' g. subst (λ (x : State). PickGives d n p x k (before s' (rest_of s))) (whole s) (by_front (PicksBehind d n p) (picks_alone d n p) (picks_behind d n p) s k s' g);
  runs_by_picks = λ d n ps s r s' g.
      subst (λ (x : State). RunGives d n (by_picks d n ps) x r (before s' (rest_of s))) (whole s)
      (by_front (RunsBehind d n (by_picks d n ps) (by_picks_long d n ps) (picks_stay d n ps)) (runs_alone d n (by_picks d n ps) (by_picks_long d n ps) (picks_stay d n ps)) (runs_behind d n (by_picks d n ps) (by_picks_long d n ps) (picks_stay d n ps)) s r s' g);
  runs_as_written = λ d n b s r s' g.
      subst (λ (x : State). RunGives d n (as_written d n b) x r (before s' (rest_of s))) (whole s)
      (by_front (RunsBehind d n (as_written d n b) (as_written_long d n b) (written_stay d n b)) (runs_alone d n (as_written d n b) (as_written_long d n b) (written_stay d n b)) (runs_behind d n (as_written d n b) (as_written_long d n b) (written_stay d n b)) s r s' g);
}
  where
    picks_stay : (d : Drives) (n : ℕ) (ps : List ℕ) (s : State) (rest : List Record) → most_commands ≤ length s.table → n ≤ most_commands → by_picks d n ps (longer s rest) ≡ behind (by_picks d n ps s) rest
    picks_stay d n ps s rest full h = by_picks_longer d n ps s rest full

    written_stay : (d : Drives) (n b : ℕ) (s : State) (rest : List Record) → most_commands ≤ length s.table → n ≤ most_commands → as_written d n b (longer s rest) ≡ behind (as_written d n b s) rest
    written_stay d n b s rest full h = as_written_longer d n b s rest (omega arith)
