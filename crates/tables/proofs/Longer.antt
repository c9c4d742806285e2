-- A table with more records behind it: a call that 1 and 9 let pass looks at its first records only, so its number is the same, and it
-- leaves the records behind alone. And a run leaves a table as long as it was.
use mathlib.Core.Path.{◌≡◌, refl, sym, ap, ap₂, ◌∙◌}
use Prim.Native.Nat.{ℕ, suc, ◌+◌, ◌-◌, ◌≤◌, ◌<◌, min}
use native.Mathlib.Omega.{arith}
use mathlib.Core.Bool.{Bool, true, false, cond}
use mathlib.Core.List.{List, [], ◌∷◌, ◌++◌, append_assoc}
use lib.ListN.{length, get_or, set, take, drop, length-set, length-append, get_or-append, take-append-drop}
use lib.Seq.{take-append-le, drop-append-le, set-append_left}
use lib.Dec.{leb, eqb}
use borrow.Author.Tests.{eqb-true}
use Rattle.meaning.specs.Drives.{Drives}
use Rattle.meaning.specs.declared.Record.{Record}
use Rattle.meaning.specs.Each.{some_of}
use Rattle.meaning.specs.Store.{Store}
use Rattle.meaning.specs.State.{State, most_commands}
use Rattle.meaning.specs.Sizes.{sizes_wrong}
use Rattle.meaning.specs.Command.{finished, remaining, no_record}
use Rattle.meaning.specs.Step.{step, stepped}
use Rattle.meaning.specs.Pick.{bad_record, spoiled, waits, place_number, pick_number, step_at}
use Rattle.meaning.specs.Run.{Tally, at_start, one_pick, picks_from, by_picks, steps_done, written, as_written, all_finished, run_number}
use Rattle.meaning.proofs.Means.{Means, holds, fails, means_lt}
use Rattle.meaning.proofs.Numbers.{full_table, pick_passed, place_free, most_32}
use Rattle.board.proofs.Picking.{no_place, over_most, by_records}

-- a state whose table has more records behind it, and what a run has come to with them
abbrev pub longer : State → List Record → State
longer s rest = record { table = s.table ++ rest; store = s.store }

abbrev pub behind : Tally → List Record → Tally
behind y rest = record { steps = y.steps; refused = y.refused; state = longer y.state rest }

-- ---- the numbers

module _ (d : Drives) (n : ℕ) (s : State) (rest : List Record) (full : most_commands ≤ length s.table) where
  sizes_longer : sizes_wrong d (longer s rest) ≡ sizes_wrong d s
  sizes_longer = full_table d (longer s rest) (omega (arith, length-append s.table rest)) ∙ sym (full_table d s full)

  front_longer : n ≤ most_commands → take n (s.table ++ rest) ≡ take n s.table
  front_longer h = take-append-le n s.table rest (omega arith)

  spoiled_longer : spoiled d n (longer s rest) ≡ spoiled d n s
  spoiled_longer = go (means_lt most_commands n)
    where
      go : {b : Bool} → Means (most_commands < n) b → spoiled d n (longer s rest) ≡ spoiled d n s
      go (holds h) = over_most d n (longer s rest) h ∙ sym (over_most d n s h)
      go (fails h) =
          by_records d n (longer s rest) (omega arith)
          ∙ ap (some_of (bad_record d s.store)) (front_longer (omega arith))
          ∙ sym (by_records d n s (omega arith))

  pub run_longer : run_number d n (longer s rest) ≡ run_number d n s
  unfolding run_number
  run_longer = λ j. cond (sizes_longer j) 1 (cond (spoiled_longer j) 9 0)

  at_longer : (p : ℕ) → p < most_commands → get_or (s.table ++ rest) p no_record ≡ get_or s.table p no_record
  at_longer p h = get_or-append s.table rest no_record p (omega arith)

  waits_longer : (p : ℕ) → p < most_commands → waits (s.table ++ rest) p ≡ waits s.table p
  unfolding waits
  waits_longer p h = rw (at_longer p h, take-append-le p s.table rest (omega arith)) refl

  place_longer : (p : ℕ) → n ≤ most_commands → place_number (s.table ++ rest) n p ≡ place_number s.table n p
  unfolding place_number
  place_longer p few = go (means_lt p n)
    where
      go : {b : Bool} → Means (p < n) b → place_number (s.table ++ rest) n p ≡ place_number s.table n p
      go (holds h) =
          let l : p < most_commands = omega arith in
          λ j. cond (leb n p) 8 (cond (finished (at_longer p l j)) 7 (cond (waits_longer p l j) 6 0))
      go (fails h) = no_place (s.table ++ rest) n p (omega arith) ∙ sym (no_place s.table n p (omega arith))

  pub pick_longer : (p : ℕ) → pick_number d n p (longer s rest) ≡ pick_number d n p s
  unfolding pick_number
  pick_longer p = go (means_lt most_commands n)
    where
      go : {b : Bool} → Means (most_commands < n) b → pick_number d n p (longer s rest) ≡ pick_number d n p s
      go (holds h) = rw (sizes_longer, over_most d n (longer s rest) h, over_most d n s h) refl
      go (fails h) = rw (sizes_longer, spoiled_longer, place_longer p (omega arith)) refl

-- ---- what is left

step_longer : (d : Drives) (p : ℕ) (s : State) (rest : List Record) → p < length s.table → step_at d p (longer s rest) ≡ longer (step_at d p s) rest
unfolding step_at
step_longer d p s rest h =
    let same = get_or-append s.table rest no_record p h in
    λ j.
    record {
      table = (ap (λ (r : Record). set (s.table ++ rest) p (stepped r)) same ∙ set-append_left s.table rest p (stepped (get_or s.table p no_record)) h) j;
      store = step d (same j) s.store;
    }

-- an accepted pick is at a place of the table
accepted_at : (d : Drives) (n p : ℕ) (s : State) → most_commands ≤ length s.table → pick_number d n p s ≡ 0 → p < length s.table
accepted_at d n p s full e =
    let q = pick_passed d n s p e in
    let few = most_32 d n s q.0 in
    let used = (place_free s.table n p q.1).in_use in
    omega arith

pick_behind : (d : Drives) (n p : ℕ) (y : Tally) (rest : List Record) → most_commands ≤ length y.state.table → one_pick d n p (behind y rest) ≡ behind (one_pick d n p y) rest
unfolding one_pick
pick_behind d n p y rest full =
    ap (λ (k : ℕ). cond (eqb k 0) (taken (step_at d p (longer y.state rest))) (passed (longer y.state rest))) (pick_longer d n y.state rest full p)
    ∙ go (eqb (pick_number d n p y.state) 0) refl
  where
    taken : State → Tally
    taken s = record { steps = y.steps + 1; refused = y.refused; state = s }

    passed : State → Tally
    passed s = record { steps = y.steps; refused = y.refused + 1; state = s }

    go : (b : Bool) → eqb (pick_number d n p y.state) 0 ≡ b
        → cond b (taken (step_at d p (longer y.state rest))) (passed (longer y.state rest)) ≡ behind (cond b (taken (step_at d p y.state)) (passed y.state)) rest
    go true e = ap taken (step_longer d p y.state rest (accepted_at d n p y.state full (eqb-true (pick_number d n p y.state) 0 e)))
    go false e = refl

pick_long : (d : Drives) (n p : ℕ) (y : Tally) → length (one_pick d n p y).state.table ≡ length y.state.table
unfolding one_pick step_at
pick_long d n p y = go (eqb (pick_number d n p y.state) 0)
  where
    go : (b : Bool) → length (cond {A = Tally} b (record { steps = y.steps + 1; refused = y.refused; state = step_at d p y.state }) (record { steps = y.steps; refused = y.refused + 1; state = y.state })).state.table ≡ length y.state.table
    go true = length-set y.state.table p (stepped (get_or y.state.table p no_record))
    go false = refl

picks_behind : (d : Drives) (n : ℕ) (ps : List ℕ) (y : Tally) (rest : List Record) → most_commands ≤ length y.state.table → picks_from d n ps (behind y rest) ≡ behind (picks_from d n ps y) rest
unfolding picks_from
picks_behind d n [] y rest full = refl
picks_behind d n (p ∷ ps) y rest full =
    ap (picks_from d n ps) (pick_behind d n p y rest full) ∙ picks_behind d n ps (one_pick d n p y) rest (rw (pick_long d n p y) full)

pub by_picks_longer : (d : Drives) (n : ℕ) (ps : List ℕ) (s : State) (rest : List Record) → most_commands ≤ length s.table → by_picks d n ps (longer s rest) ≡ behind (by_picks d n ps s) rest
unfolding by_picks
by_picks_longer d n ps s rest full = picks_behind d n ps (at_start s) rest full

picks_long : (d : Drives) (n : ℕ) (ps : List ℕ) (y : Tally) → length (picks_from d n ps y).state.table ≡ length y.state.table
unfolding picks_from
picks_long d n [] y = refl
picks_long d n (p ∷ ps) y = picks_long d n ps (one_pick d n p y) ∙ pick_long d n p y

pub by_picks_long : (d : Drives) (n : ℕ) (ps : List ℕ) (s : State) → length (by_picks d n ps s).state.table ≡ length s.table
unfolding by_picks
by_picks_long d n ps s = picks_long d n ps (at_start s)

written_long : (d : Drives) (b : ℕ) (t : List Record) (s : Store) → length (written d b t s).state.table ≡ length t
unfolding written
written_long d b [] s = refl
written_long d b (r ∷ t) s = let k = min b (remaining r) in ap suc (written_long d (b - k) t (steps_done d k r s))

pub as_written_long : (d : Drives) (n b : ℕ) (s : State) → length (as_written d n b s).state.table ≡ length s.table
unfolding as_written
as_written_long d n b s =
    let w = written d b (take n s.table) s.store in
    length-append w.state.table (drop n s.table)
    ∙ ap (λ (k : ℕ). k + length (drop n s.table)) (written_long d b (take n s.table) s.store)
    ∙ sym (length-append (take n s.table) (drop n s.table))
    ∙ ap length (take-append-drop n s.table)

pub as_written_longer : (d : Drives) (n b : ℕ) (s : State) (rest : List Record) → n ≤ length s.table → as_written d n b (longer s rest) ≡ behind (as_written d n b s) rest
unfolding as_written
as_written_longer d n b s rest h =
    let front = take-append-le n s.table rest h in
    let back = drop-append-le n s.table rest h in
    let w : List Record → Tally = λ rs. written d b rs s.store in
    λ j.
    record {
      steps = (w (front j)).steps;
      refused = (w (front j)).refused;
      state = record {
        table = (ap₂ (λ (x y : List Record). (w x).state.table ++ y) front back ∙ sym (append_assoc (w (take n s.table)).state.table (drop n s.table) rest)) j;
        store = (w (front j)).state.store;
      };
    }

pub finished_longer : (t rest : List Record) (n : ℕ) → n ≤ length t → all_finished (t ++ rest) n ≡ all_finished t n
unfolding all_finished
finished_longer t rest n h = rw (take-append-le n t rest h) refl
