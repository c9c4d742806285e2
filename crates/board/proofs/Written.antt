-- The loop of a run as written: what the whole comes to is what is left of the budget and of the commands from here, behind the commands
-- that were passed. One law for a turn, and what is known at the end.
use mathlib.Core.Path.{◌≡◌, refl, sym, ap, ap₂, ◌∙◌}
use Prim.Native.Nat.{ℕ, ◌+◌, ◌-◌, ◌≤◌, ◌<◌, min}
use native.Mathlib.Nat.{zero-add, add-zero, add_assoc}
use native.Mathlib.Numerals.{add-one}
use native.Mathlib.Omega.{arith}
use mathlib.Core.List.{List, [], ◌∷◌, ◌++◌, append_assoc, append-nil}
use lib.ListN.{length, get_or, take, drop, set, length-set, take-append-drop}
use lib.Seq.{take-suc-set, drop-set-lt, drop-drop}
use Rattle.std.proofs.lemmas.List.{get_or-drop}
use Rattle.meaning.specs.Drives.{Drives}
use Rattle.meaning.specs.declared.Record.{Record}
use Rattle.meaning.specs.Store.{Store}
use Rattle.meaning.specs.State.{state_in}
use Rattle.meaning.specs.Command.{remaining, no_record}
use Rattle.meaning.specs.Pick.{bad_record}
use Rattle.meaning.specs.Run.{Tally, at_start, advanced, steps_done, written, as_written, run_number}
use Rattle.meaning.proofs.Loops.{left_at, left_none}
use Rattle.meaning.proofs.Spaces.{AsLong}
use Rattle.meaning.proofs.Numbers.{Passed, run_passed, none_bad, store_right, in_table}
use Rattle.meaning.proofs.Still.{steps_keep_lengths, store_as_long, bad_as_long}
use Rattle.board.specs.Ready.{ReadyIn}
use Rattle.board.proofs.Moving.{ready}
use Rattle.board.proofs.Runs.{tally}

-- what w comes to, behind `before` records and `steps` steps
abbrev pub behind : ℕ → List Record → Tally → Tally
behind steps before w = record { steps = steps + w.steps; refused = w.refused; state = record { table = before ++ w.state.table; store = w.state.store } }

-- k commands of the first n are passed, from the store s₀ and the table t₀ with budget b; s and t are the store and the table now, and `left`
-- is what is left of the budget
pub record WrittenLeft (d : Drives) (n b : ℕ) (s₀ : Store) (t₀ : List Record) (s : Store) (t : List Record) (left k : ℕ) : Type 0 where
  pub within : left ≤ b
  pub as_long : AsLong s s₀
  pub full : length t ≡ length t₀
  pub passed : Passed d n (state_in s₀ t₀)
  pub alone : drop k t ≡ drop k t₀
  pub still : written d b (take n t₀) s₀ ≡ behind (b - left) (take k t) (written d left (drop k (take n t₀)) s)

pub written_begin : (d : Drives) (n b : ℕ) (s : Store) (t : List Record) → run_number d n (state_in s t) ≡ 0 → WrittenLeft d n b s t s t b 0
written_begin d n b s t z =
    let none : b - b ≡ 0 = omega arith in
    record {
      within = omega arith;
      as_long = λ p. refl;
      full = refl;
      passed = run_passed d n (state_in s t) z;
      alone = refl;
      still = rw none (λ j. record { steps = sym (zero-add w.steps) j; refused = w.refused; state = w.state });
    }
  where
    w : Tally
    w = written d b (take n t) s

-- one command more: c steps of r, and then the rest
front : (d : Drives) (b : ℕ) (r : Record) (rs : List Record) (s : Store) (c : ℕ) → c ≡ min b (remaining r)
    → written d b (r ∷ rs) s ≡ behind c (advanced c r ∷ []) (written d (b - c) rs (steps_done d c r s))
unfolding written
front d b r rs s c e = ap (λ (j : ℕ). behind j (advanced j r ∷ []) (written d (b - j) rs (steps_done d j r s))) (sym e)

behind_behind : (a c : ℕ) (before more : List Record) (w : Tally) → behind a before (behind c more w) ≡ behind (a + c) (before ++ more) w
behind_behind a c before more w =
    λ j.
    record {
      steps = sym (add_assoc a c w.steps) j;
      refused = w.refused;
      state = record { table = sym (append_assoc before more w.state.table) j; store = w.state.store };
    }

module _ (d : Drives) (n b : ℕ) (s₀ : Store) (t₀ : List Record) (s : Store) (t : List Record) (left k : ℕ) (w : WrittenLeft d n b s₀ t₀ s t left k) where
  abbrev here : Record
  here = get_or t k no_record

  pub in_use_there : n ≤ length t
  in_use_there = let e = in_table d n (state_in s₀ t₀) w.passed in omega (arith, w.full)

  -- the command at k is as it was
  own : here ≡ get_or t₀ k no_record
  own =
      ap (λ (j : ℕ). get_or t j no_record) (sym (add-zero k))
      ∙ sym (get_or-drop k t 0 no_record)
      ∙ ap (λ (rs : List Record). get_or rs 0 no_record) w.alone
      ∙ get_or-drop k t₀ 0 no_record
      ∙ ap (λ (j : ℕ). get_or t₀ j no_record) (add-zero k)

  -- there is room for what is left of it
  pub turn_ready : k < n → (j : ℕ) → j ≤ remaining here → ReadyIn j here s
  turn_ready h j few =
      ready d s here j (store_as_long d s s₀ w.as_long ∙ store_right d n (state_in s₀ t₀) w.passed)
      (bad_as_long d s s₀ here w.as_long ∙ ap (bad_record d s₀) own ∙ none_bad d n (state_in s₀ t₀) w.passed k h) few

  -- it takes c steps
  module _ (h : k < n) (c : ℕ) (ec : c ≡ min left (remaining here)) (s' : Store) (es : s' ≡ steps_done d c here s) where
    next_command : written d left (drop k (take n t₀)) s ≡ behind c (advanced c here ∷ []) (written d (left - c) (drop (k + 1) (take n t₀)) s')
    next_command =
        let there = in_use_there in
        ap (λ (rs : List Record). written d left rs s) (left_at no_record t₀ n (omega (arith, w.full)) k h ∙ ap (λ (r : Record). r ∷ drop (k + 1) (take n t₀)) (sym own))
        ∙ front d left here (drop (k + 1) (take n t₀)) s c ec
        ∙ ap (λ (x : Store). behind c (advanced c here ∷ []) (written d (left - c) (drop (k + 1) (take n t₀)) x)) (sym es)

    abbrev next_table : List Record
    next_table = set t k (advanced c here)

    passed_records : take k t ++ advanced c here ∷ [] ≡ take (k + 1) next_table
    passed_records =
        let there = in_use_there in
        sym (take-suc-set t k (advanced c here) (omega arith)) ∙ ap (λ (j : ℕ). take j next_table) (sym (add-one k))

    pub next_turn : WrittenLeft d n b s₀ t₀ s' next_table (left - c) (k + 1)
    next_turn =
        let spent : b - left + c ≡ b - (left - c) = omega (arith, ec, w.within) in
        record {
          within = omega (arith, w.within);
          as_long = λ p. ap (λ (u : Store). length (u p)) es ∙ steps_keep_lengths d c here s p ∙ w.as_long p;
          full = length-set t k (advanced c here) ∙ w.full;
          passed = w.passed;
          alone =
              drop-set-lt (k + 1) t k (advanced c here) (omega arith)
              ∙ sym (drop-drop 1 k t)
              ∙ ap (drop 1) w.alone
              ∙ drop-drop 1 k t₀;
          still =
              w.still
              ∙ ap (behind (b - left) (take k t)) next_command
              ∙ behind_behind (b - left) c (take k t) (advanced c here ∷ []) _
              ∙ ap₂ (λ (x : ℕ) (rs : List Record). behind x rs (written d (left - c) (drop (k + 1) (take n t₀)) s')) spent passed_records;
        }

  -- every command is passed
  module _ (at_end : k ≡ n) where
    abbrev total : Tally
    total = written d b (take n t₀) s₀

    all_passed : total ≡ behind (b - left) (take k t) (at_start (record { table = []; store = s }))
    unfolding written
    all_passed =
        let there = in_use_there in
        w.still
        ∙ ap (λ (rs : List Record). behind (b - left) (take k t) (written d left rs s)) (left_none no_record t₀ n (omega (arith, w.full)) k (omega arith))

    first_records : total.state.table ≡ take n t
    first_records = ap (λ (x : Tally). x.state.table) all_passed ∙ append-nil (take k t) ∙ ap (λ (j : ℕ). take j t) at_end

    table_is : total.state.table ++ drop n t₀ ≡ t
    table_is =
        ap (λ (rs : List Record). rs ++ drop n t₀) first_records
        ∙ ap (λ (rs : List Record). take n t ++ rs) (ap (λ (j : ℕ). drop j t₀) (sym at_end) ∙ sym w.alone ∙ ap (λ (j : ℕ). drop j t) at_end)
        ∙ take-append-drop n t

    pub all_written : as_written d n b (state_in s₀ t₀) ≡ tally (b - left) 0 (state_in s t)
    unfolding as_written
    all_written =
        λ j.
        record {
          steps = (ap (λ (x : Tally). x.steps) all_passed ∙ add-zero (b - left)) j;
          refused = (all_passed j).refused;
          state = record { table = table_is j; store = (all_passed j).state.store };
        }
