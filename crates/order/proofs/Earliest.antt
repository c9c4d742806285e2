-- The earliest unfinished command never waits, since no unfinished one is earlier. And the run as written takes its steps there: it
-- passes the finished commands by, and of the first other one it takes the next step. So it is a run by picks.
use mathlib.Core.Path.{◌≡◌, refl, sym, ap, ◌∙◌}
use Prim.Native.Nat.{ℕ, zero, suc, ◌+◌, ◌≤◌, suc-le-suc}
use native.Mathlib.Nat.{not-suc-le-zero, le_of_suc-le-suc, zero-lt-suc, zero-min, zero-add}
use native.Mathlib.Omega.{arith}
use mathlib.Core.Bool.{Bool, true, false, cond, true≢false}
use mathlib.Core.List.{List, [], ◌∷◌, ◌++◌}
use lib.ListN.{length, get_or, set, take, drop, take-append-drop}
use lib.Seq.{length-take-le, take-set-lt, drop-set-lt, get_or-take, take-take}
use lib.Dec.{eqb}
use borrow.Author.Tests.{eq-eqb}
use Rattle.std.proofs.lemmas.Bool.{and_parts, cond-true}
use Rattle.meaning.specs.Drives.{Drives}
use Rattle.meaning.specs.declared.Record.{Record}
use Rattle.meaning.specs.Each.{every_of}
use Rattle.meaning.specs.Store.{Store}
use Rattle.meaning.specs.State.{State}
use Rattle.meaning.specs.Command.{finished, remaining, no_record}
use Rattle.meaning.specs.Touch.{conflict}
use Rattle.meaning.specs.Step.{step, stepped}
use Rattle.meaning.specs.Pick.{waits, pick_number, step_at}
use Rattle.meaning.specs.Run.{all_finished, run_number, Tally, at_start, one_pick, picks_from, by_picks, written, as_written}
use Rattle.meaning.proofs.Rows.{and_second}
use Rattle.meaning.proofs.Tests.{every_none}
use Rattle.meaning.proofs.Numbers.{Free, free_place, run_passed, passed_pick, in_table}
use Rattle.meaning.proofs.Records.{unfinished_some}
use Rattle.meaning.proofs.Still.{still_accepted}
use Rattle.order.specs.States.{earliest, written_picks}
use Rattle.order.specs.Earliest.{Earliest, EarliestIsThere, EarliestNeverWaits, WrittenIsPicks}
use Rattle.order.proofs.Picks.{before_picks}
use Rattle.order.proofs.Written.{front, one_more, front_one_more, written_cons, written_finished, written_unfinished}

-- a pick of the earliest unfinished command may go
pub earliest_free : (t : List Record) (n p : ℕ) → Earliest t n p → Free t n p
unfolding waits
earliest_free t n p h =
    record {
      in_use = h.in_use;
      unfinished = h.unfinished;
      first = every_none finished (λ q. conflict q (get_or t p no_record)) (take p t) h.before;
    }

pub earliest_never_waits : EarliestNeverWaits
earliest_never_waits d n p s e h =
    passed_pick d n s p (run_passed d n s e) (free_place s.table n p (earliest_free s.table n p h))

-- ---- nothing to do

no_budget : (d : Drives) (t : List Record) (s : Store) → written d 0 t s ≡ at_start (record { table = t; store = s })
unfolding written
no_budget d [] s = refl
no_budget d (r ∷ rs) s = written_cons d 0 r rs s 0 (zero-min (remaining r)) ∙ ap (front 0 r) (no_budget d rs s)

no_command_lem : (d : Drives) (b : ℕ) (t : List Record) (s : Store) → every_of finished t ≡ true → written d b t s ≡ at_start (record { table = t; store = s })
unfolding written
no_command_lem d b [] s e = refl
no_command_lem d b (r ∷ rs) s e =
    let h = and_parts (finished r) (every_of finished rs) e in
    written_finished d b r rs s h.0 ∙ ap (front 0 r) (no_command_lem d b rs s h.1)

-- ---- a step to take

earliest_past : (r : Record) (rs : List Record) (n p : ℕ) → finished r ≡ true → Earliest rs n p → Earliest (r ∷ rs) (suc n) (suc p)
earliest_past r rs n p f h = record { in_use = suc-le-suc h.in_use; unfinished = h.unfinished; before = rw f h.before }

some_command : (t : List Record) (n : ℕ) → every_of finished (take n t) ≡ false → Earliest t n (earliest t)
unfolding earliest
some_command t zero e = absurd (true≢false e)
some_command [] (suc n) e = absurd (true≢false e)
some_command (r ∷ rs) (suc n) e = go (finished r) refl (some_command rs n)
  where
    go : (x : Bool) → finished r ≡ x → (every_of finished (take n rs) ≡ false → Earliest rs n (earliest rs))
        → Earliest (r ∷ rs) (suc n) (cond x (suc (earliest rs)) 0)
    go true f later = earliest_past r rs n (earliest rs) f (later (sym (and_second (finished r) (every_of finished (take n rs)) f) ∙ e))
    go false f later = record { in_use = zero-lt-suc n; unfinished = f; before = refl }

pub earliest_is_there : EarliestIsThere
unfolding all_finished
earliest_is_there t n e = some_command t n e

one_step : (d : Drives) (b : ℕ) (t : List Record) (s : Store) (p : ℕ) → Earliest t (length t) p
    → let r = get_or t p no_record in
    written d (suc b) t s ≡ one_more (written d b (set t p (stepped r)) (step d r s))
one_step d b [] s p h = absurd (not-suc-le-zero h.in_use)
one_step d b (r ∷ rs) s zero h = written_unfinished d b r rs s (unfinished_some r h.unfinished)
one_step d b (r ∷ rs) s (suc p) h =
    let f = and_parts (finished r) (every_of finished (take p rs)) h.before in
    let c = get_or rs p no_record in
    let qs = set rs p (stepped c) in
    let u = step d c s in
    written_finished d (suc b) r rs s f.0
    ∙ ap (front 0 r) (one_step d b rs s p (record { in_use = le_of_suc-le-suc h.in_use; unfinished = h.unfinished; before = f.1 }))
    ∙ front_one_more 0 r (written d b qs u)
    ∙ sym (ap one_more (written_finished d b r qs u f.0))

-- ---- in a table of which the first n records are in use

-- the other records behind what y has come to
abbrev pub rejoin : List Record → Tally → Tally
rejoin more y =
    record { steps = y.steps; refused = y.refused; state = record { table = y.state.table ++ more; store = y.state.store } }

whole : (n : ℕ) (s : State) → rejoin (drop n s.table) (at_start (record { table = take n s.table; store = s.store })) ≡ at_start s
whole n s = ap (λ (t : List Record). at_start (record { table = t; store = s.store })) (take-append-drop n s.table)

written_none : (d : Drives) (n : ℕ) (s : State) → as_written d n 0 s ≡ at_start s
unfolding as_written
written_none d n s = ap (rejoin (drop n s.table)) (no_budget d (take n s.table) s.store) ∙ whole n s

written_done : (d : Drives) (n b : ℕ) (s : State) → all_finished s.table n ≡ true → as_written d n b s ≡ at_start s
unfolding as_written all_finished
written_done d n b s e = ap (rejoin (drop n s.table)) (no_command_lem d b (take n s.table) s.store e) ∙ whole n s

-- the first n records have the same earliest unfinished one
first_n : (t : List Record) (n p : ℕ) → n ≤ length t → Earliest t n p → Earliest (take n t) (length (take n t)) p
first_n t n p l h =
    record {
      in_use = rw (length-take-le n t l) h.in_use;
      unfinished = rw (get_or-take n t p no_record h.in_use) h.unfinished;
      before = rw (take-take p n t (let k = h.in_use in omega arith)) h.before;
    }

written_step : (d : Drives) (n b p : ℕ) (s : State) → n ≤ length s.table → Earliest s.table n p
    → as_written d n (suc b) s ≡ one_more (as_written d n b (step_at d p s))
unfolding as_written step_at
written_step d n b p s l h =
    let t = s.table in
    let r = get_or t p no_record in
    ap (rejoin (drop n t)) (one_step d b (take n t) s.store p (first_n t n p l h))
    ∙ rw (get_or-take n t p no_record h.in_use, ← take-set-lt n t p (stepped r) h.in_use, drop-set-lt n t p (stepped r) h.in_use) refl

-- ---- pick by pick

-- an accepted pick, and then more
pick_first : (d : Drives) (n p : ℕ) (ps : List ℕ) (s : State) → pick_number d n p s ≡ 0 → by_picks d n (p ∷ ps) s ≡ one_more (by_picks d n ps (step_at d p s))
unfolding by_picks picks_from one_pick
pick_first d n p ps s e =
    ap (picks_from d n ps) (cond-true (eqb (pick_number d n p s) 0) _ _ (eq-eqb _ _ e))
    ∙ before_picks d n ps 1 0 (at_start (step_at d p s))
    ∙ (let y = picks_from d n ps (at_start (step_at d p s)) in λ i. record { steps = one-add y.steps i; refused = zero-add y.refused i; state = y.state })
  where
    one-add : (k : ℕ) → 1 + k ≡ suc k
    one-add k = omega arith

-- the table after a step
after_step : (d : Drives) (p : ℕ) (s : State) (P : List Record → Type 0) → P (step_at d p s).table → P (set s.table p (stepped (get_or s.table p no_record)))
unfolding step_at
after_step d p s P h = h

no_pick : (d : Drives) (n : ℕ) (s : State) → by_picks d n [] s ≡ at_start s
unfolding by_picks picks_from
no_pick d n s = refl

-- what holds of the picks that a run as written would take: of none, without budget or where all are finished; and of one more ahead of those
-- of the rest, which is the earliest unfinished command's and is accepted
module _ (d : Drives) (n : ℕ) (P : ℕ → State → List ℕ → Type 0)
    (none : (s : State) → P 0 s [])
    (ended : (b : ℕ) (s : State) → all_finished s.table n ≡ true → P (suc b) s [])
    (ahead : (b p : ℕ) (ps : List ℕ) (s : State) → run_number d n s ≡ 0 → pick_number d n p s ≡ 0 → Earliest s.table n p → P b (step_at d p s) ps → P (suc b) s (p ∷ ps)) where
  pub of_written_picks : (b : ℕ) (s : State) → run_number d n s ≡ 0 → P b s (written_picks n b s.table)
  unfolding written_picks
  of_written_picks zero s e = none s
  of_written_picks (suc b) s e = go (all_finished s.table n) refl (λ u f. of_written_picks b u f)
    where
      p : ℕ
      p = earliest s.table

      more : List ℕ
      more = written_picks n b (set s.table p (stepped (get_or s.table p no_record)))

      go : (x : Bool) → all_finished s.table n ≡ x → ((u : State) → run_number d n u ≡ 0 → P b u (written_picks n b u.table)) → P (suc b) s (cond x [] (p ∷ more))
      go true f later = ended b s f
      go false f later =
          let h = earliest_is_there s.table n f in
          let z = earliest_never_waits d n p s e h in
          let u = step_at d p s in
          ahead b p more s e z h (after_step d p s (λ t. P b u (written_picks n b t)) (later u (still_accepted d n p s z)))

pub written_is_picks : WrittenIsPicks
written_is_picks d n =
    of_written_picks d n (λ b s ps. as_written d n b s ≡ by_picks d n ps s)
    (λ s. written_none d n s ∙ sym (no_pick d n s))
    (λ b s f. written_done d n (suc b) s f ∙ sym (no_pick d n s))
    (λ b p ps s e z h rest. written_step d n b p s (in_table d n s (run_passed d n s e)) h ∙ ap one_more rest ∙ sym (pick_first d n p ps s z))
