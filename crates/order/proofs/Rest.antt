-- Any picks, and then the rest as written, come to the same as written alone. A run as written whose budget suffices is the heart's
-- `finish` on records and stores, so that an accepted pick changes nothing of what the rest comes to.
use mathlib.Core.Path.{◌≡◌, refl, sym, ap, ap₂, ◌∙◌}
use Prim.Native.Nat.{ℕ, zero, suc, ◌-◌, ◌≤◌}
use native.Mathlib.Nat.{le_refl, min-eq_right}
use native.Mathlib.Omega.{arith}
use mathlib.Core.Bool.{false, not, ◌&&◌}
use mathlib.Core.List.{List, [], ◌∷◌, ◌++◌}
use lib.ListN.{length, get_or, set, take, drop}
use lib.Seq.{length-take-le, take-set-lt, drop-set-lt, get_or-take, take-take}
use Rattle.std.proofs.lemmas.Bool.{or_parts}
use Rattle.meaning.specs.Drives.{Drives}
use Rattle.meaning.specs.declared.Record.{Record}
use Rattle.meaning.specs.Each.{some_of, sum_of}
use Rattle.meaning.specs.Store.{Store}
use Rattle.meaning.specs.State.{State}
use Rattle.meaning.specs.Command.{finished, remaining, no_record}
use Rattle.meaning.specs.Touch.{conflict}
use Rattle.meaning.specs.Step.{step, stepped}
use Rattle.meaning.specs.Pick.{waits, step_at}
use Rattle.meaning.specs.Run.{steps_left, run_number, Tally, by_picks, advanced, steps_done, written, as_written}
use Rattle.meaning.proofs.Rows.{and_second}
use Rattle.meaning.proofs.Numbers.{Free, free_place, Passed, passed_run, ran_0, in_table}
use Rattle.meaning.proofs.Records.{some_unfinished, unfinished_some, remaining_stepped, conflict_stepped}
use Rattle.meaning.proofs.Still.{passed_step}
use Rattle.order.specs.States.{rest}
use Rattle.order.specs.Rest.{LargerDoesNoMore}
use Rattle.order.proofs.Heart.{after, done, finish, Clear, finish_step}
use Rattle.order.proofs.Footprint.{step_comm}
use Rattle.order.proofs.Picks.{picks_keep}
use Rattle.order.proofs.Written.{written_cons}

-- ---- a run as written whose budget suffices

-- the heart's `finish` on records and stores
abbrev finish_all : Drives → List Record → Store → List Record × Store
finish_all d = finish (step d) stepped remaining

after_is : (d : Drives) (k : ℕ) (r : Record) → advanced k r ≡ after (step d) stepped remaining k r
unfolding advanced
after_is d zero r = refl
after_is d (suc k) r = after_is d k (stepped r)

done_is : (d : Drives) (k : ℕ) (r : Record) (s : Store) → steps_done d k r s ≡ done (step d) stepped remaining k r s
unfolding steps_done
done_is d zero r s = refl
done_is d (suc k) r s = done_is d k (stepped r) (step d r s)

-- the table and the store that a run has come to
abbrev ended : Tally → List Record × Store
ended y = (y.state.table, y.state.store)

written_finish : (d : Drives) (b : ℕ) (t : List Record) (s : Store) → sum_of remaining t ≤ b → ended (written d b t s) ≡ finish_all d t s
unfolding written
written_finish d b [] s h = refl
written_finish d b (r ∷ rs) s h =
    let k = remaining r in
    ap ended (written_cons d b r rs s k (min-eq_right (omega arith)))
    ∙ ap₂ (λ (q : Record) (e : List Record × Store). (q ∷ e.0, e.1)) (after_is d k r)
    (written_finish d (b - k) rs (steps_done d k r s) (omega arith) ∙ ap (finish_all d rs) (done_is d k r s))

-- a state whose commands and store have come to e, ahead of the other records
abbrev joined : List Record → List Record × Store → State
joined more e = record { table = e.0 ++ more; store = e.1 }

-- all that is left, done as written
abbrev all_done : Drives → ℕ → State → State
all_done d n s = joined (drop n s.table) (finish_all d (take n s.table) s.store)

as_written_finish : (d : Drives) (n b : ℕ) (s : State) → steps_left s.table n ≤ b → (as_written d n b s).state ≡ all_done d n s
unfolding as_written steps_left
as_written_finish d n b s h = ap (joined (drop n s.table)) (written_finish d b (take n s.table) s.store h)

rest_finish : (d : Drives) (n : ℕ) (s : State) → run_number d n s ≡ 0 → rest d n s ≡ all_done d n s
unfolding rest
rest_finish d n s e =
    ap (λ (y : Tally). y.state) (ran_0 d n s (as_written d n (steps_left s.table n)) e)
    ∙ as_written_finish d n (steps_left s.table n) s (le_refl (steps_left s.table n))

pub larger_does_no_more : LargerDoesNoMore
larger_does_no_more d n b s e h = as_written_finish d n b s h ∙ sym (rest_finish d n s e)

-- ---- an accepted pick

clear : (d : Drives) (c : Record) (es : List Record) → some_of (λ e. not (finished e) && conflict e c) es ≡ false
    → Clear (step d) stepped remaining conflict c es
clear d c [] w = tt
clear d c (e ∷ es) w =
    let h = or_parts (not (finished e) && conflict e c) (some_of (λ q. not (finished q) && conflict q c) es) w in
    (λ l. sym (and_second (not (finished e)) (conflict e c) (ap not (some_unfinished e l))) ∙ h.0, clear d c es h.1)

finish_pick : (d : Drives) (n p : ℕ) (t : List Record) (s : Store) → n ≤ length t → Free t n p
    → let r = get_or t p no_record in
    finish_all d (take n t) s ≡ finish_all d (take n (set t p (stepped r))) (step d r s)
unfolding waits
finish_pick d n p t s l f =
    let h = f.in_use in
    let r = get_or t p no_record in
    let g = get_or-take n t p no_record h in
    rw (take-set-lt n t p (stepped r) h, ← g)
    (finish_step (step d) stepped remaining conflict remaining_stepped conflict_stepped (step_comm d) (take n t) p no_record s
    (rw (length-take-le n t l) h)
    (rw g (unfinished_some r f.unfinished))
    (rw (g, take-take p n t (omega arith)) (clear d r (take p t) f.first)))

done_step : (d : Drives) (n p : ℕ) (s : State) → n ≤ length s.table → Free s.table n p → all_done d n (step_at d p s) ≡ all_done d n s
unfolding step_at
done_step d n p s l f =
    let r = get_or s.table p no_record in
    ap₂ joined (drop-set-lt n s.table p (stepped r) f.in_use) (sym (finish_pick d n p s.table s.store l f))

rest_step : (d : Drives) (n p : ℕ) (s : State) → Passed d n s → Free s.table n p → rest d n (step_at d p s) ≡ rest d n s
rest_step d n p s h f =
    rest_finish d n (step_at d p s) (passed_run d n (step_at d p s) (passed_step d n p s (free_place s.table n p f) h))
    ∙ done_step d n p s (in_table d n s h) f
    ∙ sym (rest_finish d n s (passed_run d n s h))

-- ---- any picks

pub picks_then_rest : (d : Drives) (n : ℕ) (ps : List ℕ) (s : State) → rest d n (by_picks d n ps s).state ≡ rest d n s
picks_then_rest d n ps s =
    picks_keep d n (λ k y. rest d n y.state ≡ rest d n s) (λ k p y h f q. rest_step d n p y.state h f ∙ q) (λ k y q. q) ps s refl

-- picks leave a state that 1 and 9 let pass
pub picks_accepted : (d : Drives) (n : ℕ) (ps : List ℕ) (s : State) → Passed d n s → Passed d n (by_picks d n ps s).state
picks_accepted d n ps s h =
    picks_keep d n (λ k y. Passed d n y.state) (λ k p y z f q. passed_step d n p y.state (free_place y.state.table n p f) z) (λ k y q. q) ps s h
