-- Runs at drives that agree: what a run answers and the table that it leaves hang on no byte of memory or disk, but on their lengths, so
-- they are the same; and where the protect marks are the same too, so is every byte.
use mathlib.Core.Path.{◌≡◌, refl, sym, ap, ap₂, fun_ext, ◌∙◌}
use Prim.Native.Nat.{ℕ, zero, suc, ◌+◌, ◌-◌, min}
use mathlib.Core.Bool.{Bool, true, false, cond}
use mathlib.Core.List.{List, [], ◌∷◌}
use lib.ListN.{get_or, set, take, drop}
use lib.Dec.{eqb}
use Rattle.meaning.specs.declared.Record.{Record}
use Rattle.meaning.specs.Drives.{Drives}
use Rattle.meaning.specs.Store.{Store}
use Rattle.meaning.specs.State.{State}
use Rattle.meaning.specs.Sizes.{sizes_wrong}
use Rattle.meaning.specs.Command.{remaining, no_record}
use Rattle.meaning.specs.Step.{step, with_taken, stepped}
use Rattle.meaning.specs.Pick.{spoiled, pick_number, step_at, picked}
use Rattle.meaning.specs.Run.{all_finished, run_number, Tally, at_start, one_pick, picks_from, advanced, steps_done, written, as_written, ran_to, run_reply}
use Rattle.meaning.proofs.Spaces.{AsLong}
use Rattle.meaning.proofs.Still.{step_keeps_lengths, store_as_long, bad_as_long}
use Rattle.order.proofs.Picks.{step_taken, passed_over}
use Rattle.order.proofs.Written.{front}
use Rattle.order.proofs.Earliest.{rejoin}
use Rattle.promises.proofs.ByteTwo.{step_same}
use Rattle.promises.proofs.Agree.{Agree, pick_same, run_same}

-- ---- numbers by the table and by lengths

number_as_long : (e : Drives) (n p : ℕ) (s s' : State) → s.table ≡ s'.table → AsLong s.store s'.store → pick_number e n p s ≡ pick_number e n p s'
unfolding pick_number sizes_wrong spoiled
number_as_long e n p s s' t long =
    rw (store_as_long e s.store s'.store long, fun_ext (λ r. bad_as_long e s.store s'.store r long), t)

-- the same counts, and the same table
pub record Counts (y y' : Tally) : Type 0 where
  pub steps : y.steps ≡ y'.steps
  pub refused : y.refused ≡ y'.refused
  pub table : y.state.table ≡ y'.state.table

module _ (d e : Drives) (agree : Agree d e) where
  -- ---- where byte 2 is the same too

  module _ (marks : (u : ℕ) → (d.on u).protected ≡ (e.on u).protected) where
    step_at_same : (p : ℕ) (s : State) → step_at d p s ≡ step_at e p s
    unfolding step_at
    step_at_same p s =
        let r = get_or s.table p no_record in
        ap (λ (u : Store). record { table = set s.table p (stepped r); store = u }) (step_same d e r s.store (marks r.unit))

    pub picked_same : (n p : ℕ) (s : State) → picked d n p s ≡ picked e n p s
    unfolding picked
    picked_same n p s = ap₂ (λ (k : ℕ) (u : State). cond (eqb k 0) u s) (pick_same d e agree n p s) (step_at_same p s)

    one_pick_same : (n p : ℕ) (y : Tally) → one_pick d n p y ≡ one_pick e n p y
    unfolding one_pick
    one_pick_same n p y =
        ap₂
        (λ (k : ℕ) (u : State). cond (eqb k 0) (record { steps = y.steps + 1; refused = y.refused; state = u }) (record { steps = y.steps; refused = y.refused + 1; state = y.state }))
        (pick_same d e agree n p y.state) (step_at_same p y.state)

    pub picks_same : (n : ℕ) (ps : List ℕ) (y : Tally) → picks_from d n ps y ≡ picks_from e n ps y
    unfolding picks_from
    picks_same n [] y = refl
    picks_same n (p ∷ ps) y = picks_same n ps (one_pick d n p y) ∙ ap (picks_from e n ps) (one_pick_same n p y)

    done_same : (k : ℕ) (r : Record) (s : Store) → steps_done d k r s ≡ steps_done e k r s
    unfolding steps_done stepped with_taken
    done_same zero r s = refl
    done_same (suc k) r s = done_same k (stepped r) (step d r s) ∙ ap (steps_done e k (stepped r)) (step_same d e r s (marks r.unit))

    written_same : (b : ℕ) (rs : List Record) (s : Store) → written d b rs s ≡ written e b rs s
    unfolding written
    written_same b [] s = refl
    written_same b (r ∷ rs) s =
        let k = min b (remaining r) in
        ap (front k r) (written_same (b - k) rs (steps_done d k r s) ∙ ap (written e (b - k) rs) (done_same k r s))

    pub as_written_same : (n b : ℕ) (s : State) → as_written d n b s ≡ as_written e n b s
    unfolding as_written
    as_written_same n b s = ap (rejoin (drop n s.table)) (written_same b (take n s.table) s.store)

    pub ran_same : (n : ℕ) (go go' : State → Tally) (s : State) → go s ≡ go' s → ran_to d n go s ≡ ran_to e n go' s
    unfolding ran_to
    ran_same n go go' s h = ap₂ (λ (k : ℕ) (y : Tally). cond (eqb k 0) y (at_start s)) (run_same d e agree n s) h

  -- ---- what a call answers, in any case

  pub counts_reply : (n : ℕ) (go go' : State → Tally) (s : State) → Counts (ran_to d n go s) (ran_to e n go' s) → run_reply d n go s ≡ run_reply e n go' s
  unfolding run_reply
  counts_reply n go go' s c =
      λ j.
      record {
        steps = c.steps j;
        refused = c.refused j;
        number = run_same d e agree n s j;
        finished = cond (eqb (run_same d e agree n s j) 0) (all_finished (c.table j) n) false;
      }

  pub ran_counts : (n : ℕ) (go go' : State → Tally) (s : State) → Counts (go s) (go' s) → Counts (ran_to d n go s) (ran_to e n go' s)
  unfolding ran_to
  ran_counts n go go' s c = rw (run_same d e agree n s) (either (eqb (run_number e n s) 0))
    where
      either : (b : Bool) → Counts (cond b (go s) (at_start s)) (cond b (go' s) (at_start s))
      either true = c
      either false = record { steps = refl; refused = refl; table = refl }

  -- picks are refused, or not, by the table and by lengths
  one_pick_counts : (n p : ℕ) (y y' : Tally) → Counts y y' → AsLong y.state.store y'.state.store
      → Counts (one_pick d n p y) (one_pick e n p y') × AsLong (one_pick d n p y).state.store (one_pick e n p y').state.store
  unfolding one_pick step_at
  one_pick_counts n p y y' c long = rw (pick_same d e agree n p y.state ∙ number_as_long e n p y.state y'.state c.table long) (go (eqb (pick_number e n p y'.state) 0))
    where
      go : (b : Bool)
          → let z = cond b (step_taken d p y) (passed_over y) in
          let z' = cond b (step_taken e p y') (passed_over y') in
          Counts z z' × AsLong z.state.store z'.state.store
      go true = (
        record { steps = ap (λ (k : ℕ). k + 1) c.steps; refused = c.refused; table = ap (λ (t : List Record). set t p (stepped (get_or t p no_record))) c.table },
        λ q. step_keeps_lengths d (get_or y.state.table p no_record) y.state.store q ∙ long q ∙ sym (step_keeps_lengths e (get_or y'.state.table p no_record) y'.state.store q),
      )
      go false = (record { steps = c.steps; refused = ap (λ (k : ℕ). k + 1) c.refused; table = c.table }, long)

  pub picks_counts : (n : ℕ) (ps : List ℕ) (y y' : Tally) → Counts y y' → AsLong y.state.store y'.state.store → Counts (picks_from d n ps y) (picks_from e n ps y')
  unfolding picks_from
  picks_counts n [] y y' c long = c
  picks_counts n (p ∷ ps) y y' c long =
      let h = one_pick_counts n p y y' c long in
      picks_counts n ps (one_pick d n p y) (one_pick e n p y') h.0 h.1

  -- and as written the steps and the table hang on no store at all
  pub written_counts : (b : ℕ) (rs : List Record) (s s' : Store) → Counts (written d b rs s) (written e b rs s')
  unfolding written
  written_counts b [] s s' = record { steps = refl; refused = refl; table = refl }
  written_counts b (r ∷ rs) s s' =
      let k = min b (remaining r) in
      let c = written_counts (b - k) rs (steps_done d k r s) (steps_done e k r s') in
      record { steps = ap (λ (j : ℕ). k + j) c.steps; refused = c.refused; table = ap (λ (t : List Record). advanced k r ∷ t) c.table }
