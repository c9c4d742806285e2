-- The loop of a run by picks: what the whole list comes to is what the picks that are left come to from here. One law for an accepted
-- pick, one for a refused one, and one for picks in a row that the code takes together: where the first may go, all name its place, and may go
-- as far as the command has steps left; where it has to be passed over, so have all, at its place or at places that the chain has not.
use mathlib.Core.Path.{◌≡◌, refl, sym, ap, ◌∙◌, subst, subst₂}
use Prim.Native.Nat.{ℕ, zero, suc, ◌+◌, ◌-◌, ◌≤◌, ◌<◌, min}
use native.Mathlib.Nat.{add-zero}
use native.Mathlib.Numerals.{add-one}
use native.Mathlib.Omega.{arith}
use mathlib.Core.Bool.{Bool, true, false}
use mathlib.Core.List.{List, [], ◌∷◌, ◌++◌}
use lib.ListN.{length, get_or, set, take, get_or-append}
use lib.Seq.{set-get_or, set-set, get_or-set_same}
use lib.Dec.{eqb}
use borrow.Author.Tests.{eq-eqb, ne_eqb, eqb-true}
use denote.Ref.{Bor}
use denote.Param.Members.{Mut}
use Rattle.std.specs.List.{AllAdjacentBelow}
use Rattle.std.specs.Iterator.{Yields}
use Rattle.std.specs.Fn.{ComputesOnPairs}
use Rattle.std.specs.Slice.Iter.{chunk_by_steps, chunk_by_callee}
use Rattle.std.specs.declared.slice.ChunkBy.{ChunkBy}
use Rattle.std.proofs.lemmas.Bool.{cond-false, cond-true}
use Rattle.meaning.specs.Drives.{Drives}
use Rattle.meaning.specs.declared.Record.{Record}
use Rattle.meaning.specs.Each.{some_of}
use Rattle.meaning.specs.Store.{Store}
use Rattle.meaning.specs.State.{state_in}
use Rattle.meaning.specs.Command.{finished, remaining, no_record}
use Rattle.meaning.specs.Step.{step, stepped}
use Rattle.meaning.specs.Pick.{waits, place_number, pick_number, step_at}
use Rattle.meaning.specs.Run.{one_pick, picks_from, by_picks, advanced, steps_done, run_number}
use Rattle.meaning.proofs.Means.{Means, holds, fails, means_lt, means_le}
use Rattle.meaning.proofs.Numbers.{Passed, run_passed, passed_place, place_free, free_place, none_bad, store_right, in_table}
use Rattle.meaning.proofs.Records.{some_unfinished, unfinished_some, remaining_stepped}
use Rattle.meaning.proofs.Still.{passed_step}
use Rattle.board.specs.declared.run.Watch.{Watch}
use Rattle.board.specs.Ready.{ReadyIn}
use Rattle.board.specs.Sight.{blocking}
use Rattle.board.specs.Watching.{Watching}
use Rattle.board.specs.Together.{together}
use Rattle.board.proofs.Moving.{ready}
use Rattle.board.proofs.Searching.{some_here, waits_still, watching_still}
use Rattle.board.proofs.Picking.{no_place, has_to_wait, may_go}
use Rattle.board.proofs.Runs.{tally}

-- a search that has come to k decides whether a command that is not finished may take a step
pub search_decides : (t : List Record) (n p k : ℕ) → p < n → p < length t → finished (get_or t p no_record) ≡ false → k ≤ p → some_of (blocking (get_or t p no_record)) (take k t) ≡ false
    → (k < p → blocking (get_or t p no_record) (get_or t k no_record) ≡ true) → eqb k p ≡ eqb (place_number t n p) 0
unfolding waits
search_decides t n p k in_use inside open-yet l clear stopped = go (means_lt k p)
  where
    go : {b : Bool} → Means (k < p) b → eqb k p ≡ eqb (place_number t n p) 0
    go (holds h) =
        ne_eqb k p (λ e. omega (arith, e, h))
        ∙ ap (λ (x : ℕ). eqb x 0) (sym (has_to_wait t n p in_use open-yet (some_here no_record (blocking (get_or t p no_record)) t k p h (omega arith) (stopped h))))
    go (fails h) =
        let e : k ≡ p = omega arith in
        eq-eqb k p e ∙ ap (λ (x : ℕ). eqb x 0) (sym (may_go t n p in_use open-yet (ap (λ (x : ℕ). some_of (blocking (get_or t p no_record)) (take x t)) (sym e) ∙ clear)))

-- two picks that are taken together, of which the first names a place of n commands, name the same; and of which the first names none, none
together_equal : (n y z : ℕ) → together n y z ≡ true → y < n → z ≡ y
together_equal n y z e h = let same = eqb-true (min y n) (min z n) e in omega (arith, same, h)

together_none : (n y z : ℕ) → together n y z ≡ true → n ≤ y → n ≤ z
together_none n y z e h = let same = eqb-true (min y n) (min z n) e in omega (arith, same, h)

-- of picks that are each taken together with the next
module _ (n : ℕ) (x rest : List ℕ) (adjacent : AllAdjacentBelow (λ y z. together n y z ≡ true) (x ++ rest) (length x)) where
  next_too : (k : ℕ) → k + 1 < length x → together n (get_or x k 0) (get_or x (k + 1) 0) ≡ true
  next_too k h =
      subst₂ (λ (y z : ℕ). together n y z ≡ true) (get_or-append x rest 0 k (omega arith)) (get_or-append x rest 0 (k + 1) (omega arith)) (adjacent k 0 (omega arith))

  -- they name one place, where the first names one of n commands
  one_place : get_or x 0 0 < n → (k : ℕ) → k < length x → get_or x k 0 ≡ get_or x 0 0
  one_place first zero h = refl
  one_place first (suc k) h =
      let before = one_place first k (omega arith) in
      ap (λ (j : ℕ). get_or x j 0) (sym (add-one k))
      ∙ together_equal n (get_or x k 0) (get_or x (k + 1) 0) (next_too k (omega arith)) (omega (arith, before, first))
      ∙ before

  -- and none, where the first names none
  all_none : n ≤ get_or x 0 0 → (k : ℕ) → k < length x → n ≤ get_or x k 0
  all_none first zero h = first
  all_none first (suc k) h =
      subst (n ≤◌) (ap (λ (j : ℕ). get_or x j 0) (add-one k))
      (together_none n (get_or x k 0) (get_or x (k + 1) 0) (next_too k (omega arith)) (all_none first k (omega arith)))

-- `rest` are left of the picks ps, from the store s₀ and the table t₀ on; s and t are store and table now
pub record PicksLeft (d : Drives) (n : ℕ) (ps : List ℕ) (s₀ : Store) (t₀ : List Record) (s : Store) (t : List Record) (ws : List Watch) (steps : ℕ) (rest : List ℕ) : Type 0 where
  pub refused : ℕ
  pub counted : steps + refused + length rest ≡ length ps
  pub passed : Passed d n (state_in s t)
  pub watching : Watching n t ws
  pub left : by_picks d n ps (state_in s₀ t₀) ≡ picks_from d n rest (tally steps refused (state_in s t))

module _ (d : Drives) (n : ℕ) (ps : List ℕ) (s₀ : Store) (t₀ : List Record) where
  pub picks_begin : (ws : List Watch) → run_number d n (state_in s₀ t₀) ≡ 0 → Watching n t₀ ws → PicksLeft d n ps s₀ t₀ s₀ t₀ ws 0 ps
  unfolding by_picks
  picks_begin ws z w = record { refused = 0; counted = omega arith; passed = run_passed d n (state_in s₀ t₀) z; watching = w; left = refl }

  -- a search has got further
  pub picks_watched : (s : Store) (t : List Record) (ws to : List Watch) (steps : ℕ) (rest : List ℕ) → PicksLeft d n ps s₀ t₀ s t ws steps rest → Watching n t to → PicksLeft d n ps s₀ t₀ s t to steps rest
  picks_watched s t ws to steps rest w q = record { refused = w.refused; counted = w.counted; passed = w.passed; watching = q; left = w.left }

  -- every pick is done
  pub all_picked : (s : Store) (t : List Record) (ws : List Watch) (steps : ℕ) (rest : List ℕ) → PicksLeft d n ps s₀ t₀ s t ws steps rest → length rest ≡ 0
      → by_picks d n ps (state_in s₀ t₀) ≡ tally steps (length ps - steps) (state_in s t)
  unfolding picks_from
  all_picked s t ws steps [] w e = let refused : w.refused ≡ length ps - steps = omega (arith, w.counted) in w.left ∙ ap (λ (x : ℕ). tally steps x (state_in s t)) refused
  all_picked s t ws steps (p ∷ rest) w e = absurd (omega arith)

  -- what is left of a command in use may be taken: there is room for it
  pub room_for : (s : Store) (t : List Record) → Passed d n (state_in s t) → (p : ℕ) → p < n → (j : ℕ) → j ≤ remaining (get_or t p no_record) → ReadyIn j (get_or t p no_record) s
  room_for s t w p h j l = ready d s (get_or t p no_record) j (store_right d n (state_in s t) w) (none_bad d n (state_in s t) w p h) l

  module _ (ws : List Watch) (p : ℕ) where
    abbrev Left : Store → List Record → ℕ → List ℕ → Type 0
    Left s t steps rest = PicksLeft d n ps s₀ t₀ s t ws steps rest

    abbrev here : List Record → Record
    here t = get_or t p no_record

    same_left : {s s' : Store} {t t' : List Record} {steps steps' : ℕ} (rest : List ℕ) → s ≡ s' → t ≡ t' → steps ≡ steps' → Left s t steps rest → Left s' t' steps' rest
    same_left {s} {s'} {t} {t'} {steps} {steps'} rest es et ep w =
        subst (λ (x : Store). Left x t' steps' rest) es
        (subst (λ (x : List Record). Left s x steps' rest) et
        (subst (λ (x : ℕ). Left s t x rest) ep w))

    one_passed : (s : Store) (t : List Record) (steps q : ℕ) (rest : List ℕ) → Left s t steps (q ∷ rest) → (place_number t n q ≡ 0 → ⊥) → Left s t steps rest
    unfolding picks_from one_pick
    one_passed s t steps q rest w h =
        record {
          refused = w.refused + 1;
          counted = omega (arith, w.counted);
          passed = w.passed;
          watching = w.watching;
          left = w.left ∙ ap (picks_from d n rest) (cond-false _ _ _ (ne_eqb _ _ (λ z. h (sym (passed_place d n (state_in s t) q w.passed) ∙ z))));
        }

    module _ (s : Store) (t : List Record) (steps q : ℕ) (rest : List ℕ) (e : q ≡ p) (w : Left s t steps (q ∷ rest)) where
      same_number : pick_number d n q (state_in s t) ≡ place_number t n p
      same_number = ap (λ (x : ℕ). pick_number d n x (state_in s t)) e ∙ passed_place d n (state_in s t) p w.passed

      one_taken : place_number t n p ≡ 0 → Left (step d (here t) s) (set t p (stepped (here t))) (steps + 1) rest
      unfolding picks_from one_pick step_at
      one_taken z =
          let f = place_free t n p z in
          let inside : p < length t = let long = in_table d n (state_in s t) w.passed in omega (arith, f.in_use) in
          record {
            refused = w.refused;
            counted = omega (arith, w.counted);
            passed = passed_step d n p (state_in s t) z w.passed;
            watching = watching_still t p inside n ws w.watching;
            left =
                w.left
                ∙ ap (picks_from d n rest)
                (cond-true _ _ _ (eq-eqb _ _ (same_number ∙ z)) ∙ ap (λ (x : ℕ). tally (steps + 1) w.refused (step_at d x (state_in s t))) e);
          }

    -- a place that may go, after a step at it that was not the last
    still_free : (t : List Record) → p < length t → place_number t n p ≡ 0 → 2 ≤ remaining (here t) → place_number (set t p (stepped (here t))) n p ≡ 0
    still_free t inside z h =
        let r = here t in
        let f = place_free t n p z in
        let less = remaining_stepped r (omega arith) in
        free_place (set t p (stepped r)) n p
        (record {
          in_use = f.in_use;
          unfinished = rw (get_or-set_same t p (stepped r) no_record inside) (some_unfinished (stepped r) (omega arith));
          first = waits_still t p inside ∙ f.first;
        })

    -- picks in a row
    pub row_passed : (x rest : List ℕ) (s : Store) (t : List Record) (steps : ℕ) → ((k : ℕ) → k < length x → place_number t n (get_or x k 0) ≡ 0 → ⊥) → Left s t steps (x ++ rest) → Left s t steps rest
    row_passed [] rest s t steps each w = w
    row_passed (q ∷ x) rest s t steps each w =
        row_passed x rest s t steps (λ k l. each (suc k) (omega arith)) (one_passed s t steps q (x ++ rest) w (each 0 (omega arith)))

    pub row_taken : (x rest : List ℕ) (c : ℕ) (s : Store) (t : List Record) (steps : ℕ) → ((k : ℕ) → k < length x → get_or x k 0 ≡ p) → (1 ≤ remaining (here t) → place_number t n p ≡ 0)
        → c ≡ min (length x) (remaining (here t)) → Left s t steps (x ++ rest) → Left (steps_done d c (here t) s) (set t p (advanced c (here t))) (steps + c) rest
    unfolding steps_done advanced
    row_taken [] rest zero s t steps same z e w = same_left rest refl (sym (set-get_or t p no_record)) (sym (add-zero steps)) w
    row_taken [] rest (suc c) s t steps same z e w = absurd (omega arith)
    row_taken (q ∷ x) rest zero s t steps same z e w =
        let none : remaining (here t) ≡ 0 = omega arith in
        row_taken x rest zero s t steps (λ k l. same (suc k) (omega arith)) z (omega arith)
        (one_passed s t steps q (x ++ rest) w (λ y. let some = unfinished_some (here t) (place_free t n p (ap (place_number t n) (sym (same 0 (omega arith))) ∙ y)).unfinished in omega arith))
    row_taken (q ∷ x) rest (suc c) s t steps same z e w =
        let r = here t in
        let goes = z (omega arith) in
        let f = place_free t n p goes in
        let inside : p < length t = let long = in_table d n (state_in s t) w.passed in omega (arith, f.in_use) in
        let less = remaining_stepped r (omega arith) in
        let t₁ = set t p (stepped r) in
        let there : here t₁ ≡ stepped r = get_or-set_same t p (stepped r) no_record inside in
        let w₁ = one_taken s t steps q (x ++ rest) (same 0 (omega arith)) w goes in
        let still : 1 ≤ remaining (here t₁) → place_number t₁ n p ≡ 0 = λ h. still_free t inside goes (let g = ap remaining there in omega arith) in
        let w₂ = row_taken x rest c (step d r s) t₁ (steps + 1) (λ k l. same (suc k) (omega arith)) still (let g = ap remaining there in omega arith) w₁ in
        same_left rest
        (ap (λ (y : Record). steps_done d c y (step d r s)) there)
        (ap (λ (y : Record). set t₁ p (advanced c y)) there ∙ set-set t p (stepped r) (advanced c (stepped r)))
        (omega arith) w₂

    -- the next picks up to the first that is not taken together with the one before it, as the code cuts them off
    module _ (s : Store) (t : List Record) (from : List Watch) (steps : ℕ) (all x rest : List ℕ) (cut : all ≡ x ++ rest) (adjacent : AllAdjacentBelow (λ y z. together n y z ≡ true) all (length x)) (ep : p ≡ get_or x 0 0)
        (w : PicksLeft d n ps s₀ t₀ s t from steps all) (watched : Watching n t ws) where
      own : AllAdjacentBelow (λ y z. together n y z ≡ true) (x ++ rest) (length x)
      own = subst (λ (y : List ℕ). AllAdjacentBelow (λ y z. together n y z ≡ true) y (length x)) cut adjacent

      name-it : p < n → (k : ℕ) → k < length x → get_or x k 0 ≡ p
      name-it h k l = one_place n x rest own (omega (arith, ep, h)) k l ∙ sym ep

      from-here : Left s t steps (x ++ rest)
      from-here = subst (Left s t steps) cut (picks_watched s t from ws steps all w watched)

      pub part_passed : (place_number t n p ≡ 0 → ⊥) → Left s t steps rest
      part_passed h = row_passed x rest s t steps (go (means_le n p)) from-here
        where
          go : {b : Bool} → Means (n ≤ p) b → (k : ℕ) → k < length x → place_number t n (get_or x k 0) ≡ 0 → ⊥
          go (holds l) k i z = let none = no_place t n (get_or x k 0) (all_none n x rest own (omega (arith, ep, l)) k i) in omega (arith, none, z)
          go (fails l) k i z = h (ap (place_number t n) (sym (name-it (omega arith) k i)) ∙ z)

      pub part_taken : place_number t n p ≡ 0 → (c : ℕ) → c ≡ min (length x) (remaining (here t)) → (s' : Store) → s' ≡ steps_done d c (here t) s → (t' : List Record) → t' ≡ set t p (advanced c (here t)) → Left s' t' (steps + c) rest
      part_taken z c e s' es t' et = same_left rest (sym es) (sym et) refl (row_taken x rest c s t steps (name-it (place_free t n p z).in_use) (λ _. z) e from-here)

-- the parts of the picks go on to be cut by the same comparison
module _ {F : Type 0} (g : Mut F (Bor ℕ × (Bor ℕ × Unit {0})) Bool) (e : ℕ → ℕ → Bool) where
  pub still_compares : (s t : ChunkBy ℕ F) (xs : List (Bor (List ℕ))) → Yields (chunk_by_steps g) s xs t → ComputesOnPairs g e (chunk_by_callee s) → ComputesOnPairs g e (chunk_by_callee t)
  still_compares s t [] y h = subst (λ (u : ChunkBy ℕ F). ComputesOnPairs g e (chunk_by_callee u)) y h
  still_compares s t (x ∷ xs) y h = still_compares y.0 t xs y.2 (y.1.2 e h).0
