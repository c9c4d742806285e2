-- What a pick sees of its table decides its number, and what it answers and changes by that is the whole of the pick (specs/Seen.antt):
-- `seen_gives`, by which the code is proved. Then what a pick answers and changes by what it sees, refused and accepted.
use mathlib.Core.Path.{◌≡◌, refl, sym, ap, ap₂, ◌∙◌, subst, subst₂}
use Prim.Native.Nat.{ℕ, ◌+◌, ◌≤◌, ◌<◌, min}
use native.Mathlib.Omega.{arith}
use mathlib.Core.Bool.{Bool, true, false, cond}
use mathlib.Core.List.{List}
use lib.ListN.{length, get_or, set, take}
use lib.Dec.{ltb, leb, eqb}
use borrow.Author.Tests.{lt-ltb, le-ltb, le-leb, lt-leb, eq-eqb, ne_eqb, eqb-true}
use Rattle.std.proofs.lemmas.Bool.{cond-false, cond-true}
use Rattle.meaning.specs.Drives.{Drives}
use Rattle.meaning.specs.declared.Record.{Record}
use Rattle.meaning.specs.Each.{some_of}
use Rattle.meaning.specs.Store.{Store, memory}
use Rattle.meaning.specs.State.{State, most_commands, state_in}
use Rattle.meaning.specs.Sizes.{store_wrong}
use Rattle.meaning.specs.Command.{finished, no_record}
use Rattle.meaning.specs.Step.{step, with_taken, stepped}
use Rattle.meaning.specs.Pick.{bad_record, spoiled, waits, place_number, pick_number, step_at, picked, PickGives}
use Rattle.meaning.proofs.Means.{Means, holds, fails, means_lt, means_le}
use Rattle.meaning.proofs.Numbers.{full_table, pick_passed, place_free, most_32}
use Rattle.command.specs.Data.{bad_in}
use Rattle.command.proofs.Data.{bad_in_lem}
use Rattle.board.specs.Sight.{blocking}
use Rattle.board.specs.declared.pick.Sight.{Sight}
use Rattle.board.specs.Seen.{PickedTaken, place_seen, sight_of, sight_number, refused_pick, PickSees, with_picked}
use Rattle.board.proofs.Searching.{none_here}
use Rattle.board.proofs.Picking.{no_place, over_most, by_records}

with_next : (r : Record) → with_taken (r.taken + 1) r ≡ stepped r
unfolding with_taken stepped
with_next r = refl

-- the place that is looked at is one of the 32
pub seen_small : (p q : ℕ) → q ≡ place_seen p → q < most_commands
seen_small p q e = subst (◌< most_commands) (sym e) (go (means_lt p most_commands))
  where
    go : {b : Bool} → Means (p < most_commands) b → cond b p 0 < most_commands
    go (holds h) = h
    go (fails h) = omega arith

module _ (d : Drives) (n p : ℕ) (s : Store) (t : List Record) (long : most_commands ≤ length t) where
  abbrev whole : State
  whole = state_in s t

  abbrev here : Record
  here = get_or t (place_seen p) no_record

  abbrev seen : Sight
  seen = sight_of (length (s memory)) d (min n most_commands) (place_seen p) t

  -- where sizes are right, what was tested of the records is what number 9 asks
  bad_is : store_wrong d s ≡ false → (k : ℕ) → some_of (bad_in (length (s memory)) d) (take k t) ≡ some_of (bad_record d s) (take k t)
  bad_is right k = sym (λ j. some_of (λ r. bad_in_lem d s right r j) (take k t))

  -- a place that is in use: the rows after 8, of the record there and of the commands before it
  abbrev last_rows : ℕ → ℕ → ℕ
  last_rows q k =
      cond (finished (get_or t q no_record)) 7 (cond (some_of (blocking (get_or t q no_record)) (take k t)) 6 (cond (bad_record d s (get_or t q no_record)) 9 0))

  in_place : p < n → n ≤ most_commands → some_of (bad_record d s) (take n t) ≡ false
      → last_rows (place_seen p) (min (min n most_commands) (place_seen p)) ≡ cond (finished (get_or t p no_record)) 7 (cond (waits t p) 6 0)
  unfolding waits
  in_place h few sound =
      let own : place_seen p ≡ p = cond-true (ltb p most_commands) p 0 (lt-ltb p most_commands (omega arith)) in
      let before : min (min n most_commands) (place_seen p) ≡ p = omega (arith, own) in
      let good = none_here no_record (bad_record d s) t p n h (omega arith) sound in
      ap₂ last_rows own before
      ∙ ap (λ (b : Bool). cond (finished (get_or t p no_record)) 7 (cond (waits t p) 6 (cond b 9 0))) good

  abbrev after_sizes : ℕ
  after_sizes = cond (ltb most_commands n) 9 (cond seen.bad 9 (cond (leb n p) 8 (cond (finished here) 7 (cond seen.blocked 6 (cond (bad_record d s here) 9 0)))))

  abbrev Rest : ℕ → Type 0
  Rest k = k ≡ cond (spoiled d n whole) 9 (place_number t n p)

  placed : n ≤ most_commands → (b : Bool) → some_of (bad_record d s) (take n t) ≡ b
      → {c : Bool} → Means (n ≤ p) c → Rest (cond b 9 (cond c 8 (last_rows (place_seen p) (min (min n most_commands) (place_seen p)))))
  unfolding place_number
  placed few true e c = sym (cond-true _ _ _ (by_records d n whole few ∙ e))
  placed few false e (holds h) = sym (cond-false _ _ _ (by_records d n whole few ∙ e) ∙ no_place t n p h)
  placed few false e (fails h) = in_place (omega arith) few e ∙ sym (cond-false _ _ _ (by_records d n whole few ∙ e) ∙ cond-false (leb n p) _ _ (lt-leb n p (omega arith)))

  rest_is : store_wrong d s ≡ false → {b : Bool} → Means (most_commands < n) b → Rest after_sizes
  unfolding sight_of
  rest_is right (holds h) = cond-true _ _ _ (lt-ltb most_commands n h) ∙ sym (cond-true _ _ _ (over_most d n whole h))
  rest_is right (fails h) =
      let few : min n most_commands ≡ n = omega arith in
      let bad : seen.bad ≡ some_of (bad_record d s) (take n t) = ap (λ (k : ℕ). some_of (bad_in (length (s memory)) d) (take k t)) few ∙ bad_is right n in
      cond-false _ _ _ (le-ltb most_commands n (omega arith))
      ∙ ap (λ (b : Bool). cond b 9 (cond (leb n p) 8 (last_rows (place_seen p) (min (min n most_commands) (place_seen p))))) bad
      ∙ placed (omega arith) (some_of (bad_record d s) (take n t)) refl (means_le n p)

  pub same_number : sight_number d n p here seen s ≡ pick_number d n p whole
  unfolding sight_number pick_number
  same_number = go (store_wrong d s) refl ∙ ap (λ (b : Bool). cond b 1 (cond (spoiled d n whole) 9 (place_number t n p))) (sym (full_table d whole long))
    where
      go : (b : Bool) → store_wrong d s ≡ b → cond (store_wrong d s) 1 after_sizes ≡ cond (store_wrong d s) 1 (cond (spoiled d n whole) 9 (place_number t n p))
      go true e = cond-true _ _ _ e ∙ sym (cond-true _ _ _ e)
      go false e = ap (λ (k : ℕ). cond (store_wrong d s) 1 k) (rest_is e (means_lt most_commands n))

  -- an accepted pick is at a place in use
  pub accepted_place : pick_number d n p whole ≡ 0 → (place_seen p ≡ p) × (p < length t)
  accepted_place e =
      let passed = pick_passed d n whole p e in
      let few = most_32 d n whole passed.0 in
      let h = place_free t n p passed.1 in
      (cond-true (ltb p most_commands) p 0 (lt-ltb p most_commands (omega (arith, few, h.in_use))), omega (arith, few, h.in_use))

  -- so what it answers and changes is the whole of the pick
  pub seen_gives : (a : PickedTaken) (u : Store) → PickSees d n p here seen s a u
      → PickGives d n p whole a.number (record { table = with_picked a p t; store = u })
  unfolding PickGives PickSees picked step_at
  seen_gives a u g = (ap (λ (x : PickedTaken). x.number) g.0 ∙ same_number, go (eqb (pick_number d n p whole) 0) refl)
    where
      number : eqb a.number 0 ≡ eqb (pick_number d n p whole) 0
      number = ap (λ (x : PickedTaken). eqb x.number 0) g.0 ∙ ap (λ (k : ℕ). eqb k 0) same_number

      go : (b : Bool) → eqb (pick_number d n p whole) 0 ≡ b → record { table = with_picked a p t; store = u } ≡ picked d n p whole
      go true e =
          let at = (accepted_place (eqb-true _ _ e)).0 in
          let on = ap (λ (k : ℕ). eqb k 0) same_number ∙ e in
          let taken : a.taken ≡ (get_or t p no_record).taken + 1 = ap (λ (x : PickedTaken). x.taken) g.0 ∙ cond-true _ _ _ on ∙ ap (λ (q : ℕ). (get_or t q no_record).taken + 1) at in
          let table_is = cond-true _ _ _ (number ∙ e) ∙ ap (λ (k : ℕ). set t p (with_taken k (get_or t p no_record))) taken ∙ ap (set t p) (with_next (get_or t p no_record)) in
          let Store-is = g.1 ∙ cond-true _ _ _ on ∙ ap (λ (q : ℕ). step d (get_or t q no_record) s) at in
          (λ j. record { table = table_is j; store = Store-is j }) ∙ sym (cond-true _ _ _ e)
      go false e =
          let table_is = cond-false _ _ _ (number ∙ e) in
          let Store-is = g.1 ∙ cond-false _ _ _ (ap (λ (k : ℕ). eqb k 0) same_number ∙ e) in
          (λ j. record { table = table_is j; store = Store-is j }) ∙ sym (cond-false _ _ _ e)

  -- the same as the code has it: `at` is the place looked at, `used` are the records in use, and x is what is seen
  module _ (at used : ℕ) (x : Sight) (ea : at ≡ place_seen p) (eu : used ≡ min n most_commands) (ex : x ≡ sight_of (length (s memory)) d used at t)
      (a : PickedTaken) (u : Store) (g : PickSees d n p (get_or t at no_record) x s a u) where
    sees : PickSees d n p here seen s a u
    sees = subst₂ (λ (q : ℕ) (y : Sight). PickSees d n p (get_or t q no_record) y s a u) ea (ex ∙ ap₂ (λ (k q : ℕ). sight_of (length (s memory)) d k q t) eu ea) g

    pub whole_pick : PickGives d n p whole a.number (record { table = with_picked a p t; store = u })
    whole_pick = seen_gives a u sees

    pub picked_at : a.number ≡ 0 → (at ≡ p) × (p < length t)
    unfolding PickGives
    picked_at e = let q = accepted_place (sym whole_pick.0 ∙ e) in (ea ∙ q.0, q.1)

    -- the steps are laid at the place looked at, or nothing is laid
    pub laid_there : (v : List Record) → v ≡ set t at (with_taken a.taken (get_or t at no_record)) → a.number ≡ 0 → PickGives d n p whole a.number (record { table = v; store = u })
    laid_there v e on =
        subst (λ (z : List Record). PickGives d n p whole a.number (record { table = z; store = u }))
        (sym (e ∙ ap (λ (q : ℕ). set t q (with_taken a.taken (get_or t q no_record))) (picked_at on).0 ∙ sym (cond-true (eqb a.number 0) _ t (eq-eqb a.number 0 on)))) whole_pick

    pub left_alone : (a.number ≡ 0 → ⊥) → PickGives d n p whole a.number (record { table = t; store = u })
    left_alone off = subst (λ (z : List Record). PickGives d n p whole a.number (record { table = z; store = u })) (cond-false (eqb a.number 0) _ t (ne_eqb a.number 0 off)) whole_pick

-- ---- what a pick answers and changes by what it sees

module _ (d : Drives) (n p : ℕ) (r : Record) (seen : Sight) (s : Store) where
  -- each number, once the tests before it are passed
  abbrev number : ℕ
  number = sight_number d n p r seen s

  pub wrong_sizes : store_wrong d s ≡ true → number ≡ 1
  unfolding sight_number
  wrong_sizes e = cond-true _ _ _ e

  module _ (right : store_wrong d s ≡ false) where
    pub too_many : most_commands < n → number ≡ 9
    unfolding sight_number
    too_many h = cond-false _ _ _ right ∙ cond-true _ _ _ (lt-ltb most_commands n h)

    module _ (few : n ≤ most_commands) where
      unspoiled : number ≡ cond seen.bad 9 (cond (leb n p) 8 (cond (finished r) 7 (cond seen.blocked 6 (cond (bad_record d s r) 9 0))))
      unfolding sight_number
      unspoiled = cond-false _ _ _ right ∙ cond-false _ _ _ (le-ltb most_commands n few)

      pub some_bad : seen.bad ≡ true → number ≡ 9
      some_bad e = unspoiled ∙ cond-true _ _ _ e

      module _ (sound : seen.bad ≡ false) where
        pub not_there : n ≤ p → number ≡ 8
        not_there h = unspoiled ∙ cond-false _ _ _ sound ∙ cond-true _ _ _ (le-leb n p h)

        module _ (in_use : p < n) where
          there : number ≡ cond (finished r) 7 (cond seen.blocked 6 (cond (bad_record d s r) 9 0))
          there = unspoiled ∙ cond-false _ _ _ sound ∙ cond-false _ _ _ (lt-leb n p in_use)

          pub at_end : finished r ≡ true → number ≡ 7
          at_end e = there ∙ cond-true _ _ _ e

          module _ (unfinished : finished r ≡ false) where
            pub kept_waiting : seen.blocked ≡ true → number ≡ 6
            kept_waiting e = there ∙ cond-false _ _ _ unfinished ∙ cond-true _ _ _ e

            pub goes_by : seen.blocked ≡ false → (b : Bool) → bad_record d s r ≡ b → number ≡ cond b 9 0
            goes_by e b f = there ∙ cond-false _ _ _ unfinished ∙ cond-false _ _ _ e ∙ ap (λ (x : Bool). cond x 9 0) f

  pub refused_sees : (k : ℕ) (a : PickedTaken) → a ≡ refused_pick k → number ≡ k → (k ≡ 0 → ⊥) → PickSees d n p r seen s a s
  unfolding PickSees
  refused_sees k a ea e h =
      let off = ne_eqb number 0 (λ q. h (sym e ∙ q)) in
      let none = cond-false (eqb number 0) (r.taken + 1) 0 off in
      (ea ∙ (λ j. record { number = sym e j; taken = sym none j }), sym (cond-false _ _ _ off))

  pub accepted_sees : (u : Store) → number ≡ 0 → u ≡ step d r s → PickSees d n p r seen s (record { number = 0; taken = r.taken + 1 }) u
  unfolding PickSees
  accepted_sees u e eu =
      let on = eq-eqb number 0 e in
      (λ j. record { number = sym e j; taken = sym (cond-true (eqb number 0) (r.taken + 1) 0 on) j }, eu ∙ sym (cond-true _ _ _ on))
