-- The numbers of a pick in their order, as the code tests them; and what a look over the records in use tells: the number of a refusal, or
-- what is seen of the table.
use mathlib.Core.Path.{◌≡◌, refl, sym, ap, ◌∙◌, subst}
use Prim.Native.Nat.{ℕ, ◌≤◌, ◌<◌, min}
use native.Mathlib.Omega.{arith}
use mathlib.Core.Bool.{Bool, true, false, cond}
use mathlib.Core.List.{List}
use lib.ListN.{length, get_or, take, length-take}
use lib.Seq.{take-take, take_all}
use lib.Dec.{ltb, leb, eqb}
use borrow.Author.Tests.{lt-ltb, le-ltb, le-leb, lt-leb, ne_eqb}
use Rattle.std.specs.Prelude.{Result, Ok, Err}
use Rattle.std.proofs.lemmas.Bool.{cond-false, cond-true, or_left}
use Rattle.meaning.specs.Drives.{Drives}
use Rattle.meaning.specs.declared.Record.{Record}
use Rattle.meaning.specs.declared.refusals.Refusal.{Refusal}
use Rattle.meaning.specs.declared.refusals.Refusal.TheVariants.{Spoiled}
use Rattle.meaning.specs.Refusals.{number_of}
use Rattle.meaning.specs.Each.{some_of}
use Rattle.meaning.specs.Store.{Store, memory}
use Rattle.meaning.specs.State.{State, most_commands, state_in}
use Rattle.meaning.specs.Sizes.{sizes_wrong}
use Rattle.meaning.specs.Command.{finished, no_record}
use Rattle.meaning.specs.Pick.{bad_record, spoiled, waits, place_number, pick_number, picked, PickGives}
use Rattle.meaning.proofs.Rows.{or_second}
use Rattle.meaning.proofs.Means.{Means, holds, fails, means_lt}
use Rattle.meaning.proofs.Numbers.{sizes_long, sizes_store}
use Rattle.command.specs.Data.{bad_in}
use Rattle.command.proofs.Data.{bad_in_lem}
use Rattle.board.specs.declared.pick.Sight.{Sight}
use Rattle.board.specs.Sight.{blocking, looked_over}
use Rattle.board.specs.Seen.{place_seen, sight_of, Unspoiled}
use Rattle.board.proofs.Searching.{none_here}

-- ---- numbers

module _ (t : List Record) (n p : ℕ) where
  pub no_place : n ≤ p → place_number t n p ≡ 8
  unfolding place_number
  no_place h = cond-true (leb n p) _ _ (le-leb n p h)

  module _ (in_use : p < n) where
    pub is_finished : finished (get_or t p no_record) ≡ true → place_number t n p ≡ 7
    unfolding place_number
    is_finished f = cond-false (leb n p) _ _ (lt-leb n p in_use) ∙ cond-true (finished (get_or t p no_record)) _ _ f

    pub has_to_wait : finished (get_or t p no_record) ≡ false → waits t p ≡ true → place_number t n p ≡ 6
    unfolding place_number
    has_to_wait f w = cond-false (leb n p) _ _ (lt-leb n p in_use) ∙ cond-false (finished (get_or t p no_record)) _ _ f ∙ cond-true (waits t p) _ _ w

    pub may_go : finished (get_or t p no_record) ≡ false → waits t p ≡ false → place_number t n p ≡ 0
    unfolding place_number
    may_go f w = cond-false (leb n p) _ _ (lt-leb n p in_use) ∙ cond-false (finished (get_or t p no_record)) _ _ f ∙ cond-false (waits t p) _ _ w

-- over 32 commands spoil a table, and otherwise a bad record in use does
pub over_most : (d : Drives) (n : ℕ) (s : State) → most_commands < n → spoiled d n s ≡ true
unfolding spoiled
over_most d n s h = or_left (ltb most_commands n) _ (lt-ltb most_commands n h)

pub by_records : (d : Drives) (n : ℕ) (s : State) → n ≤ most_commands → spoiled d n s ≡ some_of (bad_record d s.store) (take n s.table)
unfolding spoiled
by_records d n s h = or_second (ltb most_commands n) _ (le-ltb most_commands n h)

-- ---- a pick that is refused before its place is asked

module _ (d : Drives) (n p : ℕ) (s : Store) (t : List Record) where
  abbrev whole : State
  whole = state_in s t

  -- a refusal changes nothing
  pub refused_gives : (k : ℕ) → pick_number d n p whole ≡ k → (k ≡ 0 → ⊥) → PickGives d n p whole k whole
  unfolding PickGives picked
  refused_gives k e h = (sym e, sym (cond-false (eqb (pick_number d n p whole) 0) _ _ (ne_eqb _ 0 (λ q. h (sym e ∙ q)))))

  pub wrong_sizes : sizes_wrong d whole ≡ true → pick_number d n p whole ≡ 1
  unfolding pick_number
  wrong_sizes e = cond-true _ _ _ e

  module _ (right : sizes_wrong d whole ≡ false) where
    pub too_many : most_commands < n → pick_number d n p whole ≡ 9
    unfolding pick_number
    too_many h = cond-false _ _ _ right ∙ cond-true _ _ _ (over_most d n whole h)

    -- what a look over the records in use tells: `at` is the place looked at
    module _ (few : n ≤ most_commands) (at : ℕ) (own : at ≡ place_seen p) where
      -- where sizes are right, what was tested of the records is what number 9 asks
      seen_spoiled : some_of (bad_in (length (s memory)) d) (take n t) ≡ spoiled d n whole
      seen_spoiled = sym (by_records d n whole few ∙ (λ j. some_of (λ r. bad_in_lem d s (sizes_store d whole right) r j) (take n t)))

      -- the records in use before that place
      before : take at (take n t) ≡ take (min n at) t
      before = go (means_lt n at)
        where
          go : {b : Bool} → Means (n < at) b → take at (take n t) ≡ take (min n at) t
          go (holds h) = let e : n ≡ min n at = omega arith in take_all at (take n t) (omega (arith, length-take n t)) ∙ ap (λ (k : ℕ). take k t) e
          go (fails h) = let e : at ≡ min n at = omega arith in take-take at n t (omega arith) ∙ ap (λ (k : ℕ). take k t) e

      abbrev look : Result Bool Refusal
      look = looked_over (length (s memory)) d (get_or t at no_record) at (take n t)

      -- what is seen where no record in use is bad
      abbrev free : Bool → Sight
      free w = record { bad = false; blocked = w }

      -- a refusal is that of the pick, and else what is seen of the table is known, and that it is not spoiled
      abbrev Told : Result Bool Refusal → Type 0
      Told (Ok w) = (spoiled d n whole ≡ false) × (free w ≡ sight_of (length (s memory)) d n at t)
      Told (Err e) = pick_number d n p whole ≡ number_of e

      tells : (b : Bool) → some_of (bad_in (length (s memory)) d) (take n t) ≡ b → Told (cond b (Err Spoiled) (Ok (some_of (blocking (get_or t at no_record)) (take at (take n t)))))
      unfolding pick_number sight_of
      tells true e = cond-false _ _ _ right ∙ cond-true _ _ _ (sym seen_spoiled ∙ e)
      tells false e = (sym seen_spoiled ∙ e, λ j. record { bad = sym e j; blocked = some_of (blocking (get_or t at no_record)) (before j) })

      told_by : Told look
      unfolding looked_over
      told_by = tells (some_of (bad_in (length (s memory)) d) (take n t)) refl

      pub look_refuses : (e : Refusal) → look ≡ Err e → pick_number d n p whole ≡ number_of e
      look_refuses e is = subst Told is told_by

      pub look_accepts : (w : Bool) → look ≡ Ok w → free w ≡ sight_of (length (s memory)) d n at t
      look_accepts w is = (subst Told is told_by).1

      -- the record at a place in use is not bad then, so its step may be taken
      pub look_unspoiled : (w : Bool) → look ≡ Ok w → Unspoiled d n p (get_or t at no_record) (free w) s
      look_unspoiled w is =
          record {
            right = sizes_store d whole right;
            few = few;
            sound = refl;
            good =
                λ h f b.
                let here : at ≡ p = own ∙ cond-true (ltb p most_commands) p 0 (lt-ltb p most_commands (omega arith)) in
                let long = sizes_long d whole right in
                none_here no_record (bad_record d s) t at n (omega arith) (omega (arith, long)) (sym (by_records d n whole few) ∙ (subst Told is told_by).0);
          }
