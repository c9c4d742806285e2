-- What the number 0 tells. The rows of a table are tried in order, so 0 says that no row applies which gives another number:
-- of a table in general, and then of a place, of a run and of a pick.
use mathlib.Core.Path.{◌≡◌, refl, sym, ◌∙◌}
use Prim.Native.Nat.{ℕ, ◌≤◌, ◌<◌}
use native.Mathlib.Omega.{arith}
use mathlib.Core.Bool.{Bool, true, false, not, ◌||◌, cond, false≢true, or-false}
use mathlib.Core.List.{List, [], ◌∷◌}
use lib.ListN.{length, get_or, take}
use lib.Dec.{ltb, eqb}
use borrow.Author.Tests.{ltb-false, le-ltb, leb-false, lt-leb, eq-eqb}
use Rattle.std.proofs.lemmas.Bool.{cond-true, and_parts, or_parts}
use Rattle.meaning.specs.Drives.{Drives}
use Rattle.meaning.specs.declared.Record.{Record}
use Rattle.meaning.specs.First.{Row, first_in, first_of}
use Rattle.meaning.specs.Each.{some_of, every_of}
use Rattle.meaning.specs.State.{State, most_commands}
use Rattle.meaning.specs.Sizes.{store_wrong, sizes_wrong}
use Rattle.meaning.specs.Command.{finished, no_record}
use Rattle.meaning.specs.Pick.{bad_record, spoiled, waits, place_number, pick_number, run_rows, place_rows}
use Rattle.meaning.specs.Run.{Tally, run_number, ran_to}
use Rattle.meaning.proofs.Loops.{none_at}
use Rattle.meaning.proofs.All.{All}

-- ---- rows of a table

-- a row that does not apply
abbrev pub Off : Row → Type 0
Off r = r.applies ≡ false

-- a row that gives another number than N, or is known not to apply: where N is given, it does not apply
abbrev pub told_but : ℕ → Row → Bool
told_but N r = not (eqb r.gives N) || not r.applies

pub rows_but : (N : ℕ) (rows : List Row) (z : ℕ) → first_of rows z ≡ N → every_of (told_but N) rows ≡ true → All Off rows
rows_but N [] z e h = tt
rows_but N (r ∷ rows) z e h =
    let t = and_parts (told_but N r) (every_of (told_but N) rows) h in
    let q = go r.applies e t.0 in
    (q.0, rows_but N rows z q.1 t.1)
  where
    go : (b : Bool) → cond b r.gives (first_of rows z) ≡ N → (not (eqb r.gives N) || not b) ≡ true → (b ≡ false) × (first_of rows z ≡ N)
    go true e h = absurd (false≢true (rw (eq-eqb r.gives N e) at h))
    go false e h = (refl, e)

pub rows_off : (rows : List Row) (z : ℕ) → first_of rows z ≡ 0 → every_of (told_but 0) rows ≡ true → All Off rows
rows_off rows z e h = rows_but 0 rows z e h

-- no row applies: the number is the last one, in every column
pub off_last_in : (column : Row → ℕ) (rows : List Row) (z : ℕ) → All Off rows → first_in column rows z ≡ z
off_last_in column [] z h = refl
off_last_in column (r ∷ rows) z h = rw h.0 (off_last_in column rows z h.1)

pub off_last : (rows : List Row) (z : ℕ) → All Off rows → first_of rows z ≡ z
off_last rows z h = off_last_in (λ r. r.gives) rows z h

-- ---- 8, 7 and 6 are not given

pub record Free (t : List Record) (n p : ℕ) : Type 0 where
  pub in_use : p < n
  pub unfinished : finished (get_or t p no_record) ≡ false
  pub first : waits t p ≡ false

pub place_free : (t : List Record) (n p : ℕ) → place_number t n p ≡ 0 → Free t n p
unfolding place_number
place_free t n p e =
    let q = rows_off (place_rows t n p) 0 e refl in
    record { in_use = leb-false n p q.0; unfinished = q.1.0; first = q.1.1.0 }

pub free_place : (t : List Record) (n p : ℕ) → Free t n p → place_number t n p ≡ 0
unfolding place_number
free_place t n p f = off_last (place_rows t n p) 0 (lt-leb n p f.in_use, (f.unfinished, (f.first, tt)))

-- ---- 1 is not given

module _ (d : Drives) (s : State) where
  abbrev short : Bool
  short = ltb (length s.table) most_commands

  pub sizes_long : sizes_wrong d s ≡ false → most_commands ≤ length s.table
  unfolding sizes_wrong
  sizes_long e = ltb-false (length s.table) most_commands (or_parts (store_wrong d s.store) short e).1

  pub sizes_store : sizes_wrong d s ≡ false → store_wrong d s.store ≡ false
  unfolding sizes_wrong
  sizes_store e = (or_parts (store_wrong d s.store) short e).0

  -- a table that is long enough: sizes are wrong only where memory or image are
  pub full_table : most_commands ≤ length s.table → sizes_wrong d s ≡ store_wrong d s.store
  unfolding sizes_wrong
  full_table h = rw (le-ltb (length s.table) most_commands h) (or-false (store_wrong d s.store))

-- ---- 1 and 9 are not given

pub record Passed (d : Drives) (n : ℕ) (s : State) : Type 0 where
  pub sizes : sizes_wrong d s ≡ false
  pub sound : spoiled d n s ≡ false

module _ (d : Drives) (n : ℕ) (s : State) where
  rows_passed : (z : ℕ) → first_of (run_rows d n s) z ≡ 0 → Passed d n s
  rows_passed z e =
      let q = rows_off (run_rows d n s) z e refl in
      record { sizes = q.0; sound = q.1.0 }

  passed_rows : (z : ℕ) → Passed d n s → first_of (run_rows d n s) z ≡ z
  passed_rows z h = off_last (run_rows d n s) z (h.sizes, (h.sound, tt))

  pub run_passed : run_number d n s ≡ 0 → Passed d n s
  unfolding run_number
  run_passed e = rows_passed 0 e

  pub passed_run : Passed d n s → run_number d n s ≡ 0
  unfolding run_number
  passed_run h = passed_rows 0 h

  -- a run comes to what its steps come to then
  pub ran_0 : (go : State → Tally) → run_number d n s ≡ 0 → ran_to d n go s ≡ go s
  unfolding ran_to
  ran_0 go e = cond-true _ _ _ (eq-eqb _ _ e)

  pub passed_place : (p : ℕ) → Passed d n s → pick_number d n p s ≡ place_number s.table n p
  unfolding pick_number
  passed_place p h = passed_rows (place_number s.table n p) h

  pub pick_passed : (p : ℕ) → pick_number d n p s ≡ 0 → Passed d n s × (place_number s.table n p ≡ 0)
  unfolding pick_number
  pick_passed p e =
      let h = rows_passed (place_number s.table n p) e in
      (h, sym (passed_place p h) ∙ e)

  pub passed_pick : (p : ℕ) → Passed d n s → place_number s.table n p ≡ 0 → pick_number d n p s ≡ 0
  passed_pick p h e = passed_place p h ∙ e

  -- a table that 1 and 9 let pass has its n records, of which there are at most 32
  pub table_long : Passed d n s → most_commands ≤ length s.table
  table_long h = sizes_long d s h.sizes

  pub store_right : Passed d n s → store_wrong d s.store ≡ false
  store_right h = sizes_store d s h.sizes

  pub most_32 : Passed d n s → n ≤ most_commands
  unfolding spoiled
  most_32 h = ltb-false most_commands n (or_parts (ltb most_commands n) (some_of (bad_record d s.store) (take n s.table)) h.sound).0

  pub in_table : Passed d n s → n ≤ length s.table
  in_table h = let a = table_long h in let b = most_32 h in omega arith

  -- and each of them is good
  pub none_bad : Passed d n s → (k : ℕ) → k < n → bad_record d s.store (get_or s.table k no_record) ≡ false
  unfolding spoiled
  none_bad h k l =
      none_at no_record (bad_record d s.store) s.table n k
      (or_parts (ltb most_commands n) (some_of (bad_record d s.store) (take n s.table)) h.sound).1 l (let a = in_table h in omega arith)
