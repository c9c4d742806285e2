-- The steps that are left: a step takes one of them, a run as written takes the smaller of its budget and all of them, and where none is
-- left all commands are finished.
use mathlib.Core.Path.{◌≡◌, refl}
use Prim.Native.Nat.{ℕ, zero, suc, ◌+◌, ◌-◌, ◌≤◌, ◌<◌, min}
use native.Mathlib.Nat.{zero-add, min-le_right, not-suc-le-zero, le_of_suc-le-suc}
use native.Mathlib.Omega.{arith}
use mathlib.Core.Bool.{Bool, true, false, ◌&&◌}
use mathlib.Core.List.{List, [], ◌∷◌}
use lib.ListN.{length, get_or, set, take}
use lib.Dec.{eqb}
use borrow.Author.Tests.{ne_eqb}
use Rattle.meaning.specs.Drives.{Drives}
use Rattle.meaning.specs.declared.Record.{Record}
use Rattle.meaning.specs.Each.{every_of, sum_of}
use Rattle.meaning.specs.Store.{Store}
use Rattle.meaning.specs.State.{State}
use Rattle.meaning.specs.Command.{finished, remaining, no_record}
use Rattle.meaning.specs.Step.{stepped}
use Rattle.meaning.specs.Pick.{step_at}
use Rattle.meaning.specs.Run.{steps_left, all_finished, advanced, steps_done, written}
use Rattle.meaning.proofs.Numbers.{Free}
use Rattle.meaning.proofs.Records.{finished_none, unfinished_some, remaining_stepped}

-- ---- none left

all_none : (rs : List Record) → every_of finished rs ≡ eqb (sum_of remaining rs) 0
all_none [] = refl
all_none (r ∷ rs) = go (finished r) refl (all_none rs)
  where
    go : (b : Bool) → finished r ≡ b → every_of finished rs ≡ eqb (sum_of remaining rs) 0 → (b && every_of finished rs) ≡ eqb (remaining r + sum_of remaining rs) 0
    go true e rest = rw (finished_none r e, zero-add) rest
    go false e rest = let h = unfinished_some r e in rw (ne_eqb (remaining r + sum_of remaining rs) 0 (λ q. omega arith)) refl

pub none_left : (t : List Record) (n : ℕ) → all_finished t n ≡ eqb (steps_left t n) 0
unfolding all_finished steps_left
none_left t n = all_none (take n t)

-- ---- one step

sum-set : {A : Type 0} (f : A → ℕ) (t : List A) (n p : ℕ) (y z : A) → p < n → p < length t → suc (f y) ≡ f (get_or t p z)
    → suc (sum_of f (take n (set t p y))) ≡ sum_of f (take n t)
sum-set f [] n p y z h l e = absurd (not-suc-le-zero l)
sum-set f (x ∷ t) zero p y z h l e = absurd (not-suc-le-zero h)
sum-set f (x ∷ t) (suc n) zero y z h l e = omega arith
sum-set f (x ∷ t) (suc n) (suc p) y z h l e = omega (arith, sum-set f t n p y z (le_of_suc-le-suc h) (le_of_suc-le-suc l) e)

pub left_step : (d : Drives) (n p : ℕ) (s : State) → n ≤ length s.table → Free s.table n p
    → suc (steps_left (step_at d p s).table n) ≡ steps_left s.table n
unfolding step_at steps_left
left_step d n p s l f =
    let r = get_or s.table p no_record in
    let h = f.in_use in
    sum-set remaining s.table n p (stepped r) no_record f.in_use (omega arith)
    (remaining_stepped r (unfinished_some r f.unfinished))

-- ---- as written

pub remaining_advanced : (k : ℕ) (r : Record) → k ≤ remaining r → k + remaining (advanced k r) ≡ remaining r
unfolding advanced
remaining_advanced zero r h = zero-add (remaining r)
remaining_advanced (suc k) r h =
    let e = remaining_stepped r (omega arith) in
    omega (arith, remaining_advanced k (stepped r) (omega arith))

-- the steps that it reports, and those that it leaves
pub of_written : (d : Drives) (b : ℕ) (t : List Record) (s : Store) → let w = written d b t s in w.steps + sum_of remaining w.state.table ≡ sum_of remaining t
unfolding written
of_written d b [] s = refl
of_written d b (r ∷ rs) s =
    let k = min b (remaining r) in
    omega (arith, remaining_advanced k r (min-le_right b (remaining r)), of_written d (b - k) rs (steps_done d k r s))

pub smaller : (d : Drives) (b : ℕ) (t : List Record) (s : Store) → (written d b t s).steps ≡ min b (sum_of remaining t)
unfolding written
smaller d b [] s = omega arith
smaller d b (r ∷ rs) s =
    let k = min b (remaining r) in
    omega (arith, smaller d (b - k) rs (steps_done d k r s))
