-- The run as written at its first command: as many steps of it as the budget and what remains of it allow, and then the rest. So a
-- finished command is passed by, and of an unfinished one a single step may be taken before the same with one step less of budget.
use mathlib.Core.Path.{◌≡◌, refl, sym, ap, ◌∙◌}
use Prim.Native.Nat.{ℕ, suc, ◌+◌, ◌-◌, ◌<◌, min}
use native.Mathlib.Nat.{min-zero, sub-zero, suc-min-suc, suc-sub-suc, suc-add, add-suc}
use mathlib.Core.Bool.{true}
use mathlib.Core.List.{List, [], ◌∷◌}
use Rattle.meaning.specs.Drives.{Drives}
use Rattle.meaning.specs.declared.Record.{Record}
use Rattle.meaning.specs.Store.{Store}
use Rattle.meaning.specs.State.{State}
use Rattle.meaning.specs.Command.{finished, remaining}
use Rattle.meaning.specs.Step.{step, stepped}
use Rattle.meaning.specs.Run.{advanced, steps_done, Tally, written}
use Rattle.meaning.proofs.Records.{finished_none, remaining_stepped}

-- k steps of the command r, ahead of what y has come to
abbrev pub ahead : ℕ → Record → State → State
ahead k r s = record { table = advanced k r ∷ s.table; store = s.store }

abbrev pub front : ℕ → Record → Tally → Tally
front k r y = record { steps = k + y.steps; refused = y.refused; state = ahead k r y.state }

-- one step more than y counts
abbrev pub one_more : Tally → Tally
one_more y = record { steps = suc y.steps; refused = y.refused; state = y.state }

front_suc : (k : ℕ) (r : Record) (y : Tally) → front (suc k) r y ≡ one_more (front k (stepped r) y)
unfolding advanced
front_suc k r y = λ i. record { steps = suc-add k y.steps i; refused = y.refused; state = ahead k (stepped r) y.state }

pub front_one_more : (k : ℕ) (r : Record) (y : Tally) → front k r (one_more y) ≡ one_more (front k r y)
front_one_more k r y = λ i. record { steps = add-suc k y.steps i; refused = y.refused; state = ahead k r y.state }

module _ (d : Drives) (b : ℕ) (r : Record) (rs : List Record) (s : Store) where
  pub written_cons : (k : ℕ) → min b (remaining r) ≡ k → written d b (r ∷ rs) s ≡ front k r (written d (b - k) rs (steps_done d k r s))
  unfolding written
  written_cons k e = ap (λ (j : ℕ). front j r (written d (b - j) rs (steps_done d j r s))) e

  pub written_finished : finished r ≡ true → written d b (r ∷ rs) s ≡ front 0 r (written d b rs s)
  unfolding steps_done
  written_finished e =
      written_cons 0 (ap (min b) (finished_none r e) ∙ min-zero b) ∙ ap (λ (j : ℕ). front 0 r (written d j rs s)) (sub-zero b)

pub written_unfinished : (d : Drives) (b : ℕ) (r : Record) (rs : List Record) (s : Store) → 0 < remaining r
    → written d (suc b) (r ∷ rs) s ≡ one_more (written d b (stepped r ∷ rs) (step d r s))
unfolding steps_done
written_unfinished d b r rs s h =
    let m = remaining (stepped r) in
    let k = min b m in
    let u = steps_done d k (stepped r) (step d r s) in
    written_cons d (suc b) r rs s (suc k) (ap (min (suc b)) (sym (remaining_stepped r h)) ∙ suc-min-suc b m)
    ∙ ap (λ (j : ℕ). front (suc k) r (written d j rs u)) (suc-sub-suc b k)
    ∙ front_suc k r (written d (b - k) rs u)
    ∙ sym (ap one_more (written_cons d b (stepped r) rs (step d r s) k refl))

-- no pick is refused
pub none_refused : (d : Drives) (b : ℕ) (t : List Record) (s : Store) → (written d b t s).refused ≡ 0
unfolding written
none_refused d b [] s = refl
none_refused d b (r ∷ rs) s = let k = min b (remaining r) in none_refused d (b - k) rs (steps_done d k r s)
