-- A step keeps the length of every space, so it changes neither number 1 nor number 9: sizes stay, and the record of an unfinished
-- command is as good after its step as before.
use mathlib.Core.Path.{◌≡◌, refl, fun_ext, ◌∙◌}
use Prim.Native.Nat.{ℕ, zero, suc}
use mathlib.Core.Bool.{false}
use lib.ListN.{get_or, length-set}
use Rattle.meaning.specs.Drives.{Drives}
use Rattle.meaning.specs.declared.Record.{Record}
use Rattle.meaning.specs.Store.{memory, disk, Store}
use Rattle.meaning.specs.State.{State}
use Rattle.meaning.specs.Sizes.{unit_wrong, images_wrong, store_wrong, sizes_wrong}
use Rattle.meaning.specs.Command.{finished, no_record}
use Rattle.meaning.specs.Step.{step_moves, stepped, step}
use Rattle.meaning.specs.Pick.{bad_transfer, bad_record, spoiled, place_number, pick_number, step_at}
use Rattle.meaning.specs.Run.{steps_done, run_number}
use Rattle.meaning.proofs.Tests.{some_set}
use Rattle.meaning.proofs.Spaces.{AsLong, length_moves}
use Rattle.meaning.proofs.Numbers.{place_free, Passed, passed_run, pick_passed}
use Rattle.meaning.proofs.Records.{bad_stepped}

pub step_keeps_lengths : (d : Drives) (r : Record) (s : Store) → AsLong (step d r s) s
unfolding step
step_keeps_lengths d r s = length_moves (step_moves d r) s

pub steps_keep_lengths : (d : Drives) (k : ℕ) (r : Record) (s : Store) → AsLong (steps_done d k r s) s
unfolding steps_done
steps_keep_lengths d zero r s p = refl
steps_keep_lengths d (suc k) r s p = steps_keep_lengths d k (stepped r) (step d r s) p ∙ step_keeps_lengths d r s p

-- ---- stores that are as long

pub store_as_long : (d : Drives) (u s : Store) → AsLong u s → store_wrong d u ≡ store_wrong d s
unfolding store_wrong images_wrong unit_wrong
store_as_long d u s h = rw (h memory, h (disk 0), h (disk 1), h (disk 2), h (disk 3))

pub bad_as_long : (d : Drives) (u s : Store) (r : Record) → AsLong u s → bad_record d u r ≡ bad_record d s r
unfolding bad_record bad_transfer
bad_as_long d u s r h = rw (h memory)

-- ---- after a step of an unfinished command

sizes_step : (d : Drives) (p : ℕ) (s : State) → sizes_wrong d (step_at d p s) ≡ sizes_wrong d s
unfolding sizes_wrong step_at
sizes_step d p s =
    let r = get_or s.table p no_record in
    rw (store_as_long d (step d r s.store) s.store (step_keeps_lengths d r s.store), length-set s.table p (stepped r))

spoiled_step : (d : Drives) (n p : ℕ) (s : State) → finished (get_or s.table p no_record) ≡ false → spoiled d n (step_at d p s) ≡ spoiled d n s
unfolding spoiled step_at
spoiled_step d n p s e =
    let r = get_or s.table p no_record in
    rw (
      fun_ext (λ q. bad_as_long d (step d r s.store) s.store q (step_keeps_lengths d r s.store)),
      some_set (bad_record d s.store) s.table n p (stepped r) no_record (bad_stepped d s.store r e),
    )

-- so a step at a place that gets 0 leaves a state that 1 and 9 let pass
pub passed_step : (d : Drives) (n p : ℕ) (s : State) → place_number s.table n p ≡ 0 → Passed d n s → Passed d n (step_at d p s)
passed_step d n p s e h =
    record {
      sizes = sizes_step d p s ∙ h.sizes;
      sound = spoiled_step d n p s (place_free s.table n p e).unfinished ∙ h.sound;
    }

pub still_accepted : (d : Drives) (n p : ℕ) (s : State) → pick_number d n p s ≡ 0 → run_number d n (step_at d p s) ≡ 0
still_accepted d n p s e =
    let z = pick_passed d n s p e in
    passed_run d n (step_at d p s) (passed_step d n p s z.1 z.0)
