-- An absent unit counts as one and the same drive, whatever is lent for it; and every test of an image asks first whether the unit is there.
use mathlib.Core.Path.{◌≡◌, refl, ap, ap₂, fun_ext, subst}
use mathlib.Core.HLevel.{Π_prop, is_prop→PathP}
use Prim.Native.Nat.{ℕ, ◌≤◌}
use mathlib.Core.Bool.{Bool, true, false, ◌||◌, cond, Bool-set}
use mathlib.Core.List.{List, []}
use lib.ListN.{length, take}
use lib.Dec.{ltb}
use borrow.Author.Tests.{ltb-true}
use Rattle.meaning.specs.declared.Drive.{Drive}
use Rattle.meaning.specs.Each.{some_of, up_to}
use Rattle.meaning.specs.Drives.{Drives, most_units, no_drive, there, drive_of, drives_of}
use Rattle.meaning.specs.declared.Record.{Record}
use Rattle.meaning.specs.Store.{Store}
use Rattle.meaning.specs.State.{most_commands, state_in}
use Rattle.meaning.specs.Sizes.{unit_wrong, images_wrong, store_wrong, sizes_wrong}
use Rattle.meaning.specs.Look.{look_number}
use Rattle.meaning.specs.Code.{odd}
use Rattle.meaning.specs.Walk.{Chain, refused, follow, chain_at, answered, filled, walk_reply, walk_leaves}
use Rattle.meaning.specs.Pick.{bad_transfer, bad_record, spoiled, pick_number}
use Rattle.meaning.specs.Run.{run_number}
use Rattle.promises.specs.AbsentUnits.{lent_for, AbsentDriveHasNoSay, SameStore, AbsentImageHasNoSay}

-- ---- drives

-- drives are known by the drive of each unit: that those above 3 are absent says nothing more
drives_by_unit : (d e : Drives) → ((u : ℕ) → d.on u ≡ e.on u) → d ≡ e
drives_by_unit d e h =
    λ i.
    record {
      on = λ u. h u i;
      absent_above =
          is_prop→PathP (λ j. (u : ℕ) → most_units ≤ u → (h u j).present ≡ false) (λ j. Π_prop (λ u. Π_prop (λ _. Bool-set (h u j).present false)))
          d.absent_above e.absent_above i;
    }

same_there : (d e : Drive) → d.present ≡ e.present → (d.present ≡ true → d ≡ e) → there d ≡ there e
same_there d e p h = go d.present refl
  where
    go : (b : Bool) → d.present ≡ b → there d ≡ there e
    go true f = ap there (h f)
    go false f = rw (f, ← p, f)

pub absent_drive_has_no_say : AbsentDriveHasNoSay
unfolding drive_of
absent_drive_has_no_say l l' same = record { on = on; replies = λ P x. subst P (drives_by_unit (drives_of l) (drives_of l') on) x }
  where
    on : (u : ℕ) → drive_of l u ≡ drive_of l' u
    on u = go (ltb u most_units) refl
      where
        go : (b : Bool) → ltb u most_units ≡ b → cond b (there (lent_for l u)) no_drive ≡ cond b (there (lent_for l' u)) no_drive
        go true e = let h = ltb-true u most_units e in same_there (lent_for l u) (lent_for l' u) (same.present u h) (same.drives u h)
        go false e = refl

-- ---- images

module _ (d : Drives) (s s' : Store) (same : SameStore d s s') where
  unit_same : (u : ℕ) → unit_wrong d s u ≡ unit_wrong d s' u
  unfolding unit_wrong
  unit_same u = go (d.on u).present refl
    where
      go : (b : Bool) → (d.on u).present ≡ b → unit_wrong d s u ≡ unit_wrong d s' u
      go true e = rw (same.disks u e)
      go false e = rw e

  images_same : images_wrong d s ≡ images_wrong d s'
  unfolding images_wrong
  images_same = ap (λ (f : ℕ → Bool). some_of f (up_to most_units)) (fun_ext unit_same)

  store_same : store_wrong d s ≡ store_wrong d s'
  unfolding store_wrong
  store_same = rw (same.bytes, images_same)

  module _ (t : List Record) where
    sizes_same : sizes_wrong d (state_in s t) ≡ sizes_wrong d (state_in s' t)
    unfolding sizes_wrong
    sizes_same = ap (λ (b : Bool). b || ltb (length t) most_commands) store_same

    chain_same : (start : ℕ) → chain_at d start (state_in s t) ≡ chain_at d start (state_in s' t)
    unfolding chain_at
    chain_same start =
        ap₂ (λ (b : Bool) (m : List ℕ). cond b (refused 1) (cond (odd start) (refused 2) (follow most_commands m d [] start))) sizes_same same.bytes

    bad_same : (r : Record) → bad_record d s r ≡ bad_record d s' r
    unfolding bad_record bad_transfer
    bad_same r = rw same.bytes

    spoiled_same : (n : ℕ) → spoiled d n (state_in s t) ≡ spoiled d n (state_in s' t)
    unfolding spoiled
    spoiled_same n = ap (λ (f : Record → Bool). ltb most_commands n || some_of f (take n t)) (fun_ext bad_same)

pub absent_image_has_no_say : AbsentImageHasNoSay
unfolding look_number walk_reply walk_leaves pick_number run_number
absent_image_has_no_say d s s' same =
    record {
      store = store_same d s s' same;
      look = λ u n. rw (images_same d s s' same);
      walk = λ start t. ap answered (chain_same d s s' same t start);
      records = λ start t. ap (λ (c : Chain). filled c t) (chain_same d s s' same t start);
      pick = λ n p t. rw (sizes_same d s s' same t, spoiled_same d s s' same t n);
      run = λ n t. rw (sizes_same d s s' same t, spoiled_same d s s' same t n);
    }
