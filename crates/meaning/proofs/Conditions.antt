-- Each condition means what its test computes: read off part by part with the laws of `Means`. And a record that number 9 lets pass,
-- taken apart.
use mathlib.Core.Path.{◌≡◌, sym, ◌∙◌}
use mathlib.Core.Logic.{◌⊎◌, inl, inr}
use Prim.Native.Nat.{ℕ, ◌+◌, ◌*◌, ◌≤◌, ◌<◌}
use native.Mathlib.Nat.{one-le-mul}
use native.Mathlib.Omega.{arith}
use mathlib.Core.Bool.{true, false, not, ◌&&◌, or_assoc, true≢false}
use mathlib.Core.List.{List, [], ◌∷◌}
use lib.ListN.{length}
use lib.Dec.{leb, eqb}
use Rattle.std.proofs.lemmas.Bool.{not-false}
use Rattle.meaning.specs.declared.Drive.{Drive}
use Rattle.meaning.specs.declared.Record.{Record}
use Rattle.meaning.specs.Store.{memory, disk, Store}
use Rattle.meaning.specs.State.{State, most_commands}
use Rattle.meaning.specs.Sectors.{sector_bytes, image_limit, per_cylinder, sector_count, maxima_right, image_right}
use Rattle.meaning.specs.Fields.{iopb_bytes}
use Rattle.meaning.specs.Drives.{Drives, most_units}
use Rattle.meaning.specs.Sizes.{memory_limit, unit_wrong, images_wrong, store_wrong, sizes_wrong}
use Rattle.meaning.specs.Ranges.{Range}
use Rattle.meaning.specs.Links.{most_links, bytes_in}
use Rattle.meaning.specs.Code.{command_in, read, write, outside}
use Rattle.meaning.specs.Touch.{data_bytes}
use Rattle.meaning.specs.Command.{reads, writes, transfers, steps_of, finished, no_record}
use Rattle.meaning.specs.Pick.{bad_transfer, bad_record, spoiled}
use Rattle.meaning.specs.Conditions.{MaximaWrong, ImageWrong, Present, Absent, ImagesWrong, StoreWrong, SizesWrong, Reads, Writes, Finished, SomeOf, Outside, BadTransfer, BadRecord, Spoiled}
use Rattle.meaning.proofs.Means.{Means, when_true, when_false, is_false, means_stable, means_below, means_itself, means_off, means_and, means_or, means_or₃, means_not-and, means_above, means_other, means_lt, means_le, means_eq, means_of, means_some}
use Rattle.meaning.proofs.All.{All}

at_most : {a b : ℕ} → ¬ (a < b) → b ≤ a
at_most h = omega arith

-- ---- sizes

pub means_maxima : (d : Drive) → Means (MaximaWrong d) (not (maxima_right d))
unfolding maxima_right
means_maxima d = means_above d.last_sector d.sector

means_image : (d : Drive) (n : ℕ) → Means (ImageWrong d n) (not (image_right d n))
unfolding image_right
means_image d n =
    let size = sector_bytes * sector_count d in
    means_not-and (maxima_right d) (leb n image_limit && eqb n size) (means_maxima d)
    (means_not-and (leb n image_limit) (eqb n size) (means_above n image_limit) (means_other n size))

-- whether a unit is there, or absent
pub means_present : (d : Drives) (u : ℕ) → Means (Present d u) (d.on u).present
means_present d u = means_itself (d.on u).present

pub means_absent : (d : Drives) (u : ℕ) → Means (Absent d u) (not (d.on u).present)
means_absent d u = means_off (d.on u).present

pub means_images : (d : Drives) (s : Store) → Means (ImagesWrong d s) (images_wrong d s)
unfolding images_wrong unit_wrong
means_images d s = means_below (λ u. means_and (means_present d u) (means_image (d.on u) (length (s (disk u))))) most_units

pub means_store : (d : Drives) (s : Store) → Means (StoreWrong d s) (store_wrong d s)
unfolding store_wrong
means_store d s = means_or (means_lt memory_limit (length (s memory))) (means_images d s)

pub means_sizes : (d : Drives) (s : State) → Means (SizesWrong d s) (sizes_wrong d s)
unfolding sizes_wrong
means_sizes d s = means_or (means_store d s.store) (means_lt (length s.table) most_commands)

-- a unit that is there is one of the four
pub present_below : (d : Drives) (u : ℕ) → Present d u → u < most_units
present_below d u e = means_stable (means_lt u most_units) (λ n. true≢false (sym e ∙ d.absent_above u (at_most n)))

-- where no image is wrong, that of a unit that is there has the bytes of its drive's sectors, of which there is one at least
pub image_size : (d : Drives) (s : Store) → images_wrong d s ≡ false → (u : ℕ) → Present d u → length (s (disk u)) ≡ sector_bytes * sector_count (d.on u)
image_size d s right u e =
    means_stable (means_eq (length (s (disk u))) (sector_bytes * sector_count (d.on u)))
    (λ n. when_false (means_images d s) right (u, present_below d u e, (e, inr (inr n))))

pub some_sector : (d : Drive) → 1 ≤ sector_count d
unfolding sector_count per_cylinder
some_sector d = one-le-mul (omega arith) (omega arith)

-- sizes that are right
pub record RightStore (d : Drives) (s : Store) : Type 0 where
  pub memory_fits : length (s memory) ≤ memory_limit
  pub image_exact : (u : ℕ) → Present d u → length (s (disk u)) ≡ sector_bytes * sector_count (d.on u)

pub right_store : (d : Drives) (s : Store) → store_wrong d s ≡ false → RightStore d s
right_store d s e =
    let n = when_false (means_store d s) e in
    record { memory_fits = at_most (λ h. n (inl h)); image_exact = image_size d s (is_false (means_images d s) (λ w. n (inr w))) }

-- ---- kinds

pub means_reads : (r : Record) → Means (Reads r) (reads r)
means_reads r = means_and (means_eq r.code 0) (means_eq (command_in r.byte0) read)

pub means_writes : (r : Record) → Means (Writes r) (writes r)
means_writes r = means_and (means_eq r.code 0) (means_eq (command_in r.byte0) write)

pub means_transfers : (r : Record) → Means (Reads r ⊎ Writes r) (transfers r)
means_transfers r = means_or (means_reads r) (means_writes r)

pub not_both : (r : Record) → Reads r → Writes r → ⊥
not_both r p q = let z : ◌≡◌ {A = ℕ} 1 2 = cc in omega arith

pub means_finished : (r : Record) → Means (Finished r) (finished r)
unfolding finished
means_finished r = means_le (steps_of r) r.taken

-- ---- number 9

pub means_outside : (n : ℕ) (x : Range) → Means (Outside n x) (outside n x)
means_outside n x = means_lt n (x.from + x.many)

-- a range that lies in a memory of n bytes; so does each where none lies outside
abbrev pub Inside : ℕ → Range → Type 0
Inside n x = x.from + x.many ≤ n

pub all_inside : (n : ℕ) (xs : List Range) → ¬ SomeOf (Outside n) xs → All (Inside n) xs
all_inside n [] h = tt
all_inside n (x ∷ xs) h = (at_most (λ o. h (inl o)), all_inside n xs (λ o. h (inr o)))

pub means_bad_transfer : (d : Drives) (s : Store) (r : Record) → Means (BadTransfer d s r) (bad_transfer d s r)
unfolding bad_transfer
means_bad_transfer d s r =
    simp or_assoc
    (means_or (means_absent d r.unit)
    (means_or (means_eq r.count 0)
    (means_or (means_lt most_links r.ranges)
    (means_or (means_of (means_outside (length (s memory))) (data_bytes r))
    (means_or (means_other (bytes_in (data_bytes r)) (sector_bytes * r.count))
    (means_or (means_lt (sector_count (d.on r.unit)) (r.sector + r.count))
    (means_and (means_writes r) (means_itself (d.on r.unit).protected))))))))

pub means_bad_record : (d : Drives) (s : Store) (r : Record) → Means (BadRecord d s r) (bad_record d s r)
unfolding bad_record
means_bad_record d s r =
    means_or₃ (means_above (r.iopb + iopb_bytes) (length (s memory))) (means_lt (steps_of r) r.taken)
    (means_and (means_transfers r) (means_bad_transfer d s r))

pub means_spoiled : (d : Drives) (n : ℕ) (s : State) → Means (Spoiled d n s) (spoiled d n s)
unfolding spoiled
means_spoiled d n s = means_or (means_lt most_commands n) (means_some (means_bad_record d s.store) no_record n s.table)

-- a record that is not bad, part by part
pub record Good (d : Drives) (s : Store) (r : Record) : Type 0 where
  pub placed : r.iopb + iopb_bytes ≤ length (s memory)
  pub few : r.taken ≤ steps_of r
  pub there : transfers r ≡ true → Present d r.unit
  pub some : transfers r ≡ true → 1 ≤ r.count
  pub held : transfers r ≡ true → r.ranges ≤ most_links
  pub bytes_in_lem : transfers r ≡ true → All (Inside (length (s memory))) (data_bytes r)
  pub bytes_whole : transfers r ≡ true → bytes_in (data_bytes r) ≡ sector_bytes * r.count
  pub sectors_in : transfers r ≡ true → r.sector + r.count ≤ sector_count (d.on r.unit)

pub good : (d : Drives) (s : Store) (r : Record) → bad_record d s r ≡ false → Good d s r
good d s r e =
    let n = when_false (means_bad_record d s r) e in
    let transfer : transfers r ≡ true → ¬ BadTransfer d s r = λ t b. n (inr (inr (when_true (means_transfers r) t, b))) in
    record {
      placed = at_most (λ h. n (inl h));
      few = at_most (λ h. n (inr (inl h)));
      there = λ t. is_there (means_absent d r.unit) (λ z. transfer t (inl z));
      some = λ t. above (λ z. transfer t (inr (inl z)));
      held = λ t. at_most (λ h. transfer t (inr (inr (inl h))));
      bytes_in_lem = λ t. all_inside (length (s memory)) (data_bytes r) (λ o. transfer t (inr (inr (inr (inl o)))));
      bytes_whole = λ t. means_stable (means_eq (bytes_in (data_bytes r)) (sector_bytes * r.count)) (λ o. transfer t (inr (inr (inr (inr (inl o))))));
      sectors_in = λ t. at_most (λ h. transfer t (inr (inr (inr (inr (inr (inl h)))))));
    }
  where
    above : {a : ℕ} → ¬ (a ≡ 0) → 1 ≤ a
    above h = omega arith

    is_there : {P : Type 0} → Means P (not (d.on r.unit).present) → ¬ P → Present d r.unit
    is_there m n = not-false (d.on r.unit).present (is_false m n)
