-- The part that a look hands back is the sector, or empty exactly where its number is not 0: with number 0 the sector lies in the unit's image.
use mathlib.Core.Path.{◌≡◌, sym, ap, ◌∙◌}
use mathlib.Core.Logic.{◌≢◌}
use Prim.Native.Nat.{ℕ, ◌*◌}
use native.Mathlib.Omega.{arith}
use mathlib.Core.Bool.{Bool}
use mathlib.Core.List.{[]}
use lib.ListN.{length, take, drop, length-take, length-drop}
use lib.Seq.{get_or-take, get_or-drop}
use Rattle.meaning.specs.Drives.{Drives}
use Rattle.meaning.specs.Store.{disk, Store, lent, images, get}
use Rattle.meaning.specs.Sectors.{sector_bytes}
use Rattle.meaning.specs.Look.{look_number, look_part, looked_part, image_of}
use Rattle.meaning.proofs.Means.{Means, holds, fails, is_true, is_false, means_eq}
use Rattle.meaning.proofs.Conditions.{present_below}
use Rattle.meaning.proofs.Looks.{look_within, look_present, part_refused, looked_is_look, image_at}
use Rattle.promises.specs.Looks.{LookGives, LookOfOwnImage}

module _ (d : Drives) (u n : ℕ) (s : Store) where
  part_taken : look_number d u n s ≡ 0 → look_part d u n s ≡ take sector_bytes (drop (sector_bytes * n) (s (disk u)))
  unfolding look_part get
  part_taken e = rw (is_true (means_eq (look_number d u n s) 0) e)

  part_empty : look_number d u n s ≢ 0 → look_part d u n s ≡ []
  unfolding look_part
  part_empty e = rw (is_false (means_eq (look_number d u n s) 0) e)

  part_length : look_number d u n s ≡ 0 → length (look_part d u n s) ≡ sector_bytes
  part_length e = rw (part_taken e) (simp (length-take, length-drop) (omega (arith, look_within d u n s e)))

  pub look_gives : LookGives d u n s
  look_gives =
      record {
        empty = ((λ e f. absurd (omega (arith, part_length f, ap length e))), part_empty);
        whole = part_length;
        bytes = λ e j h. rw (part_taken e) (get_or-take sector_bytes (drop (sector_bytes * n) (s (disk u))) j 0 h ∙ get_or-drop (sector_bytes * n) (s (disk u)) j 0);
        named = sym (looked_is_look d u n s);
      }

pub look_of_own_image : LookOfOwnImage
look_of_own_image d u n m i₀ i₁ i₂ i₃ =
    let s = lent m (images i₀ i₁ i₂ i₃) in
    go s (means_eq (look_number d u n s) 0) (λ e. image_at u i₀ i₁ i₂ i₃ (present_below d u (look_present d u n s e)))
  where
    go : (s : Store) {b : Bool}
        → Means (look_number d u n s ≡ 0) b
        → (look_number d u n s ≡ 0 → image_of u i₀ i₁ i₂ i₃ ≡ s (disk u))
        → let p = looked_part d u n s in look_part d u n s ≡ take p.length (drop p.at (image_of u i₀ i₁ i₂ i₃))
    go s (holds e) own = rw (own e) (sym (looked_is_look d u n s))
    go s (fails o) own = rw (part_refused d u n s o) (part_empty d u n s o)
