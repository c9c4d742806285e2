-- Places and numbers are one to one, and the rest of specs/Numbering: the laws of `meaning`, put together.
use mathlib.Core.Path.{◌≡◌, sym, ap, ◌∙◌}
use mathlib.Core.Logic.{◌≢◌}
use Prim.Native.Nat.{ℕ, ◌+◌, ◌*◌}
use native.Mathlib.Nat.{mul_assoc}
use native.Mathlib.Omega.{arith}
use mathlib.Core.Bool.{true}
use Rattle.meaning.specs.declared.Drive.{Drive}
use Rattle.meaning.specs.Sectors.{count_of, per_track, per_cylinder, sector_count, sector_number, maxima_right}
use Rattle.meaning.specs.Place.{place_at, place_of, placed_number, placed}
use Rattle.meaning.specs.Conditions.{MaximaWrong}
use Rattle.meaning.proofs.Means.{is_true, is_false, means_le, means_eq}
use Rattle.meaning.proofs.Table.{otherwise, ◌&◌, by_number}
use Rattle.meaning.proofs.Conditions.{means_maxima}
use Rattle.meaning.proofs.Numbering.{number_below, number_of_place, place_of_number, place_on_drive, follows, after_number, equal_cylinder, equal_maximum}
use Rattle.promises.specs.Numbering.{PlacesAreNumbers, NextSector, StepsFollow, PlacedExactlyWhen, PlacedGives, EqualHeadsAsBefore}
use Rattle.promises.proofs.Numbers.{no_such_sector}

-- maxima that are not wrong are right
right : (d : Drive) → ¬ MaximaWrong d → maxima_right d ≡ true
unfolding maxima_right
right d h = is_true (means_le d.last_sector d.sector) (omega arith)

pub places_are_numbers : PlacesAreNumbers
places_are_numbers d h =
    let r = right d h in
    record {
      below = number_below d;
      some_place = λ n l. (place_of d n, place_on_drive d r n l, number_of_place d n);
      one_place = λ p q on on' e. sym (place_of_number d r p on) ∙ ap (place_of d) e ∙ place_of_number d r q on';
    }

pub next_sector : NextSector
next_sector = follows

pub steps_follow : StepsFollow
steps_follow d h = after_number d (right d h)

pub placed_exactly_when : (d : Drive) (n N : ℕ) → PlacedExactlyWhen d n N
unfolding placed
placed_exactly_when d n = by_number (means_maxima d & no_such_sector d n & otherwise) tt

module _ (d : Drive) (n : ℕ) where
  place_given : (placed d n).number ≡ 0 → (placed d n).place ≡ place_of d n
  unfolding placed
  place_given e = rw (is_true (means_eq (placed_number d n) 0) e)

  no_place : (placed d n).number ≢ 0 → (placed d n).place ≡ place_at 0 0 0
  unfolding placed
  no_place e = rw (is_false (means_eq (placed_number d n) 0) e)

  pub placed_gives : PlacedGives d n
  placed_gives =
      record {
        on_drive_lem = λ e. let given = (placed_exactly_when d n 0).0 e in rw (place_given e) (place_on_drive d (right d given.0) n (omega (arith, given.1.0)));
        its_number = λ e. rw (place_given e) (number_of_place d n);
        refused = no_place;
      }

pub equal_heads_as_before : EqualHeadsAsBefore
unfolding sector_count sector_number
equal_heads_as_before d e =
    record {
      count = cylinders (count_of d.cylinder);
      number = λ c h s. ap (λ (n : ℕ). n + h * per_track d + s) (cylinders c);
      maximum = equal_maximum d e;
    }
  where
    cylinders : (c : ℕ) → c * per_cylinder d ≡ c * count_of d.head * per_track d
    cylinders c = ap (λ (n : ℕ). c * n) (equal_cylinder d e) ∙ sym (mul_assoc c (count_of d.head) (per_track d))
