-- Places and sector numbers (Drive 2 to 7, Place 1 to 8): they are one to one, the next sector is at the next place, the call for the place
-- of a number gives it, and where all heads are equal everything is as it was with one maximum for all.
use Rattle.std.specs.Prelude.{◌≡◌, ◌↔◌, ◌≢◌, ℕ, ◌+◌, ◌*◌, ◌≤◌, ◌<◌, List, [], ◌∷◌}
use Rattle.std.proofs.Math.Option.{some}
use Rattle.meaning.specs.declared.Drive.{Drive}
use Rattle.meaning.specs.declared.Place.{Place}
use Rattle.meaning.specs.Sectors.{count_of, maximum_on, sector_count, sector_number}
use Rattle.meaning.specs.Place.{place_at, OnDrive, number_of, place_after, Follows, place_of, placed}
use Rattle.meaning.specs.Table.{Case, ◌⇒◌, Otherwise, Given}
use Rattle.meaning.specs.Conditions.{MaximaWrong}

-- The numbers of the drive's places are exactly the numbers below its count, each of one place.
pub record OneToOne (d : Drive) : Type 0 where
  pub below : (p : Place) → OnDrive d p → number_of d p < sector_count d
  pub some_place : (n : ℕ) → n < sector_count d → (p : Place) × OnDrive d p × (number_of d p ≡ n)
  pub one_place : (p q : Place) → OnDrive d p → OnDrive d q → number_of d p ≡ number_of d q → p ≡ q

abbrev pub PlacesAreNumbers : Type 0
PlacesAreNumbers = (d : Drive) → ¬ MaximaWrong d → OneToOne d

-- The place after a place is a place of the drive and has the next number; the drive's last place, and no other, has none after it.
abbrev pub NextSector : Type 0
NextSector = (d : Drive) (p : Place) → OnDrive d p → Follows d p (place_after d p)

-- So a transfer that goes on by one sector number goes on by one place: to the next sector of the head, the next head, the next cylinder.
abbrev pub StepsFollow : Type 0
StepsFollow = (d : Drive) → ¬ MaximaWrong d → (n : ℕ) → n + 1 < sector_count d → place_after d (place_of d n) ≡ some (place_of d (n + 1))

-- The call: its numbers, and what it gives with them.
module _ (d : Drive) (n : ℕ) where
  abbrev pub placed_table : List Case
  placed_table = MaximaWrong d ⇒ 1 ∷ (sector_count d ≤ n) ⇒ 10 ∷ Otherwise ⇒ 0 ∷ []

  abbrev pub PlacedExactlyWhen : ℕ → Type 0
  PlacedExactlyWhen N = ((placed d n).number ≡ N) ↔ Given placed_table N

  pub record PlacedGives : Type 0 where
    pub on_drive_lem : (placed d n).number ≡ 0 → OnDrive d (placed d n).place
    pub its_number : (placed d n).number ≡ 0 → number_of d (placed d n).place ≡ n
    pub refused : (placed d n).number ≢ 0 → (placed d n).place ≡ place_at 0 0 0

-- With equal heads: count, numbers and the maximum of every head, by the one maximum.
pub record AsBefore (d : Drive) : Type 0 where
  pub count : sector_count d ≡ count_of d.cylinder * count_of d.head * count_of d.sector
  pub number : (c h s : ℕ) → sector_number d c h s ≡ c * count_of d.head * count_of d.sector + h * count_of d.sector + s
  pub maximum : (h : ℕ) → maximum_on d h ≡ d.sector

abbrev pub EqualHeadsAsBefore : Type 0
EqualHeadsAsBefore = (d : Drive) → d.last_sector ≡ d.sector → AsBefore d
