-- A look at a sector of a unit: for each of its numbers exactly when it is given (Look 4 to 7), and the bytes of the part that it hands back
-- (Look 1, 3). d are the drives, u is the unit and n the sector asked for, s the store with the images.
use Rattle.std.specs.Prelude.{◌≡◌, ◌↔◌, ◌≢◌, ℕ, ◌+◌, ◌≤◌, ◌<◌, List, [], ◌∷◌, length, get_or, take, drop}
use Rattle.meaning.specs.Drives.{Drives}
use Rattle.meaning.specs.Store.{disk, Store, lent, images}
use Rattle.meaning.specs.Sectors.{sector_bytes, sector_count, on_disk}
use Rattle.meaning.specs.Look.{look_number, look_part, looked_part, image_of}
use Rattle.meaning.specs.Table.{Case, ◌⇒◌, Otherwise, Given}
use Rattle.meaning.specs.Conditions.{Absent, ImagesWrong}

module _ (d : Drives) (u n : ℕ) (s : Store) where
  -- the image of any unit that is there, then the unit itself, then its sectors
  abbrev pub look_table : List Case
  look_table =
      ImagesWrong d s ⇒ 1
      ∷ Absent d u ⇒ 11
      ∷ (sector_count (d.on u) ≤ n) ⇒ 10
      ∷ Otherwise ⇒ 0
      ∷ []

  abbrev pub LookExactlyWhen : ℕ → Type 0
  LookExactlyWhen N = (look_number d u n s ≡ N) ↔ Given look_table N

  -- the part is the sector's 512 bytes of the unit's image, or empty exactly where the number is not 0; named by place and length it is the same
  pub record LookGives : Type 0 where
    pub empty : (look_part d u n s ≡ []) ↔ (look_number d u n s ≢ 0)
    pub whole : look_number d u n s ≡ 0 → length (look_part d u n s) ≡ sector_bytes
    pub bytes : look_number d u n s ≡ 0 → (j : ℕ) → j < sector_bytes → get_or (look_part d u n s) j 0 ≡ get_or (s (disk u)) ((on_disk u n).from + j) 0
    pub named : look_part d u n s ≡ take (looked_part d u n s).length (drop (looked_part d u n s).at (s (disk u)))

-- where four images are lent, it is that part of the unit's own one
abbrev pub LookOfOwnImage : Type 0
LookOfOwnImage =
    (d : Drives) (u n : ℕ) (m i₀ i₁ i₂ i₃ : List ℕ)
    → let s = lent m (images i₀ i₁ i₂ i₃) in
    let p = looked_part d u n s in
    look_part d u n s ≡ take p.length (drop p.at (image_of u i₀ i₁ i₂ i₃))
