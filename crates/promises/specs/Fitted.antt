-- How much would have fitted: when the byte is told that a close posts as byte 3 (Code 18), and what the number means (Code 17).
-- c is what the walk copied, d the drive of the command's own unit, m memory.
use Rattle.std.specs.Prelude.{◌≡◌, ◌↔◌, ◌≢◌, ℕ, ◌+◌, ◌-◌, ◌*◌, ◌/◌, ◌≤◌, ◌<◌, min, true, false, cond, List, [], ◌∷◌, ◌++◌, map, length}
use Rattle.meaning.specs.declared.Drive.{Drive}
use Rattle.meaning.specs.declared.Copied.{Copied}
use Rattle.meaning.specs.declared.End.{End}
use Rattle.meaning.specs.Sectors.{sector_bytes, sector_count}
use Rattle.meaning.specs.Ranges.{bytes}
use Rattle.meaning.specs.Ends.{drive_end, memory_end}
use Rattle.meaning.specs.Code.{gathers, first_sector, links_in, code_of, fitted_of}
use Rattle.meaning.specs.Table.{Case, ◌⇒◌, Otherwise, NoneOf, FirstAt, GivesAt}
use Rattle.promises.specs.Codes.{command_table, place_table, PastDrive, Forbidden, list_table, PastMemory}

-- ---- when

-- the same cases, and nothing told of any
abbrev pub silent : List Case → List Case
silent cases = map (λ k. k.holds ⇒ 0) cases

-- the drive's sectors from the first one on; the whole 512-byte pieces from the data address to the end of memory, and nothing where the
-- command has a link list; each as one byte
abbrev pub on_drive : Copied → Drive → ℕ
on_drive c d = min (sector_count d - first_sector d c) 255

abbrev pub in_memory : Copied → List ℕ → ℕ
in_memory c m = cond (gathers c) 0 (min ((length m - c.address) / 512) 255)

module _ (c : Copied) (d : Drive) (m : List ℕ) where
  -- the cases of the code's table, in its order, with what is told in the place of each code
  abbrev pub fitted_table : List Case
  fitted_table =
      silent (command_table c ++ place_table c d)
      ++ (PastDrive c d ⇒ on_drive c d
      ∷ Forbidden c d ⇒ 0
      ∷ silent (list_table c m)
      ++ (PastMemory c m ⇒ in_memory c m
      ∷ Otherwise ⇒ 0
      ∷ []))

  abbrev pub Told : ℕ → Type 0
  Told N = (k : ℕ) × (FirstAt fitted_table k × GivesAt fitted_table k N)

  abbrev pub FittedExactlyWhen : ℕ → Type 0
  FittedExactlyWhen N = (fitted_of c d (length m) (links_in m c) ≡ N) ↔ Told N

  -- so it is 0 with every code but 10H and 4BH
  abbrev pub ToldWithTwoCodes : Type 0
  ToldWithTwoCodes =
      code_of c d (length m) (links_in m c) ≢ 0x10
      → code_of c d (length m) (links_in m c) ≢ 0x4B
      → fitted_of c d (length m) (links_in m c) ≡ 0

-- ---- what it means

-- `test count` is the answer of a test for an end, of so many sectors from one start on
pub record TellsWhatFits (test : ℕ → End) : Type 0 where
  -- what it tells has nothing to do with how many are asked for; it is the largest number with which the test passes
  pub same : (j k : ℕ) → (test j).fitted ≡ (test k).fitted
  pub exactly : (j : ℕ) → ((test j).past ≡ false) ↔ (j ≤ (test j).fitted)
  pub that_many : (j : ℕ) → (test (test j).fitted).past ≡ false
  pub one_more : (j : ℕ) → (test ((test j).fitted + 1)).past ≡ true
  -- as one byte: it passes with what is posted, 255 too, and where less is posted it fails with one more
  pub posted : (j : ℕ) → (test (min (test j).fitted 255)).past ≡ false
  pub posted_more : (j : ℕ) → min (test j).fitted 255 < 255 → (test (min (test j).fitted 255 + 1)).past ≡ true

-- from any sector of the drive on; from any address on that is not past the end of a memory of n bytes
abbrev pub DriveTells : Type 0
DriveTells = (d : Drive) (first : ℕ) → first ≤ sector_count d → TellsWhatFits (drive_end d first)

abbrev pub MemoryTells : Type 0
MemoryTells = (n address : ℕ) → address ≤ n → TellsWhatFits (λ count. memory_end n (bytes address (sector_bytes * count)))

-- a command whose code is given at the end of the drive begins on the drive, so that one sector at least would have fitted: of two commands
-- with 10H, the one with a cylinder above its maximum is known by its 0
abbrev pub OneAtLeast : Type 0
OneAtLeast = (c : Copied) (d : Drive) → NoneOf (place_table c d) → 1 ≤ on_drive c d
