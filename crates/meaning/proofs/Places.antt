-- Where sectors and bytes are: parts of different sectors lie in separate areas, and no sector lies in memory. Callers use these laws and
-- not the formula of `on_disk`.
use mathlib.Core.Path.{◌≡◌}
use mathlib.Core.Logic.{◌≢◌}
use Prim.Native.Nat.{ℕ, ◌+◌, ◌≤◌}
use native.Mathlib.Omega.{arith}
use mathlib.Core.Bool.{true, false≢true}
use Rattle.meaning.specs.Store.{memory, disk, same, Area, area}
use Rattle.meaning.specs.Sectors.{sector_bytes, on_disk}
use Rattle.meaning.proofs.Spaces.{same_both, Separate}

-- c bytes of sector n of a unit, from its byte a on
abbrev pub part_of : ℕ → ℕ → ℕ → ℕ → Area
part_of u n a c = area (disk u) ((on_disk u n).from + a) c

pub parts_separate : (u n a c v m b e : ℕ) → a + c ≤ sector_bytes → b + e ≤ sector_bytes → (same (disk u) (disk v) ≡ true → n ≢ m)
    → Separate (part_of u n a c) (part_of v m b e)
parts_separate u n a c v m b e h k o p x y =
    let other = o (same_both p (disk u) (disk v) x y) in
    omega arith

pub memory_disk : (i a u j b : ℕ) → Separate (area memory i a) (area (disk u) j b)
memory_disk i a u j b p e f = absurd (false≢true (same_both p memory (disk u) e f))

pub disk_memory : (u j b i a : ℕ) → Separate (area (disk u) j b) (area memory i a)
disk_memory u j b i a p e f = absurd (false≢true (same_both p (disk u) memory e f))
