-- Ranges: so many bytes of memory, or so many sectors of a disk, one after another; and when two of them have something in common.
use Rattle.std.specs.Prelude.{ℕ, ◌+◌, max, min, Bool, ◌&&◌, List, ltb}
use Rattle.meaning.specs.Each.{some_of}
use Rattle.meaning.specs.Store.{Space, memory, disk, same}

-- `many` from `from` on: bytes where the space is memory, sectors where it is a disk
pub record Range : Type 0 where
  pub space : Space
  pub from : ℕ
  pub many : ℕ

-- n bytes of memory from a on
abbrev pub bytes : ℕ → ℕ → Range
bytes a n = record { space = memory; from = a; many = n }

-- n sectors of a unit's disk from number a on
abbrev pub sectors_of : ℕ → ℕ → ℕ → Range
sectors_of u a n = record { space = disk u; from = a; many = n }

-- n numbers from a on and m numbers from b on have one in common: the later start lies before the earlier end
unfoldable pub crosses : ℕ → ℕ → ℕ → ℕ → Bool
crosses a n b m = ltb (max a b) (min (a + n) (b + m))

-- two ranges have something in common
abbrev pub overlap : Range → Range → Bool
overlap x y = same x.space y.space && crosses x.from x.many y.from y.many

-- some range of the one has something in common with some range of the other
abbrev pub meet : List Range → List Range → Bool
meet xs ys = some_of (λ x. some_of (overlap x) ys) xs
