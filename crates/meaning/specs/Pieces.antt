-- Ranges laid end to end, as the data of a transfer is (Step 3): where byte j of the data is, and in which pieces some bytes of it are laid,
-- those of one sector for instance. Each range gives one piece, which is empty where it holds none of these bytes.
use Rattle.std.specs.Prelude.{ℕ, ◌+◌, ◌-◌, min, cond, List, [], ◌∷◌, ltb}
use Rattle.meaning.specs.Ranges.{Range}

-- where byte j of the data is in memory: byte j of the first range, or past that of the others (0 where there are no more)
abbrev pub byte_at : List Range → ℕ → ℕ
byte_at [] j = 0
byte_at (x ∷ xs) j = cond (ltb j x.many) (x.from + j) (byte_at xs (j - x.many))

-- `many` bytes of memory from `from` on, which are those of the data from its byte `at` on
pub record Piece : Type 0 where
  pub at : ℕ
  pub from : ℕ
  pub many : ℕ

-- how many bytes of a range come before byte v of the data, where its own first byte is byte b
abbrev pub before : Range → ℕ → ℕ → ℕ
before x b v = min (v - b) x.many

-- what a range holds of the bytes lo up to, not including, hi of the data
abbrev pub piece_of : Range → ℕ → ℕ → ℕ → Piece
piece_of x b lo hi = record { at = b + before x b lo; from = x.from + before x b lo; many = before x b hi - before x b lo }

-- one range after the other
abbrev pub pieces_of : List Range → ℕ → ℕ → ℕ → List Piece
pieces_of [] b lo hi = []
pieces_of (x ∷ xs) b lo hi = piece_of x b lo hi ∷ pieces_of xs (b + x.many) lo hi
