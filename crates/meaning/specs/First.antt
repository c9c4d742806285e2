-- A table of numbers, whose rows are tried in their order: the first row that applies gives the number.
-- Every number and every code of docs/RULES.md is stated by such a table, so that the order is there to be read.
--
use Rattle.std.specs.Prelude.{ℕ, Bool, cond, List, [], ◌∷◌}

-- a row: whether it applies, the number that it gives, and what it tells beside it, which is 0 unless the row says otherwise
pub record Row : Type 0 where
  pub applies : Bool
  pub gives : ℕ
  pub tells : ℕ

infix 70 ◌↝◌
abbrev pub ◌↝◌ : Bool → ℕ → Row
b ↝ n = record { applies = b; gives = n; tells = 0 }

infix 69 ◌telling◌
abbrev pub ◌telling◌ : Row → ℕ → Row
r telling k = record { applies = r.applies; gives = r.gives; tells = k }

-- what stands in one column of the first row that applies; the last number where no row applies
abbrev pub first_in : (Row → ℕ) → List Row → ℕ → ℕ
first_in column [] n = n
first_in column (r ∷ rows) n = cond r.applies (column r) (first_in column rows n)

-- the first that applies wins: the number that it gives, and what it tells
abbrev pub first_of : List Row → ℕ → ℕ
first_of rows n = first_in (λ r. r.gives) rows n

abbrev pub told_of : List Row → ℕ → ℕ
told_of rows n = first_in (λ r. r.tells) rows n
