-- A test put to each element of a list: `some_of` where one passes, `every_of` where all do; the sum of a number of each; and
-- the numbers below a number, to go through places by.
-- The first two are the library's own, so that a chain of iterators is read as they are.
use Rattle.std.specs.Prelude.{ℕ, zero, suc, ◌+◌, Bool, List, [], ◌∷◌, ◌++◌}
use Rattle.std.specs.List.{list_any, list_all}

module _ {A : Type 0} where
  abbrev pub some_of : (A → Bool) → List A → Bool
  some_of p xs = list_any p xs

  abbrev pub every_of : (A → Bool) → List A → Bool
  every_of p xs = list_all p xs

  abbrev pub sum_of : (A → ℕ) → List A → ℕ
  sum_of f [] = 0
  sum_of f (x ∷ xs) = f x + sum_of f xs

-- 0, 1, .. up to, not including, n
abbrev pub up_to : ℕ → List ℕ
up_to zero = []
up_to (suc n) = up_to n ++ n ∷ []
