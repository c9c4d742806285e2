-- A unit's own of what four units have.
use Rattle.std.specs.Prelude.{ℕ, List, cond, get_or, ltb}
use Rattle.meaning.specs.Drives.{most_units}

-- xs are those of the units 0 to 3; a unit above 3 has n
abbrev pub of_unit : {A : Type 0} → List A → A → ℕ → A
of_unit xs n u = cond (ltb u most_units) (get_or xs u n) n
