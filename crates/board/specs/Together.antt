-- Which picks next to each other a run by picks takes at once: those that name one place, where all places past n commands count as one.
use Rattle.std.specs.Prelude.{ℕ, Bool, min, eqb}

abbrev pub together : ℕ → ℕ → ℕ → Bool
together n y z = eqb (min y n) (min z n)
