-- How a branch came out, as an equation of its test.
use mathlib.Core.Path.{◌≡◌, refl}
use mathlib.Core.Bool.{Bool, true, false, not}
use lib.Dec.{T}

pub held : (y : Bool) → T y → y ≡ true
held true h = refl
held false h = absurd h

pub failed : (y : Bool) → T (not y) → y ≡ false
failed true h = absurd h
failed false h = refl
