-- Tests joined by "and" and "or", of which the first half is known. The other laws of tests are the library's.
use mathlib.Core.Path.{◌≡◌, refl}
use mathlib.Core.Bool.{Bool, true, false, ◌&&◌, ◌||◌, true≢false, false≢true}

-- the first half of an "and" holds: the second decides
pub and_second : (a b : Bool) → a ≡ true → (a && b) ≡ b
and_second true b e = refl
and_second false b e = absurd (false≢true e)

-- the first half of an "or" fails: the second decides
pub or_second : (a b : Bool) → a ≡ false → (a || b) ≡ b
or_second true b e = absurd (true≢false e)
or_second false b e = refl
