-- What was read lies within the run that it was read into.
use Rattle.std.specs.Prelude.{ℕ, ◌≤◌, List, length, Result, IfOk}

abbrev pub Within : {E : Type 0} → Result ℕ E → List ℕ → Type 0
Within r l = IfOk r (λ n. n ≤ length l)
