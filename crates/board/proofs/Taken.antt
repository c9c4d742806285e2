-- Several steps of a command, as what is written into its record.
use mathlib.Core.Path.{◌≡◌, sym, ap, ◌∙◌}
use Prim.Native.Nat.{ℕ, zero, suc, ◌+◌}
use native.Mathlib.Nat.{add-zero}
use native.Mathlib.Omega.{arith}
use Rattle.meaning.specs.declared.Record.{Record}
use Rattle.meaning.specs.Step.{with_taken, stepped}
use Rattle.meaning.specs.Run.{advanced}

pub steps_with : (k : ℕ) (r : Record) → advanced k r ≡ with_taken (r.taken + k) r
unfolding advanced stepped with_taken
steps_with zero r = ap (λ (n : ℕ). with_taken n r) (sym (add-zero r.taken))
steps_with (suc k) r =
    let more : r.taken + 1 + k ≡ r.taken + suc k = omega arith in
    steps_with k (stepped r) ∙ ap (λ (n : ℕ). with_taken n r) more
