-- What numbers 1 and 9 let pass: an accepted walk, and what accepted picks leave. From the laws of the definitions.
use mathlib.Core.Path.{◌≡◌, refl, sym, ap, ◌∙◌}
use Prim.Native.Nat.{ℕ, ◌≤◌}
use native.Mathlib.Nat.{not-suc-le-zero}
use mathlib.Core.List.{List}
use lib.ListN.{length}
use Rattle.meaning.specs.Drives.{Drives}
use Rattle.meaning.specs.declared.Record.{Record}
use Rattle.meaning.specs.declared.Walked.{Walked}
use Rattle.meaning.specs.State.{State, most_commands}
use Rattle.meaning.specs.Walk.{Chain, refused, accepted, answered, filled, chain_at, walk_reply, walk_leaves, WalkGives}
use Rattle.meaning.specs.Run.{chain_steps, steps_left, run_number}
use Rattle.meaning.proofs.Numbers.{passed_run}
use Rattle.meaning.proofs.Still as still
use Rattle.meaning.proofs.Walks.{refused_number, chain_most, chain_is_sound}
use Rattle.order.specs.Accepted.{WalkIsSound, StillAccepted}

pub still_accepted : StillAccepted
still_accepted = still.still_accepted

-- what an accepted walk gives, by what its chain comes to
module _ (d : Drives) (start : ℕ) (s : State) where
  Fits : Walked → List Record → Type 0
  Fits w t =
      (run_number d w.commands (record { table = t; store = s.store }) ≡ 0)
      × (w.commands ≤ most_commands)
      × (steps_left t w.commands ≡ chain_steps t w.commands)

  fits : (c : Chain) → chain_at d start s ≡ c → (answered c).number ≡ 0 → Fits (answered c) (filled c s.table)
  unfolding Fits
  fits (refused k) e z = absurd (not-suc-le-zero (rw z at (refused_number d start s k e)))
  fits (accepted rs) e z =
      let h = chain_is_sound d start s rs e in
      let t = filled (accepted rs) s.table in
      (passed_run d (length rs) (record { table = t; store = s.store }) h.passed, chain_most d start s rs e, h.steps)

pub walk_is_sound : WalkIsSound
unfolding WalkGives walk_reply walk_leaves Fits
walk_is_sound d start s w t g z =
    rw (g.0, g.1) (fits d start s (chain_at d start s) refl (sym (ap (λ (x : Walked). x.number) g.0) ∙ z))
