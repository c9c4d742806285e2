-- Which states numbers 1 and 9 let pass: those that an accepted walk gives, and those that accepted picks leave.
use Rattle.std.specs.Prelude.{◌≡◌, ℕ, ◌≤◌, List}
use Rattle.meaning.specs.Drives.{Drives}
use Rattle.meaning.specs.declared.Record.{Record}
use Rattle.meaning.specs.declared.Walked.{Walked}
use Rattle.meaning.specs.State.{State, most_commands}
use Rattle.meaning.specs.Walk.{WalkGives}
use Rattle.meaning.specs.Pick.{pick_number, step_at}
use Rattle.meaning.specs.Run.{chain_steps, steps_left, run_number}

-- an accepted walk, whatever the table held before: 1 and 9 are not given, there are at most 32 commands, and all their steps remain
abbrev pub WalkIsSound : Type 0
WalkIsSound =
    (d : Drives) (start : ℕ) (s : State) (w : Walked) (t : List Record)
    → WalkGives d start s w t
    → w.number ≡ 0
    → (run_number d w.commands (record { table = t; store = s.store }) ≡ 0)
    × (w.commands ≤ most_commands)
    × (steps_left t w.commands ≡ chain_steps t w.commands)

-- one step taken: after it 1 and 9 are not given either
abbrev pub StillAccepted : Type 0
StillAccepted = (d : Drives) (n p : ℕ) (s : State) → pick_number d n p s ≡ 0 → run_number d n (step_at d p s) ≡ 0
