-- Demand 3: any calls, and then the rest as written, come to what the whole chain as written comes to, in memory, image and table.
use Rattle.std.specs.Prelude.{◌≡◌, ℕ, ◌+◌, ◌≤◌, true, List}
use Rattle.meaning.specs.Drives.{Drives}
use Rattle.meaning.specs.declared.Record.{Record}
use Rattle.meaning.specs.declared.Walked.{Walked}
use Rattle.meaning.specs.declared.Ran.{Ran}
use Rattle.meaning.specs.State.{State}
use Rattle.meaning.specs.Walk.{WalkGives}
use Rattle.meaning.specs.Run.{chain_steps, steps_left, all_finished, run_number, as_written, RunGives}
use Rattle.order.specs.States.{rest}
use Rattle.order.specs.Calls.{Call, after_calls, MakeAll}

-- From any state, also in mid-chain. It needs no word on numbers 1 and 9: where they are given, every call changes nothing.
abbrev pub CallsThenRest : Type 0
CallsThenRest = (d : Drives) (n : ℕ) (cs : List Call) (s : State) → rest d n (after_calls d n cs s) ≡ rest d n s

-- The calls as they are made, and known by their contracts alone. s is the state before them and s₁ after them; a run as written whose
-- budget suffices leads from s₁ to s₂, and would lead from s to s₀. The steps add up too.
abbrev pub AnyCallsThenRest : Type 0
AnyCallsThenRest =
    (d : Drives) (n : ℕ) (cs : List Call) (b k : ℕ) (s s₁ s₂ s₀ : State) (r r₀ : Ran)
    → MakeAll d n cs s k s₁
    → steps_left s.table n ≤ b
    → RunGives d n (as_written d n b) s₁ r s₂
    → RunGives d n (as_written d n b) s r₀ s₀
    → (s₂ ≡ s₀) × (k + r.steps ≡ r₀.steps)

-- Against the whole chain: from an accepted walk on, the rest is what as many steps as written come to as the chain's commands have.
abbrev pub AnyCallsThenRestOfChain : Type 0
AnyCallsThenRestOfChain =
    (d : Drives) (start : ℕ) (s : State) (w : Walked) (t : List Record) (cs : List Call) (k : ℕ) (s₁ : State)
    → WalkGives d start s w t
    → w.number ≡ 0
    → let walked : State = record { table = t; store = s.store } in
    MakeAll d w.commands cs walked k s₁
    → rest d w.commands s₁ ≡ (as_written d w.commands (chain_steps t w.commands) walked).state

-- The rest is all there is: after it all commands are finished, and a larger budget does no more.
abbrev pub RestFinishes : Type 0
RestFinishes = (d : Drives) (n : ℕ) (s : State) → run_number d n s ≡ 0 → all_finished (rest d n s).table n ≡ true

abbrev pub LargerDoesNoMore : Type 0
LargerDoesNoMore = (d : Drives) (n b : ℕ) (s : State) → run_number d n s ≡ 0 → steps_left s.table n ≤ b → (as_written d n b s).state ≡ rest d n s
