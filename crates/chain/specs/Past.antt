-- What the walk knows of the IOPBs behind it, so that it searches them only where the chain goes back.
use Rattle.std.specs.Prelude.{ℕ, ◌+◌, ◌≤◌, List}
use Rattle.meaning.specs.Fields.{iopb_bytes}
use Rattle.meaning.proofs.All.{All}

-- the IOPBs at these addresses all end at or before `past`: one that begins there, or after, shares no byte with them (Walk 9)
abbrev pub AllEnd : ℕ → List ℕ → Type 0
AllEnd past addresses = All (λ a. a + iopb_bytes ≤ past) addresses
