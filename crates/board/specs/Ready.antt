-- What the next n steps of a command ask of a memory of m bytes and an image of i bytes, that of its own unit: that all they move lies within
-- them. Numbers 1, 9 and 7 are tested before a step is taken, and give it.
use Rattle.std.specs.Prelude.{◌≡◌, ℕ, length, ◌+◌, ◌*◌, ◌≤◌, true}
use Rattle.meaning.specs.declared.Record.{Record}
use Rattle.meaning.specs.Store.{Store, memory, disk}
use Rattle.meaning.specs.Sectors.{sector_bytes}
use Rattle.meaning.specs.Command.{transfers}
use Rattle.meaning.specs.Touch.{data_bytes}
use Rattle.meaning.proofs.All.{All}
use Rattle.meaning.proofs.Conditions.{Inside}
use Rattle.board.specs.Moved.{on_disk}

pub record Ready (n : ℕ) (r : Record) (m i : ℕ) : Type 0 where
  -- its status bytes
  pub status : r.iopb + 4 ≤ m
  -- of a transfer as many steps are left, all its data lies in memory, and the sectors of these steps lie on the disk
  pub left : transfers r ≡ true → r.taken + n ≤ r.count
  pub bytes : transfers r ≡ true → All (Inside m) (data_bytes r)
  pub sectors : transfers r ≡ true → on_disk r + sector_bytes * (r.taken + n) ≤ i

-- what they ask of a store
abbrev pub ReadyIn : ℕ → Record → Store → Type 0
ReadyIn n r s = Ready n r (length (s memory)) (length (s (disk r.unit)))
