-- What a run by picks keeps of its commands beside the table: of each of the first n what it touches, and how many earlier commands are known
-- not to block it.
use Rattle.std.specs.Prelude.{◌≡◌, ℕ, ◌≤◌, ◌<◌, false, List, [], length, get_or, take}
use Rattle.meaning.specs.declared.Record.{Record}
use Rattle.meaning.specs.Each.{some_of}
use Rattle.meaning.specs.State.{most_commands}
use Rattle.meaning.specs.Command.{no_record}
use Rattle.command.specs.Footprints.{no_footprint, footprint_of}
use Rattle.board.specs.declared.run.Watch.{Watch}
use Rattle.board.specs.Sight.{blocking}

-- of nothing
abbrev pub no_watch : Watch
no_watch = record { footprint = no_footprint; searched = 0; unused = [] }

-- t is the table now
pub record Watching (n : ℕ) (t : List Record) (ws : List Watch) : Type 0 where
  pub long : length ws ≡ most_commands
  pub touches : (p : ℕ) → p < n → (get_or ws p no_watch).footprint ≡ footprint_of (get_or t p no_record)
  pub within : (p : ℕ) → (get_or ws p no_watch).searched ≤ p
  pub free : (p : ℕ) → some_of (blocking (get_or t p no_record)) (take (get_or ws p no_watch).searched t) ≡ false
