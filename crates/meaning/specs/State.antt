-- What a call works on: the table of accepted commands, in the caller's hands, with memory and images. A table by value has exactly 32
-- records; a lent one may have any number, and both forms of a call mean the same (Record 1 and 2).
use Rattle.std.specs.Prelude.{ℕ, List}
use Rattle.meaning.specs.declared.Record.{Record}
use Rattle.meaning.specs.Store.{Store, lent}

-- the most commands of a chain, and the fewest records of a table (Walk 3, Size 4)
abbrev pub most_commands : ℕ
most_commands = 32

pub record State : Type 0 where
  pub table : List Record
  pub store : Store

-- a table over a store; and memory m, images is and table t, put together
abbrev pub state_in : Store → List Record → State
state_in s t = record { table = t; store = s }

abbrev pub state_of : List ℕ → List (List ℕ) → List Record → State
state_of m is t = state_in (lent m is) t
