-- A table passed by value and a lent one give the same replies (Record 2): whatever a call says of the first 32 records of a table, it
-- says of the whole table, and the rest is left alone. A lent table that is shorter than 32 is all its own front.
use Rattle.std.specs.Prelude.{List, ◌++◌, ℕ, take, drop}
use Rattle.meaning.specs.Drives.{Drives}
use Rattle.meaning.specs.declared.Record.{Record}
use Rattle.meaning.specs.declared.Walked.{Walked}
use Rattle.meaning.specs.declared.Ran.{Ran}
use Rattle.meaning.specs.State.{State, most_commands}
use Rattle.meaning.specs.Walk.{WalkGives}
use Rattle.meaning.specs.Pick.{PickGives}
use Rattle.meaning.specs.Run.{by_picks, as_written, RunGives}

-- a state with the first 32 records of its table, and those past them
abbrev pub front_of : State → State
front_of s = record { table = take most_commands s.table; store = s.store }

abbrev pub rest_of : State → List Record
rest_of s = drop most_commands s.table

-- a state with records behind its table
abbrev pub before : State → List Record → State
before s rest = record { table = s.table ++ rest; store = s.store }

pub record TwoFormsAgree : Type 0 where
  pub walks : (d : Drives) (start : ℕ) (s : State) (w : Walked) (t' : List Record) → WalkGives d start (front_of s) w t' → WalkGives d start s w (t' ++ rest_of s)
  pub picks : (d : Drives) (n p : ℕ) (s : State) (k : ℕ) (s' : State) → PickGives d n p (front_of s) k s' → PickGives d n p s k (before s' (rest_of s))
  pub runs_by_picks : (d : Drives) (n : ℕ) (ps : List ℕ) (s : State) (r : Ran) (s' : State) → RunGives d n (by_picks d n ps) (front_of s) r s' → RunGives d n (by_picks d n ps) s r (before s' (rest_of s))
  pub runs_as_written : (d : Drives) (n b : ℕ) (s : State) (r : Ran) (s' : State) → RunGives d n (as_written d n b) (front_of s) r s' → RunGives d n (as_written d n b) s r (before s' (rest_of s))
