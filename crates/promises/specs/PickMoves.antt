-- What an accepted pick does: one step, to memory and the disks and to the table (Pick 7, Demand 2). s is the state before the pick, s' after.
use Rattle.std.specs.Prelude.{◌≡◌, ◌≢◌, ℕ, ◌+◌, length, get_or}
use Rattle.meaning.specs.Drives.{Drives}
use Rattle.meaning.specs.declared.Record.{Record}
use Rattle.meaning.specs.State.{State}
use Rattle.meaning.specs.Command.{no_record}
use Rattle.meaning.specs.Pick.{PickGives}
use Rattle.promises.specs.StepMoves.{Moved}

-- the record at a place
abbrev pub command_at : State → ℕ → Record
command_at s p = get_or s.table p no_record

-- r' is r with one step more taken
pub record OneStepMore (r r' : Record) : Type 0 where
  pub taken : r'.taken ≡ r.taken + 1
  pub iopb : r'.iopb ≡ r.iopb
  pub address : r'.address ≡ r.address
  pub sector : r'.sector ≡ r.sector
  pub ranges : r'.ranges ≡ r.ranges
  pub count : r'.count ≡ r.count
  pub unit : r'.unit ≡ r.unit
  pub byte0 : r'.byte0 ≡ r.byte0
  pub code : r'.code ≡ r.code
  pub fitted : r'.fitted ≡ r.fitted
  pub list : r'.list ≡ r.list

-- such a step at place p, and the table stays but for the steps taken of that record
pub record PickMoves (d : Drives) (p : ℕ) (s s' : State) : Type 0 where
  pub moved : Moved d (command_at s p) s.store s'.store
  pub here : OneStepMore (command_at s p) (command_at s' p)
  pub others : (q : ℕ) → q ≢ p → command_at s' q ≡ command_at s q
  pub size : length s'.table ≡ length s.table

abbrev pub AcceptedPickMovesOne : Type 0
AcceptedPickMovesOne =
    (d : Drives) (n p : ℕ) (s : State) (k : ℕ) (s' : State)
    → PickGives d n p s k s'
    → k ≡ 0
    → PickMoves d p s s'
