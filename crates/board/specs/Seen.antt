-- What a pick sees of its table, and what it answers and changes by that. d are the drives, n the number of commands, p the place, r the
-- record that is looked at there, and s the store before. proofs/Seen.antt proves that a pick by what is seen is the whole of the pick.
use Rattle.std.specs.Prelude.{◌≡◌, ℕ, ◌+◌, ◌≤◌, ◌<◌, min, false, cond, List, [], ◌∷◌, get_or, set, take, ltb, leb, eqb, Result, Ok, Err}
use Rattle.meaning.specs.Drives.{Drives}
use Rattle.meaning.specs.declared.Record.{Record}
use Rattle.meaning.specs.declared.refusals.Refusal.{Refusal}
use Rattle.meaning.specs.Refusals.{number_of}
use Rattle.meaning.specs.First.{Row, first_of, ◌↝◌}
use Rattle.meaning.specs.Each.{some_of}
use Rattle.meaning.specs.Store.{Store}
use Rattle.meaning.specs.State.{most_commands}
use Rattle.meaning.specs.Sizes.{store_wrong}
use Rattle.meaning.specs.Command.{finished, no_record}
use Rattle.meaning.specs.Touch.{conflict}
use Rattle.meaning.specs.Step.{step, with_taken}
use Rattle.meaning.specs.Pick.{bad_record}
use Rattle.command.specs.Data.{bad_in}
use Rattle.board.specs.declared.pick.Sight.{Sight}
use Rattle.board.specs.Sight.{blocking}

-- ---- what is seen

-- the place whose record is looked at, which a table of 32 has
abbrev pub place_seen : ℕ → ℕ
place_seen p = cond (ltb p most_commands) p 0

-- of the first n records of a table, for a pick at p, where memory has so many bytes
unfoldable pub sight_of : ℕ → Drives → ℕ → ℕ → List Record → Sight
unfolding bad_in finished conflict
sight_of size d n p t =
    record {
      bad = some_of (bad_in size d) (take n t);
      blocked = some_of (blocking (get_or t p no_record)) (take (min n p) t);
    }

-- ---- what is answered, and what is changed

-- its number, and on 0 the steps taken at its place after its step; on a refusal they are 0
pub record PickedTaken : Type 0 where
  pub number : ℕ
  pub taken : ℕ

-- as the code says it: the steps taken, or why it refuses
abbrev pub picked_taken : Result ℕ Refusal → PickedTaken
picked_taken (Ok n) = record { number = 0; taken = n }
picked_taken (Err e) = record { number = number_of e; taken = 0 }

-- The numbers in their order. The last row asks again of the record at the place what was asked of all in use.
abbrev pub sight_rows : Drives → ℕ → ℕ → Record → Sight → Store → List Row
sight_rows d n p r seen s =
    store_wrong d s ↝ 1
    ∷ ltb most_commands n ↝ 9
    ∷ seen.bad ↝ 9
    ∷ leb n p ↝ 8
    ∷ finished r ↝ 7
    ∷ seen.blocked ↝ 6
    ∷ bad_record d s r ↝ 9
    ∷ []

unfoldable pub sight_number : Drives → ℕ → ℕ → Record → Sight → Store → ℕ
unfolding store_wrong finished bad_record
sight_number d n p r seen s = first_of (sight_rows d n p r seen s) 0

-- neither 1 nor 9 is given: of the last row it is enough to know this of a record that none of the rows before it refuses
pub record Unspoiled (d : Drives) (n p : ℕ) (r : Record) (seen : Sight) (s : Store) : Type 0 where
  pub right : store_wrong d s ≡ false
  pub few : n ≤ most_commands
  pub sound : seen.bad ≡ false
  pub good : p < n → finished r ≡ false → seen.blocked ≡ false → bad_record d s r ≡ false

abbrev pub refused_pick : ℕ → PickedTaken
refused_pick k = record { number = k; taken = 0 }

-- on 0 one step more is taken there; a is the answer, u the store after
unfoldable pub PickSees : Drives → ℕ → ℕ → Record → Sight → Store → PickedTaken → Store → Type 0
unfolding sight_number step
PickSees d n p r seen s a u =
    let k = sight_number d n p r seen s in
    (a ≡ record { number = k; taken = cond (eqb k 0) (r.taken + 1) 0 }) × (u ≡ cond (eqb k 0) (step d r s) s)

-- a table with the steps that a pick took at p, which are none on a refusal
abbrev pub with_picked : PickedTaken → ℕ → List Record → List Record
with_picked a p t = cond (eqb a.number 0) (set t p (with_taken a.taken (get_or t p no_record))) t
