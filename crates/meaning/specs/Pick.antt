-- A pick names a place in the table and takes one step there: its number, and what it leaves.
-- d are the drives, n the number of commands, p the place, and s the state: table, memory and images.
use Rattle.std.specs.Prelude.{◌≡◌, ℕ, ◌*◌, Bool, not, ◌&&◌, ◌||◌, cond, List, [], ◌∷◌, length, get_or, set, take, ltb, leb, eqb}
use Rattle.meaning.specs.First.{Row, first_of, ◌↝◌}
use Rattle.meaning.specs.Each.{some_of}
use Rattle.meaning.specs.Drives.{Drives}
use Rattle.meaning.specs.Store.{memory, Store}
use Rattle.meaning.specs.State.{State, most_commands}
use Rattle.meaning.specs.Sectors.{sector_bytes}
use Rattle.meaning.specs.Ends.{drive_end}
use Rattle.meaning.specs.Fields.{all_in}
use Rattle.meaning.specs.declared.Record.{Record}
use Rattle.meaning.specs.Sizes.{sizes_wrong}
use Rattle.meaning.specs.Command.{writes, transfers, steps_of, finished, no_record}
use Rattle.meaning.specs.Code.{outside}
use Rattle.meaning.specs.Links.{most_links, bytes_in}
use Rattle.meaning.specs.Touch.{data_bytes, conflict}
use Rattle.meaning.specs.Step.{step, stepped}

-- Spoiled 4 to 7 and 9 to 11: a code 00 transfer on an absent unit, with count zero, with more ranges than a record can hold, with a range of
-- its data outside memory, with ranges that do not add up to its sectors, with sectors outside its own unit's drive, or writing to a
-- protected one
unfoldable pub bad_transfer : Drives → Store → Record → Bool
bad_transfer d s r =
    not (d.on r.unit).present
    || eqb r.count 0
    || ltb most_links r.ranges
    || some_of (outside (length (s memory))) (data_bytes r)
    || not (eqb (bytes_in (data_bytes r)) (sector_bytes * r.count))
    || (drive_end (d.on r.unit) r.sector r.count).past
    || writes r && (d.on r.unit).protected

-- Spoiled 2 and 3: a record whose IOPB is not all in memory, or with more steps taken than it has, or that is such a transfer
unfoldable pub bad_record : Drives → Store → Record → Bool
unfolding bad_transfer steps_of
bad_record d s r = not (all_in (s memory) r.iopb) || ltb (steps_of r) r.taken || transfers r && bad_transfer d s r

-- Spoiled 1: the table has over 32 commands, or a record in use is bad
unfoldable pub spoiled : Drives → ℕ → State → Bool
unfolding bad_record
spoiled d n s = ltb most_commands n || some_of (bad_record d s.store) (take n s.table)

-- an earlier unfinished command conflicts with the one at p (Pick 6)
unfoldable pub waits : List Record → ℕ → Bool
unfolding finished conflict
waits t p = some_of (λ e. not (finished e) && conflict e (get_or t p no_record)) (take p t)

-- the rows that both runs test too (Pick 2 and 3), and the rows after them (Pick 4 to 6), each in its order
abbrev pub run_rows : Drives → ℕ → State → List Row
run_rows d n s =
    sizes_wrong d s ↝ 1
    ∷ spoiled d n s ↝ 9
    ∷ []

abbrev pub place_rows : List Record → ℕ → ℕ → List Row
place_rows t n p =
    leb n p ↝ 8
    ∷ finished (get_or t p no_record) ↝ 7
    ∷ waits t p ↝ 6
    ∷ []

unfoldable pub place_number : List Record → ℕ → ℕ → ℕ
unfolding finished waits
place_number t n p = first_of (place_rows t n p) 0

unfoldable pub pick_number : Drives → ℕ → ℕ → State → ℕ
unfolding sizes_wrong spoiled place_number
pick_number d n p s = first_of (run_rows d n s) (place_number s.table n p)

-- one step at place p (Pick 7)
unfoldable pub step_at : Drives → ℕ → State → State
unfolding step stepped
step_at d p s =
    let r = get_or s.table p no_record in
    record { table = set s.table p (stepped r); store = step d r s.store }

-- what a pick leaves: nothing changed but on 0
unfoldable pub picked : Drives → ℕ → ℕ → State → State
unfolding pick_number step_at
picked d n p s = cond (eqb (pick_number d n p s) 0) (step_at d p s) s

-- The whole of a pick: k is its number, s' the state after it.
unfoldable pub PickGives : Drives → ℕ → ℕ → State → ℕ → State → Type 0
unfolding pick_number picked
PickGives d n p s k s' = (k ≡ pick_number d n p s) × (s' ≡ picked d n p s)
