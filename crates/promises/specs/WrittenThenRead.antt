-- A sector that is written and then read back is equal (Demand 2). Along steps taken one after another, as those of any run, one at place w
-- writes a sector, steps follow of which none writes that sector of that unit, whatever they write on the others, and then one at place r
-- reads it: each of the 512 bytes that come into memory is the one that the write took. Either may have a link list; the read must not lay two bytes of the sector in one place, and does
-- not where its ranges are disjoint.
use Rattle.std.specs.Prelude.{◌≡◌, ◌≢◌, ◌⊎◌, ℕ, ◌<◌, List, [], ◌∷◌, ◌++◌, get_or}
use Rattle.meaning.specs.Drives.{Drives}
use Rattle.meaning.specs.declared.Record.{Record}
use Rattle.meaning.specs.Store.{memory, Store}
use Rattle.meaning.specs.State.{State}
use Rattle.meaning.specs.Sectors.{sector_bytes}
use Rattle.meaning.specs.Ranges.{Range}
use Rattle.meaning.specs.Touch.{data_bytes}
use Rattle.meaning.specs.Pick.{step_at}
use Rattle.meaning.specs.Conditions.{Within, SomeOf, Reads, Writes}
use Rattle.promises.specs.StepMoves.{MayStep, sector_of, in_memory, Posted}
use Rattle.promises.specs.PickMoves.{command_at}
use Rattle.promises.specs.Taken.{steps_at, Along, Taken}

-- the step at place p does not write sector k of unit u
abbrev pub Spares : ℕ → ℕ → State → ℕ → Type 0
Spares u k s p = Writes (command_at s p) → ¬ (((command_at s p).unit ≡ u) × (sector_of (command_at s p) ≡ k))

-- no two bytes of the sector that a step of r moves have one place in memory
abbrev pub OnePlace : Record → Type 0
OnePlace r = (i j : ℕ) → i < j → j < sector_bytes → in_memory r j ≢ in_memory r i

-- no byte of memory lies in two of some ranges
abbrev pub Disjoint : List Range → Type 0
Disjoint [] = Unit {0}
Disjoint (x ∷ xs) = ((a : ℕ) → Within a x.from x.many → ¬ SomeOf (λ y. Within a y.from y.many) xs) × Disjoint xs

abbrev pub DisjointRanges : Record → Type 0
DisjointRanges r = Disjoint (data_bytes r)

-- a transfer whose ranges are disjoint lays none so, if number 9 is not given: then its ranges hold the whole sector
abbrev pub DisjointSuffices : Type 0
DisjointSuffices = (d : Drives) (r : Record) (s : Store) → MayStep d r s → Reads r ⊎ Writes r → DisjointRanges r → OnePlace r

-- one without a list has one range, so it is such a transfer
abbrev pub PlainIsDisjoint : Type 0
PlainIsDisjoint = (r : Record) → r.ranges ≡ 0 → DisjointRanges r

-- s₁ is the state in which w writes, s₂ that in which r reads; P is what is asked of the read
abbrev pub Again : (Record → Type 0) → Drives → State → ℕ → List ℕ → State → ℕ → Type 0
Again P d s₁ w between s₂ r =
    Writes (command_at s₁ w)
    → Reads (command_at s₂ r)
    → (command_at s₂ r).unit ≡ (command_at s₁ w).unit
    → sector_of (command_at s₂ r) ≡ sector_of (command_at s₁ w)
    → Along d (Spares (command_at s₁ w).unit (sector_of (command_at s₁ w))) between (step_at d w s₁)
    -- no status byte lies in the data of the read
    → ((j : ℕ) → j < sector_bytes → ¬ Posted (command_at s₂ r) memory (in_memory (command_at s₂ r) j))
    → P (command_at s₂ r)
    → (j : ℕ)
    → j < sector_bytes
    → get_or ((step_at d r s₂).store memory) (in_memory (command_at s₂ r) j) 0 ≡ get_or (s₁.store memory) (in_memory (command_at s₁ w) j) 0

abbrev pub ReadBackIf : (Record → Type 0) → Type 0
ReadBackIf P =
    (d : Drives) (n : ℕ) (before : List ℕ) (w : ℕ) (between : List ℕ) (r : ℕ) (after : List ℕ) (s s' : State)
    → Taken d n (before ++ (w ∷ (between ++ (r ∷ after)))) s s'
    → Again P d (steps_at d before s) w between (steps_at d between (step_at d w (steps_at d before s))) r

abbrev pub WrittenThenRead : Type 0
WrittenThenRead = ReadBackIf OnePlace

-- what is written is read back, also with lists on either side, if the ranges of the read are disjoint
abbrev pub ReadBackIfDisjoint : Type 0
ReadBackIfDisjoint = ReadBackIf DisjointRanges
