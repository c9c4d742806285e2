-- Why a call refuses, by the number of each reason; and the number that an answer tells, which is 0 where nothing is refused.
use Rattle.std.specs.Prelude.{ℕ, Result, Ok, Err}
use Rattle.meaning.specs.declared.refusals.Refusal.{Refusal}
use Rattle.meaning.specs.declared.refusals.Refusal.TheVariants.{WrongSize, OddAddress, OutsideMemory, SharedIopb, LongChain, Waits, Finished, NoPlace, Spoiled, NoSector, NoUnit}

-- the number of a refusal
abbrev pub number_of : Refusal → ℕ
number_of WrongSize = 1
number_of OddAddress = 2
number_of OutsideMemory = 3
number_of SharedIopb = 4
number_of LongChain = 5
number_of Waits = 6
number_of Finished = 7
number_of NoPlace = 8
number_of Spoiled = 9
number_of NoSector = 10
number_of NoUnit = 11

-- the number of an answer
abbrev pub told : {A : Type 0} → Result A Refusal → ℕ
told (Ok x) = 0
told (Err r) = number_of r
