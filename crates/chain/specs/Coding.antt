-- What is fixed of a command, its code and how many sectors would have fitted, as the code works it out: by the rows that do not look at its
-- data, then by its data, with a list or without one. proofs/Coding proves that this is what the rules fix. n is the length of memory.
use Rattle.std.specs.Prelude.{ℕ, ◌*◌, not, ◌&&◌, cond, Result, Ok, Err, List, [], ◌∷◌, ◌++◌, eqb}
use Rattle.meaning.specs.declared.Copied.{Copied}
use Rattle.meaning.specs.declared.Link.{Link}
use Rattle.meaning.specs.declared.Drive.{Drive}
use Rattle.meaning.specs.First.{Row, first_of, told_of, ◌↝◌, ◌telling◌}
use Rattle.meaning.specs.Each.{some_of, sum_of}
use Rattle.meaning.specs.Sectors.{sector_bytes}
use Rattle.meaning.specs.Ranges.{bytes}
use Rattle.meaning.specs.Links.{range_of}
use Rattle.meaning.specs.Ends.{memory_end, as_byte}
use Rattle.meaning.specs.Code.{nop, write, read, command_in, gathers, odd, link_count, list_outside, outside, command_rows, transfer_rows}
use Rattle.chain.specs.declared.code.Verdict.{Verdict}
use Rattle.chain.specs.declared.code.Command.{Command}
use Rattle.chain.specs.declared.code.Command.TheVariants.{NoOperation, WriteData, ReadData}
use Rattle.chain.specs.declared.code.Fault.{Fault}
use Rattle.chain.specs.declared.code.Fault.TheVariants.{NextAlignment, Unimplemented, NotReady, CountZero, CylinderAbove, HeadAbove, SectorAbove, PastDrive, Protected, ListOutside, ListLength, ListAlignment, RangeOutside, PastMemory}

-- how many elements of a list the walk reads
unfoldable pub to_read : Copied → ℕ → ℕ → ℕ
to_read c early n = cond (eqb early 0 && gathers c) (cond (list_outside c n) 0 (link_count c)) 0

-- the number of a command, in bits 3-0 of byte 0
abbrev pub command_number : Command → ℕ
command_number NoOperation = nop
command_number WriteData = write
command_number ReadData = read

-- a code, and what is told beside it
abbrev pub fixed_as : ℕ → ℕ → Verdict
fixed_as code fitted = record { code = code; fitted = fitted }

-- what is fixed of a command at fault
abbrev pub fault_fixes : Fault → Verdict
fault_fixes NextAlignment = fixed_as 0x1E 0
fault_fixes Unimplemented = fixed_as 0x14 0
fault_fixes NotReady = fixed_as 0x42 0
fault_fixes CountZero = fixed_as 0x13 0
fault_fixes CylinderAbove = fixed_as 0x10 0
fault_fixes HeadAbove = fixed_as 0x11 0
fault_fixes SectorAbove = fixed_as 0x12 0
fault_fixes (PastDrive fitted) = fixed_as 0x10 fitted
fault_fixes Protected = fixed_as 0x90 0
fault_fixes ListOutside = fixed_as 0x4B 0
fault_fixes ListLength = fixed_as 0x1C 0
fault_fixes ListAlignment = fixed_as 0x1F 0
fault_fixes RangeOutside = fixed_as 0x4B 0
fault_fixes (PastMemory fitted) = fixed_as 0x4B fitted

-- and of one that was asked
abbrev pub verdict_by : {A : Type 0} → Result A Fault → Verdict
verdict_by (Ok x) = fixed_as 0x00 0
verdict_by (Err f) = fault_fixes f

-- what the first row fixes that applies; 00 and nothing where none does
unfoldable pub verdict_of : List Row → Verdict
verdict_of rows = fixed_as (first_of rows 0) (told_of rows 0)

-- the rows that do not look at the data
abbrev pub early_rows : Copied → Drive → List Row
early_rows c d = command_rows c ++ transfer_rows c d

-- what is asked where no list was read
abbrev pub plain_rows : Copied → ℕ → List Row
plain_rows c n =
    let end = memory_end n (bytes c.address (sector_bytes * c.count)) in
    eqb (command_in c.byte0) nop ↝ 0x00
    ∷ gathers c ↝ 0x4B
    ∷ end.past ↝ 0x4B telling as_byte end.fitted
    ∷ []

-- where the list xs was read; these rows tell nothing
abbrev pub list_rows : ℕ → ℕ → List Link → List Row
list_rows count n xs =
    not (eqb (sum_of (λ x. x.length) xs) (sector_bytes * count)) ↝ 0x1C
    ∷ some_of (λ x. odd x.address) xs ↝ 0x1F
    ∷ some_of (λ x. outside n (range_of x)) xs ↝ 0x4B
    ∷ []

unfoldable pub list_code : ℕ → ℕ → List Link → ℕ
list_code count n xs = first_of (list_rows count n xs) 0

-- all of it, where k elements were read
unfoldable pub late_verdict : Copied → Verdict → ℕ → List Link → ℕ → Verdict
unfolding verdict_of list_code
late_verdict c early n xs k = cond (eqb early.code 0) (cond (eqb k 0) (verdict_of (plain_rows c n)) (fixed_as (list_code c.count n xs) 0)) early
