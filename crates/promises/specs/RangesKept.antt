-- The ranges of a link list are kept wherever the walk read the list, and there are none otherwise (Link 6 and 7): with the codes 00, 1CH and
-- 1FH, and with the last 4BH, that of a range outside memory. The first 4BH is for a list that is not all in memory, and is not read.
-- c is what the walk copied from the IOPB at a, d the drive of its own unit, m memory.
use Rattle.std.specs.Prelude.{◌≡◌, ◌↔◌, ◌≢◌, ◌⊎◌, ℕ, ◌+◌, ◌*◌, ◌≤◌, List, length}
use Rattle.meaning.specs.declared.Drive.{Drive}
use Rattle.meaning.specs.declared.Copied.{Copied}
use Rattle.meaning.specs.declared.Record.{Record}
use Rattle.meaning.specs.Links.{link_bytes, links_at, padded}
use Rattle.meaning.specs.Code.{write, read, command_in, link_count}
use Rattle.meaning.specs.Walk.{record_of}
use Rattle.meaning.specs.Command.{links_of}
use Rattle.promises.specs.Codes.{Sgm}

-- a Write Data or a Read Data with SGM
abbrev pub HasList : Copied → Type 0
HasList c = ((command_in c.byte0 ≡ write) ⊎ (command_in c.byte0 ≡ read)) × Sgm c

-- its list is all in memory
abbrev pub ListInMemory : Copied → List ℕ → Type 0
ListInMemory c m = c.address + link_bytes * link_count c ≤ length m

-- the codes with which the list was read
abbrev pub CodeOfARead : Copied → List ℕ → ℕ → Type 0
CodeOfARead c m code = (code ≡ 0x00) ⊎ (code ≡ 0x1C) ⊎ (code ≡ 0x1F) ⊎ ((code ≡ 0x4B) × ListInMemory c m)

-- r is the record as the walk fills it
pub record RangesKept (c : Copied) (m : List ℕ) (r : Record) : Type 0 where
  pub exactly_when : (r.ranges ≢ 0) ↔ (HasList c × CodeOfARead c m r.code)
  -- then all of them are kept, as they lie in memory
  pub all : r.ranges ≢ 0 → links_of r ≡ links_at m c.address (link_count c)
  -- and zeros past them, or where there are none
  pub zeros : r.list ≡ padded (links_of r)

abbrev pub RangesKeptByCode : Type 0
RangesKeptByCode = (c : Copied) (a : ℕ) (d : Drive) (m : List ℕ) → RangesKept c m (record_of c a d m)
