-- What a command reads and writes from its first step to its close, as lists of ranges, and when two commands conflict (Touch 1 to 5).
use Rattle.std.specs.Prelude.{Bool, ◌||◌, cond, List, [], ◌∷◌, ◌++◌}
use Rattle.meaning.specs.Ranges.{Range, bytes, sectors_of, meet}
use Rattle.meaning.specs.Links.{ranges_of}
use Rattle.meaning.specs.declared.Record.{Record}
use Rattle.meaning.specs.Command.{reads, writes, listed, links_of}

pub record Touched : Type 0 where
  pub read : List Range
  pub written : List Range

-- where a command's data is, laid end to end: nothing else says where it is (Link 8)
abbrev pub data_bytes : Record → List Range
data_bytes r = ranges_of (listed r) r.address r.count (links_of r)

-- its four status bytes, and its sectors, which are those of its own unit
abbrev pub status_bytes : Record → Range
status_bytes r = bytes r.iopb 4

abbrev pub sectors : Record → Range
sectors r = sectors_of r.unit r.sector r.count

-- Touch 1: a Read Data with code 00 reads its sectors, and writes its data bytes and its status bytes
abbrev pub by_read : Record → Touched
by_read r = record { read = sectors r ∷ []; written = data_bytes r ++ status_bytes r ∷ [] }

-- Touch 2: a Write Data with code 00 reads its data bytes, and writes its sectors and its status bytes
abbrev pub by_write : Record → Touched
by_write r = record { read = data_bytes r; written = sectors r ∷ status_bytes r ∷ [] }

-- Touch 3: any other command writes its status bytes only
abbrev pub by_other : Record → Touched
by_other r = record { read = []; written = status_bytes r ∷ [] }

-- by whether a command reads and whether it writes
abbrev pub touched_by : Bool → Bool → Record → Touched
touched_by rd wr r = cond rd (by_read r) (cond wr (by_write r) (by_other r))

unfoldable pub touched : Record → Touched
touched r = touched_by (reads r) (writes r) r

-- the one writes something that the other reads or writes
unfoldable pub disturbs : Touched → Touched → Bool
disturbs x y = meet x.written (y.read ++ y.written)

-- Touch 4: two commands conflict if one of them disturbs the other
unfoldable pub conflict : Record → Record → Bool
unfolding touched disturbs
conflict r s = disturbs (touched r) (touched s) || disturbs (touched s) (touched r)
