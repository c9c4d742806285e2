-- The records that are made of IOPBs by their addresses, one by one, over the records of a table. m is memory.
use Rattle.std.specs.Prelude.{ℕ, List, [], ◌++◌, map, length, take, drop}
use Rattle.meaning.specs.declared.Copied.{Copied}
use Rattle.meaning.specs.declared.Drive.{Drive}
use Rattle.meaning.specs.declared.Record.{Record}
use Rattle.meaning.specs.Drives.{Drives}
use Rattle.meaning.specs.Links.{no_links}
use Rattle.meaning.specs.Code.{copied_at, first_sector}
use Rattle.meaning.specs.Walk.{record_of}
use Rattle.chain.specs.Coding.{verdict_of, early_rows, late_verdict}

-- the record of the IOPB at an address, by the drive of its own unit
abbrev pub record_at : List ℕ → Drives → ℕ → Record
record_at m d a = record_of (copied_at m a) a (d.on (copied_at m a).unit) m

-- a command's record with no list; d is the drive of its own unit
unfoldable pub plain_record_of : Copied → ℕ → Drive → List ℕ → Record
unfolding verdict_of late_verdict
plain_record_of c a d m =
    let verdict = late_verdict c (verdict_of (early_rows c d)) (length m) [] 0 in
    record {
      iopb = a;
      address = c.address;
      sector = first_sector d c;
      taken = 0;
      ranges = 0;
      count = c.count;
      unit = c.unit;
      byte0 = c.byte0;
      code = verdict.code;
      fitted = verdict.fitted;
      list = no_links;
    }

-- that of the IOPB at an address
abbrev pub plain_record_at : List ℕ → Drives → ℕ → Record
plain_record_at m d a = plain_record_of (copied_at m a) a (d.on (copied_at m a).unit) m

-- the first n records of one table over those of another
abbrev pub over : ℕ → List Record → List Record → List Record
over n of to = take n of ++ drop n to

-- a table over whose first n records those of the IOPBs at the first n of these addresses are laid
abbrev pub filled_at : List ℕ → Drives → ℕ → List ℕ → List Record → List Record
filled_at m d n addresses t = over n (map (record_at m d) addresses) t
