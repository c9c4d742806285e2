-- What a record says of its command: its kind, its steps, whether it is finished.
use Rattle.std.specs.Prelude.{ℕ, ◌-◌, Bool, not, ◌&&◌, ◌||◌, cond, List, [], take, leb, eqb}
use Rattle.meaning.specs.declared.Record.{Record}
use Rattle.meaning.specs.declared.Link.{Link}
use Rattle.meaning.specs.Code.{command_in, read, write}
use Rattle.meaning.specs.Links.{no_links}

-- a Read Data with code 00
abbrev pub reads : Record → Bool
reads r = eqb r.code 0 && eqb (command_in r.byte0) read

-- a Write Data with code 00
abbrev pub writes : Record → Bool
writes r = eqb r.code 0 && eqb (command_in r.byte0) write

-- a transfer with code 00
abbrev pub transfers : Record → Bool
transfers r = reads r || writes r

-- a transfer with code 00 has as many steps as its count; every other command has one (Step 1 and 2)
unfoldable pub steps_of : Record → ℕ
steps_of r = cond (transfers r) r.count 1

-- no step is left (Step 10)
unfoldable pub finished : Record → Bool
unfolding steps_of
finished r = leb (steps_of r) r.taken

-- the steps that are left
unfoldable pub remaining : Record → ℕ
unfolding steps_of
remaining r = steps_of r - r.taken

-- a command has a link list exactly if its number of ranges is not zero, whatever the copied byte 0 says (Link 4)
abbrev pub listed : Record → Bool
listed r = not (eqb r.ranges 0)

abbrev pub links_of : Record → List Link
links_of r = take r.ranges r.list

-- what `get_or` gives past the end of a table; no promise speaks of it
abbrev pub no_record : Record
no_record = record { iopb = 0; address = 0; sector = 0; taken = 0; ranges = 0; count = 0; unit = 0; byte0 = 0; code = 0; fitted = 0; list = [] }

-- a record of zeros, as a table has it that holds no command yet
abbrev pub blank_record : Record
blank_record = record { iopb = 0; address = 0; sector = 0; taken = 0; ranges = 0; count = 0; unit = 0; byte0 = 0; code = 0; fitted = 0; list = no_links }
