-- A link list of one range that covers the whole transfer does what the same command without SGM does at that address (Link 8). Where both
-- get code 00 they conflict with the same commands, and their steps, done one after another from the same memory and disks, leave the same
-- bytes everywhere, but for SGM in the status byte 0 that the last step posts. d are the drives, r the record of the command with the list, q
-- that of the one without.
use Rattle.std.specs.Prelude.{◌≡◌, ◌≢◌, ℕ, ◌*◌, ◌≤◌, ◌<◌, List, [], ◌∷◌, length, get_or}
use Rattle.meaning.specs.Drives.{Drives}
use Rattle.meaning.specs.declared.Link.{Link}
use Rattle.meaning.specs.declared.Record.{Record}
use Rattle.meaning.specs.Store.{Space, memory, Store}
use Rattle.meaning.specs.Sectors.{sector_bytes}
use Rattle.meaning.specs.Fields.{iopb_bytes, byte_of, bit, sgm, data_address}
use Rattle.meaning.specs.Links.{link_at}
use Rattle.meaning.specs.Code.{copied_at, link_count}
use Rattle.meaning.specs.Command.{links_of, steps_of, remaining}
use Rattle.meaning.specs.Touch.{touched, conflict}
use Rattle.meaning.specs.Step.{stepped}
use Rattle.meaning.specs.Run.{steps_done}
use Rattle.meaning.specs.Conditions.{Within}
use Rattle.promises.specs.WalkNumbers.{walked_at}

-- two bytes that differ in no bit but SGM, bit 4
abbrev pub ButSgm : ℕ → ℕ → Type 0
ButSgm b e = (k : ℕ) → k < 8 → k ≢ 4 → bit k b ≡ bit k e

-- ---- of any two records

-- the same command in all but its data address, its list and SGM
pub record SameButList (r q : Record) : Type 0 where
  pub iopb : r.iopb ≡ q.iopb
  pub sector : r.sector ≡ q.sector
  pub taken : r.taken ≡ q.taken
  pub count : r.count ≡ q.count
  pub unit : r.unit ≡ q.unit
  pub byte0 : ButSgm r.byte0 q.byte0
  pub code : r.code ≡ q.code
  pub fitted : r.fitted ≡ q.fitted

-- q has no list; that of r has one range, x, which lies where the data of q does
pub record OneRange (r q : Record) (x : Link) : Type 0 where
  pub same : SameButList r q
  pub plain : q.ranges ≡ 0
  pub one : r.ranges ≡ 1
  pub only : links_of r ≡ x ∷ []
  pub address : x.address ≡ q.address
  pub length : x.length ≡ sector_bytes * q.count

-- they are still so after a step of each
abbrev pub StaysOneRange : Type 0
StaysOneRange = (r q : Record) (x : Link) → OneRange r q x → OneRange (stepped r) (stepped q) x

-- s and u hold the same bytes in every space, but that byte a of memory may differ in SGM
pub record AlikeBut (a : ℕ) (s u : Store) : Type 0 where
  pub sizes : (p : Space) → length (s p) ≡ length (u p)
  pub bytes : (p : Space) (y : ℕ) → ¬ ((p ≡ memory) × (y ≡ a)) → get_or (s p) y 0 ≡ get_or (u p) y 0
  pub status : ButSgm (get_or (s memory) a 0) (get_or (u memory) a 0)

pub record Alike (d : Drives) (r q : Record) : Type 0 where
  -- as many steps, and the same bytes read and written
  pub steps : steps_of r ≡ steps_of q
  pub touches : touched r ≡ touched q
  pub conflicts : (e : Record) → conflict e r ≡ conflict e q
  -- any number of steps that are left to take, from the same store: without the last one, which closes, they leave the very same
  pub before_the_close : (n : ℕ) (s : Store) → n < remaining r → steps_done d n r s ≡ steps_done d n q s
  pub moves : (n : ℕ) (s : Store) → n ≤ remaining r → AlikeBut r.iopb (steps_done d n r s) (steps_done d n q s)

abbrev pub OneRangeAsNone : Type 0
OneRangeAsNone = (d : Drives) (r q : Record) (x : Link) → OneRange r q x → Alike d r q

-- ---- as the walk fills them

-- what the list of the IOPB at a of memory m begins with
abbrev pub first_link : List ℕ → ℕ → Link
first_link m a = link_at m (data_address m a)

-- The IOPB at a, in memory m with SGM and a list of one range, and in memory m' without SGM: all its bytes are the same but SGM, byte 6 and
-- the data address, which in m' is that of the range. Both get 00, and so the range covers the whole transfer.
pub record SameButSgm (m m' : List ℕ) (d : Drives) (a : ℕ) : Type 0 where
  pub byte0 : ButSgm (byte_of m a 0) (byte_of m' a 0)
  pub set : sgm m a ≡ 1
  pub clear : sgm m' a ≡ 0
  pub others : (k : ℕ) → k < iopb_bytes → k ≢ 0 → k ≢ 6 → ¬ Within k 0x10 4 → byte_of m a k ≡ byte_of m' a k
  pub one : link_count (copied_at m a) ≡ 1
  pub address : (first_link m a).address ≡ data_address m' a
  pub listed : (walked_at d m a).code ≡ 0
  pub plain : (walked_at d m' a).code ≡ 0

abbrev pub WalkedSo : Type 0
WalkedSo = (m m' : List ℕ) (d : Drives) (a : ℕ) → SameButSgm m m' d a → OneRange (walked_at d m a) (walked_at d m' a) (first_link m a)

-- so all of it agrees, and the whole command does
abbrev pub whole : Drives → Record → Store → Store
whole d r s = steps_done d (steps_of r) r s

pub record WalkedAlike (m m' : List ℕ) (d : Drives) (a : ℕ) : Type 0 where
  pub alike : Alike d (walked_at d m a) (walked_at d m' a)
  pub closed : (s : Store) → AlikeBut a (whole d (walked_at d m a) s) (whole d (walked_at d m' a) s)

abbrev pub OneRangeWalked : Type 0
OneRangeWalked = (m m' : List ℕ) (d : Drives) (a : ℕ) → SameButSgm m m' d a → WalkedAlike m m' d a
