-- The numbers of picks, runs, looks and viewers, and the codes, are given exactly when their tables say: the one law of tables, applied to
-- each.
use mathlib.Core.Path.{◌≡◌, refl, sym, ◌∙◌}
use mathlib.Core.Logic.{◌↔◌, ◌≢◌, ◌⊎◌, inl, inr}
use Prim.Native.Nat.{ℕ, ◌+◌, ◌*◌, ◌%◌, ◌≤◌, ◌<◌}
use native.Mathlib.Omega.{arith}
use mathlib.Core.Bool.{Bool, true, false, cond}
use mathlib.Core.List.{List, [], ◌∷◌, ◌++◌, map}
use lib.ListN.{length, get_or}
use lib.Dec.{ltb}
use Rattle.meaning.specs.declared.Drive.{Drive}
use Rattle.meaning.specs.Drives.{Drives}
use Rattle.meaning.specs.declared.Copied.{Copied}
use Rattle.meaning.specs.declared.Link.{Link}
use Rattle.meaning.specs.declared.Record.{Record}
use Rattle.meaning.specs.Store.{memory, disk, Store}
use Rattle.meaning.specs.State.{State}
use Rattle.meaning.specs.First.{first_of}
use Rattle.meaning.specs.Sectors.{sector_bytes, maximum_on, sector_count, largest_sector}
use Rattle.meaning.specs.Fields.{iopb_bytes, bit}
use Rattle.meaning.specs.Look.{look_number}
use Rattle.meaning.specs.View.{made_number, view_of}
use Rattle.meaning.specs.Links.{link_bytes, ranges_of, bytes_in}
use Rattle.meaning.specs.Code.{nop, write, read, command_in, first_sector, link_count, links_in, command_rows, transfer_rows, data_rows, code_of}
use Rattle.meaning.specs.Command.{listed, links_of, no_record}
use Rattle.meaning.specs.Pick.{place_number, pick_number, PickGives}
use Rattle.meaning.specs.Run.{run_number, run_reply, RunGives}
use Rattle.meaning.specs.Table.{Given, ◌⇒◌, NoneOf}
use Rattle.meaning.specs.Conditions.{LiesIn, SomeOf, Absent, ReadsAt, WritesAt, Disturbs, Conflict}
use Rattle.meaning.proofs.Means.{Means, holds, fails, when_true, when_false, is_true, is_false, means_iff, means_itself, means_off, means_and, means_or₃, means_lt, means_le, means_above, means_eq, means_other, means_of}
use Rattle.meaning.proofs.All.{All}
use Rattle.meaning.proofs.Numbers.{Off, rows_but, off_last}
use Rattle.meaning.proofs.Table.{otherwise, ◌&◌, by_number, by_place, Asked, no_more, ◌and◌, with_numbers}
use Rattle.meaning.proofs.Conditions.{some_sector, means_absent, means_images, means_sizes, means_finished, means_outside, means_spoiled}
use Rattle.meaning.proofs.Ranges.{no_memory}
use Rattle.meaning.proofs.Conflict.{means_conflict, means_waits}
use Rattle.promises.specs.PickNumbers.{pick_table, run_table, PickExactlyWhen, RunExactlyWhen, ConflictExactlyWhen, MeetInMemory, ConflictOfTwoUnits}
use Rattle.promises.specs.Looks.{LookExactlyWhen}
use Rattle.promises.specs.Views.{view_table, ViewExactlyWhen}
use Rattle.promises.specs.Codes.{SectorAbove, Data, command_table, transfer_table, list_table, PastMemory, CodeExactlyWhen, NotReadyExactlyWhen}

-- ---- picks and runs

module _ (d : Drives) (n : ℕ) where
  pub pick_number_exactly_when : (p : ℕ) (s : State) (N : ℕ) → (pick_number d n p s ≡ N) ↔ Given (pick_table d n p s) N
  unfolding pick_number place_number
  pick_number_exactly_when p s =
      by_number
      (means_sizes d s
      & means_spoiled d n s
      & means_le n p
      & means_finished (get_or s.table p no_record)
      & means_waits s.table p
      & otherwise)
      tt

  pub run_number_exactly_when : (s : State) (N : ℕ) → (run_number d n s ≡ N) ↔ Given (run_table d n s) N
  unfolding run_number
  run_number_exactly_when s = by_number (means_sizes d s & means_spoiled d n s & otherwise) tt

pub pick_exactly_when : (N : ℕ) → PickExactlyWhen N
unfolding PickGives
pick_exactly_when N d n p s k s' g = rw g.0 (pick_number_exactly_when d n p s N)

pub run_exactly_when : (N : ℕ) → RunExactlyWhen N
unfolding RunGives run_reply
run_exactly_when N d n go s r s' g = rw g.0 (run_number_exactly_when d n s N)

pub conflict_exactly_when : ConflictExactlyWhen
conflict_exactly_when r s = (when_true (means_conflict r s), is_true (means_conflict r s))

-- the data of a command lies in memory, so what it touches of a disk is its sectors, and that disk is its unit's own
no_data_there : (b : Bool) (a n : ℕ) (xs : List Link) (u x : ℕ) → ¬ SomeOf (λ y. LiesIn y (disk u) x) (ranges_of b a n xs)
no_data_there true a n [] u x h = h
no_data_there true a n (y ∷ xs) u x (inl h) = no_memory u h.0
no_data_there true a n (y ∷ xs) u x (inr h) = no_data_there true a n xs u x h
no_data_there false a n xs u x (inl h) = no_memory u h.0
no_data_there false a n xs u x (inr h) = h

module _ (r : Record) (u x : ℕ) where
  writes_own : WritesAt r (disk u) x → u ≡ r.unit
  writes_own (inl h) = absurd (no_data_there (listed r) r.address r.count (links_of r) u x h.1)
  writes_own (inr (inl h)) = let e = h.1.0 in cc
  writes_own (inr (inr h)) = absurd (no_memory u h.0)

  touches_own : ReadsAt r (disk u) x ⊎ WritesAt r (disk u) x → u ≡ r.unit
  touches_own (inl (inl h)) = absurd (no_data_there (listed r) r.address r.count (links_of r) u x h.1)
  touches_own (inl (inr h)) = let e = h.1.0 in cc
  touches_own (inr h) = writes_own h

pub conflict_of_two_units : ConflictOfTwoUnits
conflict_of_two_units r s other = ((λ e. there (when_true (means_conflict r s) e)), λ h. is_true (means_conflict r s) (back h))
  where
    apart : (q t : Record) → q.unit ≢ t.unit → Disturbs q t → (x : ℕ) × WritesAt q memory x × (ReadsAt t memory x ⊎ WritesAt t memory x)
    apart q t n (memory, x, w, h) = (x, w, h)
    apart q t n (disk u, x, w, h) = absurd (n (sym (writes_own q u x w) ∙ touches_own t u x h))

    there : Conflict r s → MeetInMemory r s
    there (inl h) = let m = apart r s other h in (m.0, inl (m.1, m.2))
    there (inr h) = let m = apart s r (λ e. other (sym e)) h in (m.0, inr (m.1, m.2))

    back : MeetInMemory r s → Conflict r s
    back (x, inl h) = inl (memory, x, h.0, h.1)
    back (x, inr h) = inr (memory, x, h.0, h.1)

-- ---- looks and viewers

-- a largest sector number is one less than the number of sectors, of which there is one at least
pub no_such_sector : (d : Drive) (n : ℕ) → Means (sector_count d ≤ n) (ltb (largest_sector d) n)
unfolding largest_sector
no_such_sector d n = let z = some_sector d in means_iff (omega arith) (means_lt (largest_sector d) n)

pub look_exactly_when : (d : Drives) (u n : ℕ) (s : Store) (N : ℕ) → LookExactlyWhen d u n s N
unfolding look_number
look_exactly_when d u n s = by_number (means_images d s & means_absent d u & no_such_sector (d.on u) n & otherwise) tt

view_number_exactly_when : (m : List ℕ) (a N : ℕ) → (made_number m a ≡ N) ↔ Given (view_table m a) N
unfolding made_number
view_number_exactly_when m a = by_number (means_eq (a % 2) 1 & means_above (a + iopb_bytes) (length m) & otherwise) tt

pub view_exactly_when : (m : List ℕ) (a N : ℕ) → ViewExactlyWhen m a N
unfolding view_of
view_exactly_when m a N = (view_number_exactly_when m a N, λ v e. rw e (view_number_exactly_when m a N))

-- ---- codes

pub means_sector_above : (d : Drive) (c : Copied) → Means (SectorAbove d c) (ltb (maximum_on d c.head) c.sector)
unfolding maximum_on
means_sector_above d c = go (means_eq c.head d.head)
  where
    go : {b : Bool} → Means (c.head ≡ d.head) b → Means (SectorAbove d c) (ltb (cond b d.last_sector d.sector) c.sector)
    go (holds e) = means_iff ((λ l. inl (e, l)), above) (means_lt d.last_sector c.sector)
      where
        above : SectorAbove d c → d.last_sector < c.sector
        above (inl l) = l.1
        above (inr l) = absurd (l.0 e)
    go (fails n) = means_iff ((λ l. inr (n, l)), above) (means_lt d.sector c.sector)
      where
        above : SectorAbove d c → d.sector < c.sector
        above (inl l) = absurd (n l.0)
        above (inr l) = l.1

-- what a command is asked, each test beside what it means; its codes are given by these questions, and so is what is told beside them
module _ (c : Copied) (d : Drive) (m : List ℕ) where
  abbrev tests : List Bool
  tests = map (λ r. r.applies) (command_rows c ++ (transfer_rows c d ++ data_rows c (length m) (links_in m c)))

  abbrev meanings : List (Type 0)
  meanings = map (λ k. k.holds) (command_table c ++ (transfer_table c d ++ (list_table c m ++ (PastMemory c m ⇒ 0x4B ∷ []))))

  pub questions : Asked tests meanings
  questions =
      means_and (means_eq (bit 5 c.byte0) 1) (means_eq (c.next % 2) 1)
      and means_or₃ (means_lt read (command_in c.byte0)) (means_and (means_eq (bit 4 c.byte0) 1) (means_eq (command_in c.byte0) nop)) (means_other c.subfunction 0)
      and means_eq (command_in c.byte0) nop
      and means_off d.present
      and means_eq c.count 0
      and means_lt d.cylinder c.cylinder
      and means_lt d.head c.head
      and means_sector_above d c
      and means_lt (sector_count d) (first_sector d c + c.count)
      and means_and (means_eq (command_in c.byte0) write) (means_itself d.protected)
      and means_and (means_eq (bit 4 c.byte0) 1) (means_lt (length m) (c.address + link_bytes * link_count c))
      and means_other (bytes_in (Data m c)) (sector_bytes * c.count)
      and means_of (λ x. means_eq (x.address % 2) 1) (links_in m c)
      and means_of (means_outside (length m)) (Data m c)
      and no_more

pub code_exactly_when : (c : Copied) (d : Drive) (m : List ℕ) (code : ℕ) → CodeExactlyWhen c d m code
unfolding code_of
code_exactly_when c d m =
    by_place
    (with_numbers 0 (questions c d m)
    (0x1E ∷ 0x14 ∷ 0x00 ∷ 0x42 ∷ 0x13 ∷ 0x10 ∷ 0x11 ∷ 0x12 ∷ 0x10 ∷ 0x90 ∷ 0x4B ∷ 0x1C ∷ 0x1F ∷ 0x4B ∷ []))

-- 42H is given by no row but that of an absent unit
module _ (c : Copied) (d : Drive) (m : List ℕ) where
  -- what every command is asked, beside what the tests of its rows say
  none_asked : All Off (command_rows c) → NoneOf (command_table c)
  none_asked off = go (questions c d m) off
    where
      go : Asked (tests c d m) (meanings c d m) → All Off (command_rows c) → NoneOf (command_table c)
      go (x and (y and (z and more))) off = (when_false x off.0, (when_false y off.1.0, (when_false z off.1.1.0, tt)))

  asked_none : NoneOf (command_table c) → All Off (command_rows c)
  asked_none none = go (questions c d m)
    where
      go : Asked (tests c d m) (meanings c d m) → All Off (command_rows c)
      go (x and (y and (z and more))) = (is_false x none.0, (is_false y none.1.0, (is_false z none.1.1.0, tt)))

  abbrev by_data : ℕ
  by_data = first_of (data_rows c (length m) (links_in m c)) 0

  -- past the row of an absent unit no row gives it
  other_code : d.present ≡ true → first_of (transfer_rows c d) by_data ≢ 0x42
  other_code here e =
      let off = rows_but 0x42 (transfer_rows c d) by_data e (rw here) in
      let f = sym (off_last (transfer_rows c d) by_data off) ∙ e in
      let none = rows_but 0x42 (data_rows c (length m) (links_in m c)) 0 f refl in
      let z = sym (off_last (data_rows c (length m) (links_in m c)) 0 none) ∙ f in
      omega arith

pub not_ready_exactly_when : NotReadyExactlyWhen
unfolding code_of
not_ready_exactly_when d c m = (there, λ h. back h.0 h.1)
  where
    on : Drive
    on = d.on c.unit

    code : ℕ
    code = first_of (command_rows c) (first_of (transfer_rows c on) (by_data c on m))

    there : code ≡ 0x42 → NoneOf (command_table c) × Absent d c.unit
    there e =
        let off = rows_but 0x42 (command_rows c) _ e refl in
        (none_asked c on m off, go on.present refl (sym (off_last (command_rows c) _ off) ∙ e))
      where
        go : (b : Bool) → on.present ≡ b → first_of (transfer_rows c on) (by_data c on m) ≡ 0x42 → on.present ≡ false
        go true here f = absurd (other_code c on m here f)
        go false gone f = gone

    back : NoneOf (command_table c) → Absent d c.unit → code ≡ 0x42
    back none gone = off_last (command_rows c) _ (asked_none c on m none) ∙ rw gone
