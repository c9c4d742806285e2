-- What an accepted walk gives: at most 32 records, all as number 9 asks, with no step taken; so 1 and 9 let it pass. Going along the
-- chain, each record that the walk fills is good, since its code was fixed by the same tests.
use mathlib.Core.Path.{◌≡◌, refl, sym, ap, ap₂, ◌∙◌, subst}
use Prim.Native.Nat.{ℕ, zero, suc, ◌+◌, ◌≤◌, ◌<◌, zero-le}
use native.Mathlib.Omega.{arith}
use mathlib.Core.Bool.{Bool, true, false, not, ◌&&◌, and-false}
use mathlib.Core.List.{List, [], ◌∷◌, ◌++◌, map}
use lib.ListN.{length, drop, length-append, length-drop}
use lib.Seq.{take-append_seam}
use lib.Dec.{ltb, eqb, lit<, lit≤}
use borrow.Author.Tests.{le-ltb, eqb-true, not-false}
use Rattle.meaning.specs.declared.Drive.{Drive}
use Rattle.meaning.specs.declared.Copied.{Copied}
use Rattle.meaning.specs.declared.Record.{Record}
use Rattle.meaning.specs.First.{Row, first_of, ◌↝◌, ◌telling◌}
use Rattle.meaning.specs.Each.{some_of, sum_of}
use Rattle.meaning.specs.Store.{memory, Store}
use Rattle.meaning.specs.State.{State, most_commands}
use Rattle.meaning.specs.Sectors.{sector_count}
use Rattle.meaning.specs.Drives.{Drives}
use Rattle.meaning.specs.Sizes.{sizes_wrong}
use Rattle.meaning.specs.Fields.{all_in}
use Rattle.meaning.specs.declared.Link.{Link}
use Rattle.meaning.specs.Links.{most_links}
use Rattle.meaning.specs.Code.{copied_at, nop, write, command_in, odd, first_sector, fitted_on_drive, links_in, list_outside, transfer_rows, data_rows, code_of, links_read}
use Rattle.meaning.specs.Walk.{record_of, goes_on, shares, Chain, refused, accepted, follow, chain_at, filled}
use Rattle.meaning.specs.Command.{transfers, steps_of, remaining}
use Rattle.meaning.specs.Pick.{bad_transfer, bad_record, spoiled}
use Rattle.meaning.specs.Run.{chain_steps, steps_left}
use Rattle.meaning.proofs.All.{All, all_append, Among, here, there, all_at}
use Rattle.std.proofs.lemmas.Bool.{cond_both}
use Rattle.meaning.proofs.Tests.{some_no, sum-map}
use Rattle.meaning.proofs.Links.{in_few, in_listed, none_outside, links_kept}
use Rattle.meaning.proofs.Numbers.{Off, rows_off, Passed, sizes_long}
use Rattle.meaning.proofs.Coded.{Past, past, early_past, code_past}

-- ---- a code of 00

-- of a transfer whose code is 00, no row of what only a transfer is asked applies, neither before its data is looked at nor after
module _ (c : Copied) (d : Drive) (n : ℕ) (xs : List Link) (zero-code : code_of c d n xs ≡ 0) (other : eqb (command_in c.byte0) nop ≡ false) where
  none_before : Past c d
  unfolding code_of
  none_before = past c d 0 (first_of (data_rows c n xs) 0) (rw other) refl zero-code

  -- a row before the data's, found by what it says
  row : {r : Row} → Among r (transfer_rows c d) → Off r
  row a = all_at Off none_before.transfer a

  data_off : All Off (data_rows c n xs)
  data_off = rows_off (data_rows c n xs) 0 (sym (code_past c d n xs none_before) ∙ zero-code) refl

-- ---- a record that the walk fills

-- a code of 00 says that the list was read
pub read_all : (m : List ℕ) (c : Copied) (d : Drive) → code_of c d (length m) (links_in m c) ≡ 0 → eqb (command_in c.byte0) nop ≡ false → links_read m c d ≡ links_in m c
unfolding links_read
read_all m c d e h =
    let off = data_off c d (length m) (links_in m c) e h in
    rw (early_past c d (none_before c d (length m) (links_in m c) e h)) (none_outside m c off.0 (list_outside c (length m)) refl)

-- so it is as number 9 asks
module _ (d : Drives) (s : Store) (c : Copied) (a : ℕ) where
  -- the drive of its own unit
  abbrev own : Drive
  own = d.on c.unit

  abbrev filling : Record
  filling = record_of c a own (s memory)

  abbrev own_code : ℕ
  own_code = code_of c own (length (s memory)) (links_in (s memory) c)

  code_good : own_code ≡ 0 → eqb (command_in c.byte0) nop ≡ false → bad_transfer d s filling ≡ false
  unfolding bad_transfer record_of
  code_good e h =
      let m = s memory in
      let n = length m in
      let xs = links_in m c in
      let last = data_off c own n xs e h in
      let here-it-is : not own.present ≡ false = row c own n xs e h {r = not own.present ↝ 0x42} here in
      let none : eqb c.count 0 ≡ false = row c own n xs e h {r = eqb c.count 0 ↝ 0x13} (search (here, there) depth 12) in
      let drive : ltb (sector_count own) (first_sector own c + c.count) ≡ false = row c own n xs e h {r = ltb (sector_count own) (first_sector own c + c.count) ↝ 0x10 telling fitted_on_drive c own} (search (here, there) depth 12) in
      let unprotected : (eqb (command_in c.byte0) write && own.protected) ≡ false = row c own n xs e h {r = (eqb (command_in c.byte0) write && own.protected) ↝ 0x90} (search (here, there) depth 12) in
      let read = read_all m c own e h in
      rw (here-it-is, read, links_kept xs, in_listed m c, none, le-ltb most_links (length xs) (in_few m c), last.1.1.1.0, last.1.0, drive, e) unprotected

  transfer_good : (transfers filling && bad_transfer d s filling) ≡ false
  unfolding record_of
  transfer_good = go (eqb own_code 0) (eqb (command_in c.byte0) nop) refl refl
    where
      go : (x y : Bool) → eqb own_code 0 ≡ x → eqb (command_in c.byte0) nop ≡ y → (transfers filling && bad_transfer d s filling) ≡ false
      go false y e h = rw e
      go true true e h = rw (e, eqb-true (command_in c.byte0) 0 h)
      go true false e h = rw (code_good (eqb-true own_code 0 e) h) (and-false (transfers filling))

-- a record that number 9 lets pass, and of which no step is taken
pub record Fresh (d : Drives) (s : Store) (r : Record) : Type 0 where
  pub sound : bad_record d s r ≡ false
  pub untaken : r.taken ≡ 0

filled_fresh : (d : Drives) (s : Store) (c : Copied) (a : ℕ) → all_in (s memory) a ≡ true → Fresh d s (record_of c a (d.on c.unit) (s memory))
unfolding bad_record record_of
filled_fresh d s c a h =
    let r = record_of c a (d.on c.unit) (s memory) in
    record { sound = rw (h, le-ltb (steps_of r) 0 zero-le) (transfer_good d s c a); untaken = refl }

-- ---- along the chain

-- what a chain comes to: a number other than 0, or at most 32 fresh records
pub Fine : Drives → State → Chain → Type 0
Fine d s (refused k) = 0 < k
Fine d s (accepted rs) = (sizes_wrong d s ≡ false) × (length rs ≤ most_commands) × All (Fresh d s.store) rs

follow_fine : (more : ℕ) (d : Drives) (s : State) (earlier : List Record) (a : ℕ) → sizes_wrong d s ≡ false
    → length earlier + more ≤ most_commands → All (Fresh d s.store) earlier → Fine d s (follow more (s.store memory) d earlier a)
unfolding follow Fine
follow_fine zero d s earlier a z l h = lit< tt
follow_fine (suc more) d s earlier a z l h =
    let m = s.store memory in
    let c = copied_at m a in
    let r = record_of c a (d.on c.unit) m in
    let rs = earlier ++ r ∷ [] in
    let longer : length rs ≡ length earlier + 1 = length-append earlier (r ∷ []) in
    let all : all_in m a ≡ true → All (Fresh d s.store) rs = λ e. all_append (Fresh d s.store) earlier (r ∷ []) h (filled_fresh d s.store c a e, tt) in
    cond_both (not (all_in m a)) _ _ (Fine d s) (λ _. lit< tt) λ e.
    cond_both (some_of (λ q. shares q.iopb a) earlier) _ _ (Fine d s) (λ _. lit< tt) λ _.
    let fresh = all (not-false (all_in m a) e) in
    cond_both (goes_on c) _ _ (Fine d s) (λ _. follow_fine more d s rs c.next z (omega arith) fresh) λ _.
    (z, omega arith, fresh)

pub chain_fine : (d : Drives) (start : ℕ) (s : State) → Fine d s (chain_at d start s)
unfolding chain_at Fine
chain_fine d start s =
    cond_both (sizes_wrong d s) _ _ (Fine d s) (λ _. lit< tt) λ e.
    cond_both (odd start) _ _ (Fine d s) (λ _. lit< tt) λ _.
    follow_fine most_commands d s [] start e (lit≤ tt) tt

-- a refusal is never number 0, and there are at most 32 commands
pub refused_number : (d : Drives) (start : ℕ) (s : State) (k : ℕ) → chain_at d start s ≡ refused k → 0 < k
unfolding Fine
refused_number d start s k e = subst (Fine d s) e (chain_fine d start s)

pub chain_most : (d : Drives) (start : ℕ) (s : State) (rs : List Record) → chain_at d start s ≡ accepted rs → length rs ≤ most_commands
unfolding Fine
chain_most d start s rs e = (subst (Fine d s) e (chain_fine d start s)).1

-- ---- what the walk gives

fresh_remaining : (d : Drives) (s : Store) (r : Record) → Fresh d s r → remaining r ≡ steps_of r
unfolding remaining
fresh_remaining d s r h = omega (arith, h.untaken)

all_remain : (d : Drives) (s : Store) (rs : List Record) → All (Fresh d s) rs → map remaining rs ≡ map steps_of rs
all_remain d s [] h = refl
all_remain d s (r ∷ rs) h = ap₂ ◌∷◌ (fresh_remaining d s r h.0) (all_remain d s rs h.1)

-- a chain's commands in a table t
pub record Sound (d : Drives) (s : Store) (t : List Record) (n : ℕ) : Type 0 where
  -- 1 and 9 are not given
  pub passed : Passed d n (record { table = t; store = s })
  -- of each command all its steps remain, so the steps that remain are the chain's
  pub steps : steps_left t n ≡ chain_steps t n

pub table_length : (rs t : List Record) → length rs ≤ length t → length (rs ++ drop (length rs) t) ≡ length t
table_length rs t h = simp (length-append, length-drop) (omega arith)

-- an accepted chain, in the table that it was walked into
pub chain_is_sound : (d : Drives) (start : ℕ) (s : State) (rs : List Record) → chain_at d start s ≡ accepted rs
    → Sound d s.store (filled (accepted rs) s.table) (length rs)
unfolding Fine sizes_wrong spoiled chain_steps steps_left
chain_is_sound d start s rs e =
    let h : Fine d s (accepted rs) = subst (Fine d s) e (chain_fine d start s) in
    let more = drop (length rs) s.table in
    let all = all_remain d s.store rs h.2 in
    let long = sizes_long d s h.0 in
    record {
      passed =
          record {
            sizes = rw (table_length rs s.table (let z = h.1 in omega arith)) h.0;
            sound = rw (le-ltb most_commands (length rs) h.1, take-append_seam rs more) (some_no (Fresh d s.store) (bad_record d s.store) (λ r f. f.sound) rs h.2);
          };
      steps = rw take-append_seam (sym (sum-map remaining (λ k. k) rs) ∙ ap (sum_of (λ k. k)) all ∙ sum-map steps_of (λ k. k) rs);
    }
