-- Where the walk keeps ranges. It reads a list where no row before the data's gives a code; and the codes of the data are given by no row
-- before them, so a code tells whether the list was read. Only 4BH is given by two rows, and there the list in memory tells.
use mathlib.Core.Path.{◌≡◌, refl, sym, ap, ◌∙◌}
use mathlib.Core.Logic.{◌≢◌, ◌⊎◌, inl, inr}
use Prim.Native.Nat.{ℕ, ◌+◌, ◌*◌, ◌≤◌}
use native.Mathlib.Omega.{arith}
use mathlib.Core.Bool.{Bool, true, false, not, ◌&&◌, ◌||◌, cond, true≢false}
use mathlib.Core.List.{List, [], map}
use lib.ListN.{length}
use lib.Dec.{ltb, eqb}
use borrow.Author.Tests.{ltb-false, le-ltb, eqb-true, eqb-false, eq-eqb, ne_eqb}
use Rattle.std.proofs.lemmas.Bool.{cond-true, and_parts, or_parts, not-true, not-false}
use Rattle.meaning.specs.declared.Drive.{Drive}
use Rattle.meaning.specs.declared.Copied.{Copied}
use Rattle.meaning.specs.declared.Link.{Link}
use Rattle.meaning.specs.First.{first_of}
use Rattle.meaning.specs.Each.{some_of, every_of}
use Rattle.meaning.specs.Sectors.{sector_bytes}
use Rattle.meaning.specs.Fields.{bit}
use Rattle.meaning.specs.Links.{link_bytes, links_at, padded, range_of, ranges_of, bytes_in}
use Rattle.meaning.specs.Code.{nop, write, read, command_in, chained, gathers, odd, link_count, links_in, list_outside, outside, command_rows, transfer_rows, data_rows, code_of, early_code, links_read}
use Rattle.meaning.specs.Walk.{record_of}
use Rattle.meaning.proofs.Means.{Means, holds, fails, means_eq}
use Rattle.meaning.proofs.Rows.{and_second}
use Rattle.meaning.proofs.Links.{in_listed, links_kept}
use Rattle.meaning.proofs.Numbers.{told_but, rows_but}
use Rattle.meaning.proofs.Coded.{Past, past, early_past, code_past}
use Rattle.promises.specs.RangesKept.{HasList, ListInMemory, CodeOfARead, RangesKeptByCode}

-- ---- rows before the data's

module _ (c : Copied) where
  -- No Operation with SGM gets 1EH or 14H
  pub no_nop : (z N : ℕ) → gathers c ≡ true → first_of (command_rows c) z ≡ N → N ≢ 0x1E → N ≢ 0x14 → eqb (command_in c.byte0) nop ≡ false
  no_nop z N g e o p = go (eqb (command_in c.byte0) nop) refl
    where
      either : (x y u : Bool) (k : ℕ) → cond x 0x1E (cond ((y || true) || u) 0x14 k) ≡ N → ⊥
      either true y u k f = o (sym f)
      either false true u k f = p (sym f)
      either false false u k f = p (sym f)

      go : (b : Bool) → eqb (command_in c.byte0) nop ≡ b → b ≡ false
      go true h = absurd (either (chained c && odd c.next) (ltb read (command_in c.byte0)) (not (eqb c.subfunction 0)) 0 (rw (g, h) at e))
      go false h = refl

-- ---- the data's rows, of a command with a list

module _ (c : Copied) (d : Drive) (m : List ℕ) where
  abbrev n : ℕ
  n = length m

  abbrev xs : List Link
  xs = links_in m c

  -- the list was read
  record WasRead : Type 0 where
    sgm : gathers c ≡ true
    early : early_code c d ≡ 0
    inside : list_outside c n ≡ false

  read_kept : WasRead → links_read m c d ≡ xs
  unfolding links_read
  read_kept w = rw (w.early, w.inside)

  -- then there is a range, and elsewhere none
  some_kept : WasRead → length (links_read m c d) ≢ 0
  some_kept w e = true≢false (sym w.sgm ∙ sym (in_listed m c) ∙ ap not (eq-eqb (length xs) 0 (ap length (sym (read_kept w)) ∙ e)))

  kept_read : length (links_read m c d) ≢ 0 → WasRead
  unfolding links_read
  kept_read k = go (eqb (early_code c d) 0 && not (list_outside c n)) refl k
    where
      go : (b : Bool) → (eqb (early_code c d) 0 && not (list_outside c n)) ≡ b → length (cond b xs []) ≢ 0 → WasRead
      go true e h =
          let t = and_parts (eqb (early_code c d) 0) (not (list_outside c n)) e in
          record {
            sgm = sym (in_listed m c) ∙ ap not (ne_eqb (length xs) 0 h);
            early = eqb-true (early_code c d) 0 t.0;
            inside = not-true (list_outside c n) t.1;
          }
      go false e h = absurd (h refl)

  -- a list that was read, by the code
  module _ (w : WasRead) where
    other : eqb (command_in c.byte0) nop ≡ false
    unfolding early_code
    other = no_nop c (first_of (transfer_rows c d) 0) 0 w.sgm w.early (λ e. omega arith) (λ e. omega arith)

    before : Past c d
    unfolding early_code
    before = past c d 0 0 (rw other) refl w.early

    has_list : HasList c
    has_list =
        let row = or_parts (ltb read (command_in c.byte0) || gathers c && eqb (command_in c.byte0) nop) (not (eqb c.subfunction 0)) before.command.1.0 in
        let most = ltb-false read (command_in c.byte0) (or_parts (ltb read (command_in c.byte0)) (gathers c && eqb (command_in c.byte0) nop) row.0).0 in
        let some = eqb-false (command_in c.byte0) nop other in
        (go (means_eq (command_in c.byte0) write) most some, eqb-true (bit 4 c.byte0) 1 w.sgm)
      where
        go : {k : ℕ} {b : Bool} → Means (k ≡ write) b → k ≤ read → k ≢ nop → (k ≡ write) ⊎ (k ≡ read)
        go (holds e) h o = inl e
        go (fails f) h o = inr (omega arith)

    its_code : CodeOfARead c m (code_of c d n xs)
    its_code =
        let off : (gathers c && list_outside c n) ≡ false = rw (w.sgm, w.inside) in
        let there = ranges_of (gathers c) c.address c.count xs in
        rw (code_past c d n xs before)
        (by_rows (gathers c && list_outside c n) (not (eqb (bytes_in there) (sector_bytes * c.count))) (some_of (λ x. odd x.address) xs) (some_of (outside n) there) off
        (ltb-false n (c.address + link_bytes * link_count c) w.inside))
      where
        by_rows : (x y z u : Bool) → x ≡ false → ListInMemory c m → CodeOfARead c m (cond x 0x4B (cond y 0x1C (cond z 0x1F (cond u 0x4B 0x00))))
        by_rows true y z u e l = absurd (true≢false e)
        by_rows false true z u e l = inr (inl refl)
        by_rows false false true u e l = inr (inr (inl refl))
        by_rows false false false true e l = inr (inr (inr (refl, l)))
        by_rows false false false false e l = inl refl

  -- a code that no row before the data's gives, of a command with SGM
  module _ (N : ℕ) (g : gathers c ≡ true) (e : code_of c d n xs ≡ N) (h : every_of (told_but N) (command_rows c) ≡ true) (k : every_of (told_but N) (transfer_rows c d) ≡ true) where
    before_data : Past c d
    unfolding code_of
    before_data = past c d N (first_of (data_rows c n xs) 0) h k e

    read_inside : ListInMemory c m → WasRead
    read_inside l = record { sgm = g; early = early_past c d before_data; inside = le-ltb n (c.address + link_bytes * link_count c) l }

    -- and that the row for the list does not give either
    read_other : N ≢ 0x4B → WasRead
    read_other o = record { sgm = g; early = early_past c d before_data; inside = sym (and_second (gathers c) (list_outside c n) g) ∙ first _ _ (sym (code_past c d n xs before_data) ∙ e) }
      where
        first : (x : Bool) (z : ℕ) → cond x 0x4B z ≡ N → x ≡ false
        first true z f = absurd (o (sym f))
        first false z f = refl

  read_by_code : HasList c → CodeOfARead c m (code_of c d n xs) → WasRead
  read_by_code h = go
    where
      g : gathers c ≡ true
      g = eq-eqb (bit 4 c.byte0) 1 h.1

      either : {k : ℕ} → (k ≡ write) ⊎ (k ≡ read) → k ≢ nop
      either (inl e) z = omega arith
      either (inr e) z = omega arith

      o : eqb (command_in c.byte0) nop ≡ false
      o = ne_eqb (command_in c.byte0) nop (either h.0)

      go : CodeOfARead c m (code_of c d n xs) → WasRead
      go (inl e) = read_other 0x00 g e (rw o) refl (λ z. omega arith)
      go (inr (inl e)) = read_other 0x1C g e refl refl (λ z. omega arith)
      go (inr (inr (inl e))) = read_other 0x1F g e refl refl (λ z. omega arith)
      go (inr (inr (inr e))) = read_inside 0x4B g e.0 refl refl e.1

  read_listed : WasRead → xs ≡ links_at m c.address (link_count c)
  unfolding links_in
  read_listed w = cond-true (gathers c) (links_at m c.address (link_count c)) [] w.sgm

  -- a code of 00 says that it was read, and that the lengths add up to the sectors
  module _ (g : gathers c ≡ true) (e : code_of c d n xs ≡ 0) where
    transfers_then : eqb (command_in c.byte0) nop ≡ false
    unfolding code_of
    transfers_then = no_nop c (first_of (transfer_rows c d) (first_of (data_rows c n xs) 0)) 0 g e (λ z. omega arith) (λ z. omega arith)

    pub read_then : links_read m c d ≡ xs
    read_then = read_kept (read_other 0 g e (rw transfers_then) refl (λ z. omega arith))

    pub adds_up : bytes_in (map range_of xs) ≡ sector_bytes * c.count
    adds_up =
        let data-code = sym (code_past c d n xs (before_data 0 g e (rw transfers_then) refl)) ∙ e in
        let off = (rows_but 0 (data_rows c n xs) 0 data-code refl).1.0 in
        eqb-true (bytes_in (map range_of xs)) (sector_bytes * c.count) (not-false _ (rw g at off))

pub ranges_kept : RangesKeptByCode
unfolding record_of
ranges_kept c a d m =
    record {
      exactly_when = ((λ k. let w = kept_read c d m k in (has_list c d m w, its_code c d m w)), λ h. some_kept c d m (read_by_code c d m h.0 h.1));
      all = λ k. let w = kept_read c d m k in links_kept (links_read m c d) ∙ read_kept c d m w ∙ read_listed c d m w;
      zeros = ap padded (sym (links_kept (links_read m c d)));
    }
