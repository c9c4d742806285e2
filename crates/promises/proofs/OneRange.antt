-- A list of one range: its data is the one range of the command without a list, so all that follows from where the data is is the same, step
-- after step. The close differs in byte 0 alone, which is the copied byte 0 but for bits 7 and 6. And the walk fills such records.
use mathlib.Core.Path.{◌≡◌, refl, sym, ap, ap₂, ◌∙◌}
use mathlib.Core.Logic.{◌≢◌}
use Prim.Native.Nat.{ℕ, zero, suc, ◌+◌, ◌-◌, ◌*◌, ◌/◌, ◌%◌, ◌≤◌, ◌<◌}
use native.Mathlib.Nat.{add-zero}
use native.Mathlib.Decide.{dec_lt}
use native.Mathlib.Omega.{arith}
use mathlib.Core.Bool.{Bool, true, false, not, ◌&&◌, ◌||◌, cond}
use mathlib.Core.List.{List, [], ◌∷◌, ◌++◌, map}
use lib.ListN.{length, get_or}
use lib.Seq.{sets, set_out, get_or-set_same}
use lib.Dec.{eqb}
use borrow.Author.Tests.{eq-eqb, ne_eqb}
use Rattle.std.proofs.lemmas.Bool.{cond-false, cond-true}
use Rattle.meaning.specs.declared.Copied.{Copied}
use Rattle.meaning.specs.declared.Drive.{Drive}
use Rattle.meaning.specs.Drives.{Drives}
use Rattle.meaning.specs.declared.Link.{Link}
use Rattle.meaning.specs.declared.Record.{Record}
use Rattle.meaning.specs.Store.{Space, memory, disk, Store, area, put, Move, copy, post, move, moves}
use Rattle.meaning.specs.Sectors.{sector_bytes, sector_number}
use Rattle.meaning.specs.Ranges.{bytes, sectors_of}
use Rattle.meaning.specs.Links.{link_at, links_at, range_of, bytes_in}
use Rattle.meaning.specs.Pieces.{Piece, pieces_of}
use Rattle.meaning.specs.Fields.{byte_of, bit, two_bytes, sgm, data_address}
use Rattle.meaning.specs.Code.{copied_at, read, write, command_in, gathers, first_sector, link_count, links_in, list_outside, code_of, fitted_of, early_code, links_read}
use Rattle.meaning.specs.Walk.{record_of}
use Rattle.meaning.specs.Command.{reads, writes, steps_of, remaining}
use Rattle.meaning.specs.Touch.{data_bytes, touched, disturbs, conflict, Touched}
use Rattle.meaning.specs.Step.{sector_move, closing_byte0, drive_status, closing, close_move, step_moves, step, with_taken, stepped}
use Rattle.meaning.specs.Run.{steps_done}
use Rattle.meaning.proofs.Overwrite.{first_last, others_same}
use Rattle.meaning.proofs.Means.{Means, holds, fails, means_eq}
use Rattle.meaning.proofs.Ranges.{means_same}
use Rattle.meaning.proofs.Spaces.{moves_append, length_moves}
use Rattle.meaning.proofs.Records.{remaining_stepped}
use Rattle.meaning.proofs.Links.{links_kept}
use Rattle.meaning.proofs.Pieces.{data_plain, data_listed}
use Rattle.promises.specs.WalkNumbers.{walked_at}
use Rattle.promises.specs.OneRange.{ButSgm, OneRange, StaysOneRange, AlikeBut, OneRangeAsNone, SameButSgm, WalkedSo, OneRangeWalked}
use Rattle.promises.proofs.Closing.{low_bits, bit_6, bit_7, errs_of, errs_small, closing_byte_0}
use Rattle.promises.proofs.Fitted.{told_with_two_codes}
use Rattle.promises.proofs.RangesKept.{read_then, adds_up}

-- ---- bytes that differ in SGM alone

-- bits 3-0 are the command
four_bits : (b : ℕ) → command_in b ≡ bit 0 b + 2 * bit 1 b + 4 * bit 2 b + 8 * bit 3 b
four_bits b = add (command_in b) (b / 2 % 8) (b / 4 % 4) (bit 0 b) (bit 1 b) (bit 2 b) (bit 3 b) (omega arith) (omega arith) (omega arith)
  where
    add : (x y z i j k l : ℕ) → x ≡ i + 2 * y → y ≡ j + 2 * z → z ≡ k + 2 * l → x ≡ i + 2 * j + 4 * k + 8 * l
    add x y z i j k l e f g = omega arith

low_four : (b e : ℕ) → ((k : ℕ) → k < 4 → bit k b ≡ bit k e) → command_in b ≡ command_in e
low_four b e h = four_bits b ∙ (λ j. h 0 (omega arith) j + 2 * h 1 (omega arith) j + 4 * h 2 (omega arith) j + 8 * h 3 (omega arith) j) ∙ sym (four_bits e)

-- byte 0 is posted with bits 7 and 6 made anew
posted_but_sgm : (b e x : ℕ) → x < 2 → ButSgm b e → ButSgm (b % 64 + 64 + 128 * x) (e % 64 + 64 + 128 * x)
posted_but_sgm b e x small h k l n =
    elim (dec_lt k 6) [
      | yes low ↦ low_bits b x small k low ∙ h k l n ∙ sym (low_bits e x small k low)
      | no high ↦ go (means_eq k 6) high
    ]
  where
    go : {y : Bool} → Means (k ≡ 6) y → ¬ (k < 6) → bit k (b % 64 + 64 + 128 * x) ≡ bit k (e % 64 + 64 + 128 * x)
    go (holds z) high = rw z (bit_6 b x small ∙ sym (bit_6 e x small))
    go (fails o) high = let z : k ≡ 7 = omega arith in rw z (bit_7 b x small ∙ sym (bit_7 e x small))

-- two runs of bytes that differ so in the first one, laid at one place
first_but_sgm : (l : List ℕ) (i : ℕ) (vs : List ℕ) (b e : ℕ) → ButSgm b e → ButSgm (get_or (sets l i (b ∷ vs)) i 0) (get_or (sets l i (e ∷ vs)) i 0)
first_but_sgm l i vs b e h =
    rw (first_last l i vs b, first_last l i vs e)
    (elim (dec_lt i (length rest)) [
      | yes k ↦ rw (get_or-set_same rest i b 0 k, get_or-set_same rest i e 0 k) h
      | no k ↦ rw (set_out rest i b (omega arith), set_out rest i e (omega arith)) (λ k l n. refl)
    ])
  where
    rest : List ℕ
    rest = sets l (suc i) vs

alike_refl : (a : ℕ) (s : Store) → AlikeBut a s s
alike_refl a s = record { sizes = λ p. refl; bytes = λ p y n. refl; status = λ k l n. refl }

-- ---- two such records

module _ (r q : Record) (x : Link) (o : OneRange r q x) where
  same_data : data_bytes r ≡ data_bytes q
  same_data =
      data_listed r (λ e. omega (arith, e, o.one))
      ∙ ap (map range_of) o.only
      ∙ (λ j. bytes (o.address j) (o.length j) ∷ [])
      ∙ sym (data_plain q o.plain)

  same_command : command_in r.byte0 ≡ command_in q.byte0
  same_command = low_four r.byte0 q.byte0 (λ k l. o.same.byte0 k (omega arith) (λ z. omega arith))

  same_reads : reads r ≡ reads q
  same_reads = ap₂ (λ (a b : ℕ). eqb a 0 && eqb b read) o.same.code same_command

  same_writes : writes r ≡ writes q
  same_writes = ap₂ (λ (a b : ℕ). eqb a 0 && eqb b write) o.same.code same_command

  same_steps : steps_of r ≡ steps_of q
  unfolding steps_of
  same_steps = λ j. cond (same_reads j || same_writes j) (o.same.count j) 1

  same_touched : touched r ≡ touched q
  unfolding touched
  same_touched =
      λ j.
      cond (same_reads j)
      (record { read = sectors_of (o.same.unit j) (o.same.sector j) (o.same.count j) ∷ []; written = same_data j ++ bytes (o.same.iopb j) 4 ∷ [] })
      (cond (same_writes j)
      (record { read = same_data j; written = sectors_of (o.same.unit j) (o.same.sector j) (o.same.count j) ∷ bytes (o.same.iopb j) 4 ∷ [] })
      (record { read = []; written = bytes (o.same.iopb j) 4 ∷ [] }))

  same_conflict : (e : Record) → conflict e r ≡ conflict e q
  unfolding conflict
  same_conflict e = ap (λ (t : Touched). disturbs (touched e) t || disturbs t (touched e)) same_touched

  -- the sector of its step moves alike
  same_sector : sector_move r r.taken ≡ sector_move q q.taken
  unfolding sector_move
  same_sector =
      λ j.
      let u = o.same.unit j in
      let n = o.same.sector j in
      let k = o.same.taken j in
      let ps = pieces_of (same_data j) 0 (sector_bytes * k) (sector_bytes * k + sector_bytes) in
      cond (same_reads j) (map (λ (p : Piece). copy (area (disk u) (sector_bytes * (n + k) + (p.at - sector_bytes * k)) p.many) memory p.from) ps)
      (cond (same_writes j) (map (λ (p : Piece). copy (area memory p.from p.many) (disk u) (sector_bytes * (n + k) + (p.at - sector_bytes * k))) ps) [])

  same_last : eqb (r.taken + 1) (steps_of r) ≡ eqb (q.taken + 1) (steps_of q)
  same_last = ap₂ (λ (k n : ℕ). eqb (k + 1) n) o.same.taken same_steps

  -- and the close but for byte 0
  module _ (d : Drives) where
    abbrev byte2 : ℕ
    byte2 = drive_status (d.on r.unit)

    abbrev closes : ℕ → List Move
    closes b = post memory r.iopb (b ∷ r.code ∷ byte2 ∷ r.fitted ∷ []) ∷ []

    close_alike : (u : Store) (b e : ℕ) → ButSgm b e → AlikeBut r.iopb (moves (closes b) u) (moves (closes e) u)
    unfolding moves move put
    close_alike u b e h =
        record {
          sizes = λ p. length_moves (closes b) u p ∙ sym (length_moves (closes e) u p);
          bytes = λ p y n. go p y n (means_same p memory);
          status = first_but_sgm (u memory) r.iopb (r.code ∷ byte2 ∷ r.fitted ∷ []) b e h;
        }
      where
        go : (p : Space) (y : ℕ) → ¬ ((p ≡ memory) × (y ≡ r.iopb)) → {z : Bool} → Means (p ≡ memory) z
            → get_or (cond z (sets (u p) r.iopb (b ∷ r.code ∷ byte2 ∷ r.fitted ∷ [])) (u p)) y 0
            ≡ get_or (cond z (sets (u p) r.iopb (e ∷ r.code ∷ byte2 ∷ r.fitted ∷ [])) (u p)) y 0
        go p y n (holds z) = others_same (u p) r.iopb (r.code ∷ byte2 ∷ r.fitted ∷ []) b e y 0 (λ w. n (z, w))
        go p y n (fails o) = refl

    same_close : close_move d q ≡ closes (closing_byte0 q)
    unfolding close_move closing
    same_close = λ j. post memory (sym o.same.iopb j) (closing_byte0 q ∷ sym o.same.code j ∷ drive_status (d.on (sym o.same.unit j)) ∷ sym o.same.fitted j ∷ []) ∷ []

    closing_but_sgm : ButSgm (closing_byte0 r) (closing_byte0 q)
    unfolding errs_of
    closing_but_sgm =
        let same-errs : errs_of r ≡ errs_of q = ap (λ (k : ℕ). cond (eqb k 0) 0 1) o.same.code in
        rw (closing_byte_0 r, closing_byte_0 q, same-errs) (posted_but_sgm r.byte0 q.byte0 (errs_of q) (errs_small q) o.same.byte0)

    -- a step that is not the last is the very same; any step is alike
    last : Bool
    last = eqb (q.taken + 1) (steps_of q)

    module _ (s : Store) where
      between : Store
      between = moves (sector_move q q.taken) s

      step_r : step d r s ≡ moves (cond last (close_move d r) []) between
      unfolding step step_moves last between
      step_r =
          moves_append (sector_move r r.taken) _ s
          ∙ ap₂ (λ (z : Bool) (vs : List Move). moves (cond z (close_move d r) []) (moves vs s)) same_last same_sector

      step_q : step d q s ≡ moves (cond last (close_move d q) []) between
      unfolding step step_moves last between
      step_q = moves_append (sector_move q q.taken) _ s

      open_step : last ≡ false → step d r s ≡ step d q s
      unfolding moves
      open_step e = rw (step_r, step_q, e)

      step_alike : AlikeBut r.iopb (step d r s) (step d q s)
      unfolding close_move closing moves
      step_alike = rw (step_r, step_q, same_close) (go last)
        where
          go : (z : Bool) → AlikeBut r.iopb (moves (cond z (closes (closing_byte0 r)) []) between) (moves (cond z (closes (closing_byte0 q)) []) between)
          go true = close_alike between (closing_byte0 r) (closing_byte0 q) closing_but_sgm
          go false = alike_refl r.iopb between

      -- where steps are left after it, it is not the last
      open_left : 1 < remaining r → step d r s ≡ step d q s
      unfolding remaining last
      open_left h = open_step (sym same_last ∙ ne_eqb (r.taken + 1) (steps_of r) (λ e. omega arith))

pub stays_one_range : StaysOneRange
unfolding stepped with_taken
stays_one_range r q x o =
    record {
      same =
          record {
            iopb = o.same.iopb;
            sector = o.same.sector;
            taken = ap (λ (k : ℕ). k + 1) o.same.taken;
            count = o.same.count;
            unit = o.same.unit;
            byte0 = o.same.byte0;
            code = o.same.code;
            fitted = o.same.fitted;
          };
      plain = o.plain;
      one = o.one;
      only = o.only;
      address = o.address;
      length = o.length;
    }

-- ---- steps one after another

module _ (d : Drives) (x : Link) where
  open_steps : (n : ℕ) (r q : Record) → OneRange r q x → (s : Store) → n < remaining r → steps_done d n r s ≡ steps_done d n q s
  unfolding steps_done
  open_steps zero r q o s h = refl
  open_steps (suc k) r q o s h =
      ap (steps_done d k (stepped r)) (open_left r q x o d s (omega arith))
      ∙ open_steps k (stepped r) (stepped q) (stays_one_range r q x o) (step d q s) (omega (arith, remaining_stepped r (omega arith)))

  steps_alike : (n : ℕ) (r q : Record) → OneRange r q x → (s : Store) → n ≤ remaining r → AlikeBut r.iopb (steps_done d n r s) (steps_done d n q s)
  unfolding steps_done stepped with_taken
  steps_alike zero r q o s h = alike_refl r.iopb s
  steps_alike (suc zero) r q o s h = step_alike r q x o d s
  steps_alike (suc (suc k)) r q o s h =
      rw (open_left r q x o d s (omega arith))
      (steps_alike (suc k) (stepped r) (stepped q) (stays_one_range r q x o) (step d q s) (omega (arith, remaining_stepped r (omega arith))))

pub one_range_as_none : OneRangeAsNone
one_range_as_none d r q x o =
    record {
      steps = same_steps r q x o;
      touches = same_touched r q x o;
      conflicts = same_conflict r q x o;
      before_the_close = λ n s. open_steps d x n r q o s;
      moves = λ n s. steps_alike d x n r q o s;
    }

-- ---- as the walk fills them

-- a command without SGM has no list
none_read : (m : List ℕ) (d : Drive) (e : Copied) → gathers e ≡ false → links_read m e d ≡ []
unfolding links_read links_in
none_read m d e g = ap (λ (xs : List Link). cond (eqb (early_code e d) 0 && not (list_outside e (length m))) xs []) (cond-false _ _ _ g) ∙ either (eqb (early_code e d) 0 && not (list_outside e (length m)))
  where
    either : (b : Bool) → ◌≡◌ {A = List Link} (cond b [] []) []
    either true = refl
    either false = refl

-- and one with SGM and byte 6 for one element that element
one_link : (m : List ℕ) (c : Copied) → gathers c ≡ true → link_count c ≡ 1 → links_in m c ≡ link_at m c.address ∷ []
unfolding links_in links_at
one_link m c g n = cond-true _ _ _ g ∙ ap (links_at m c.address) n ∙ ap (λ (a : ℕ). link_at m a ∷ []) (add-zero c.address)

-- the bytes of count, cylinder, head and sector are the same, so these are
module _ (m m' : List ℕ) (d : Drives) (a : ℕ) (h : SameButSgm m m' d a) where
  same_byte : (k : ℕ) → 1 ≤ k → k < 0x10 → k ≢ 6 → byte_of m a k ≡ byte_of m' a k
  same_byte k l u n = h.others k (omega arith) (λ z. omega arith) n (λ w. omega (arith, w.0))

  same_two : (k : ℕ) → 7 ≤ k → k + 1 < 0x10 → two_bytes m a k ≡ two_bytes m' a k
  same_two k l u = ap₂ (λ (x y : ℕ). x * 256 + y) (same_byte k (omega arith) (omega arith) (λ z. omega arith)) (same_byte (k + 1) (omega arith) u (λ z. omega arith))

  same_unit : (copied_at m a).unit ≡ (copied_at m' a).unit
  unfolding copied_at
  same_unit = ap (λ (b : ℕ). b % 8) (same_byte 5 (omega arith) (omega arith) (λ z. omega arith))

  same_first : first_sector (d.on (copied_at m a).unit) (copied_at m a) ≡ first_sector (d.on (copied_at m' a).unit) (copied_at m' a)
  unfolding copied_at
  same_first = λ j. sector_number (d.on (same_unit j)) (same_two 0xA (omega arith) (omega arith) j) (same_byte 0xC (omega arith) (omega arith) (λ z. omega arith) j) (same_byte 0xD (omega arith) (omega arith) (λ z. omega arith) j)

-- with code 00 nothing is told of what would have fitted
nothing_told : (m : List ℕ) (d : Drive) (c : Copied) → code_of c d (length m) (links_in m c) ≡ 0 → fitted_of c d (length m) (links_in m c) ≡ 0
nothing_told m d c e = told_with_two_codes c d m (λ x. omega (arith, e, x)) (λ x. omega (arith, e, x))

pub walked_so : WalkedSo
unfolding record_of copied_at
walked_so m m' d a h =
    let c = copied_at m a in
    let e = copied_at m' a in
    let on = d.on c.unit in
    let on' = d.on e.unit in
    let g : gathers c ≡ true = eq-eqb (sgm m a) 1 h.set in
    let none : gathers e ≡ false = ne_eqb (sgm m' a) 1 (λ z. omega (arith, z, h.clear)) in
    let link = one_link m c g h.one in
    let is_one = read_then c on m g h.listed ∙ link in
    let same_count = same_two m m' d a h 8 (omega arith) (omega arith) in
    let sum = ap (λ (xs : List Link). bytes_in (map range_of xs)) (sym link) ∙ adds_up c on m g h.listed in
    record {
      same = record { iopb = refl; sector = same_first m m' d a h; taken = refl; count = same_count; unit = same_unit m m' d a h; byte0 = h.byte0; code = h.listed ∙ sym h.plain; fitted = nothing_told m on c h.listed ∙ sym (nothing_told m' on' e h.plain) };
      plain = ap length (none_read m' on' e none);
      one = ap length is_one;
      only = links_kept (links_read m c on) ∙ is_one;
      address = h.address;
      length = sym (add-zero (link_at m (data_address m a)).length) ∙ sum ∙ ap (λ (n : ℕ). sector_bytes * n) same_count;
    }

-- no step is taken yet, so all are left
none_taken : (m : List ℕ) (d : Drives) (a : ℕ) → steps_of (walked_at d m a) ≤ remaining (walked_at d m a)
unfolding remaining record_of
none_taken m d a = omega arith

pub one_range_walked : OneRangeWalked
unfolding record_of
one_range_walked m m' d a h =
    let x = link_at m (data_address m a) in
    let o = walked_so m m' d a h in
    let alike = one_range_as_none d (walked_at d m a) (walked_at d m' a) x o in
    record { alike = alike; closed = λ s. rw (← alike.steps) (alike.moves (steps_of (walked_at d m a)) s (none_taken m d a)) }
