-- Two sets of drives in which the same units are there, each with the same drive: every number is the same, and so are looks and walks. Of an
-- absent unit no rule asks for more than that it is absent, but a record for the number of its first sector, and byte 2 of a close (ByteTwo).
use mathlib.Core.Path.{◌≡◌, refl, sym, ap, ap₂, fun_ext, ◌∙◌}
use Prim.Native.Nat.{ℕ, zero, suc, ◌*◌}
use mathlib.Core.Bool.{Bool, true, false, not, ◌&&◌, ◌||◌, cond}
use mathlib.Core.List.{List, [], ◌∷◌, ◌++◌, map, map-append}
use lib.ListN.{length, take, drop, length-map}
use lib.Dec.{ltb, eqb}
use borrow.Author.Tests.{eqb-true}
use Rattle.meaning.specs.declared.Drive.{Drive}
use Rattle.meaning.specs.declared.Copied.{Copied}
use Rattle.meaning.specs.declared.Record.{Record}
use Rattle.meaning.specs.First.{first_of, told_of}
use Rattle.meaning.specs.Each.{some_of, up_to}
use Rattle.meaning.specs.Drives.{Drives, most_units}
use Rattle.meaning.specs.Store.{memory, disk, Store, get}
use Rattle.meaning.specs.State.{State, most_commands}
use Rattle.meaning.specs.Sectors.{sector_bytes, largest_sector, on_disk, image_right}
use Rattle.meaning.specs.Ends.{drive_end}
use Rattle.meaning.specs.Fields.{all_in}
use Rattle.meaning.specs.Sizes.{memory_limit, unit_wrong, images_wrong, store_wrong, sizes_wrong}
use Rattle.meaning.specs.Look.{look_number, look_part, looked_part}
use Rattle.meaning.specs.Links.{most_links, bytes_in, padded}
use Rattle.meaning.specs.Code.{copied_at, odd, outside, first_sector, links_in, list_outside, command_rows, code_of, fitted_of, early_code, links_read}
use Rattle.meaning.specs.Walk.{record_of, shares, goes_on, Chain, refused, accepted, follow, chain_at, answered, filled, walk_reply, walk_leaves}
use Rattle.meaning.specs.Command.{writes, transfers, steps_of}
use Rattle.meaning.specs.Touch.{data_bytes}
use Rattle.meaning.specs.Pick.{bad_transfer, bad_record, spoiled, pick_number, step_at, picked}
use Rattle.meaning.specs.Run.{run_number}
use Rattle.meaning.specs.Conditions.{Present}
use Rattle.meaning.proofs.Tests.{some_map}
use Rattle.promises.specs.AsBefore.{shown}

-- ---- chains, as they are shown

abbrev shown_chain : Chain → Chain
shown_chain (refused k) = refused k
shown_chain (accepted rs) = accepted (map shown rs)

-- what is asked of the earlier records is their place in memory
same_shares : (a : ℕ) (rs qs : List Record) → map shown rs ≡ map shown qs → some_of (λ r. shares r.iopb a) rs ≡ some_of (λ r. shares r.iopb a) qs
same_shares a rs qs h = sym (some_map shown test rs) ∙ ap (some_of test) h ∙ some_map shown test qs
  where
    test : Record → Bool
    test r = shares r.iopb a

at_iopb_lem : (x z : Bool) (y y' : Bool) (c c' : Chain) (rs qs : List Record) → y ≡ y' → map shown rs ≡ map shown qs → shown_chain c ≡ shown_chain c'
    → shown_chain (cond x (refused 3) (cond y (refused 4) (cond z c (accepted rs))))
    ≡ shown_chain (cond x (refused 3) (cond y' (refused 4) (cond z c' (accepted qs))))
at_iopb_lem x z y y' c c' rs qs e h k = rw e (go x y' z)
  where
    go : (x y z : Bool)
        → shown_chain (cond x (refused 3) (cond y (refused 4) (cond z c (accepted rs))))
        ≡ shown_chain (cond x (refused 3) (cond y (refused 4) (cond z c' (accepted qs))))
    go true y z = refl
    go false true z = refl
    go false false true = k
    go false false false = ap accepted h

answered_shown : (c : Chain) → answered (shown_chain c) ≡ answered c
answered_shown (refused k) = refl
answered_shown (accepted rs) = λ j. record { number = 0; commands = length-map rs shown j }

abbrev shown_table : Chain → List Record → List Record
shown_table (refused k) t = map shown t
shown_table (accepted rs) t = rs ++ map shown (drop (length rs) t)

filled_shown : (c : Chain) (t : List Record) → map shown (filled c t) ≡ shown_table (shown_chain c) t
filled_shown (refused k) t = refl
filled_shown (accepted rs) t = map-append shown rs _ ∙ ap (λ (n : ℕ). map shown rs ++ map shown (drop n t)) (sym (length-map rs shown))

-- ---- drives that agree

pub record Agree (d e : Drives) : Type 0 where
  pub present : (u : ℕ) → (d.on u).present ≡ (e.on u).present
  pub drives : (u : ℕ) → Present d u → d.on u ≡ e.on u

-- ---- numbers

module _ (d e : Drives) (agree : Agree d e) where
  -- what is the same of every absent drive is the same of both drives of a unit
  own : {X : Type 0} (f : Drive → X) (x : X) → ((v : Drive) → v.present ≡ false → f v ≡ x) → (u : ℕ) → f (d.on u) ≡ f (e.on u)
  own f x gone u = go (d.on u).present refl
    where
      go : (b : Bool) → (d.on u).present ≡ b → f (d.on u) ≡ f (e.on u)
      go true h = ap f (agree.drives u h)
      go false h = gone (d.on u) h ∙ sym (gone (e.on u) (sym (agree.present u) ∙ h))

  images_same : (s : Store) → images_wrong d s ≡ images_wrong e s
  unfolding images_wrong unit_wrong
  images_same s =
      ap (λ (f : ℕ → Bool). some_of f (up_to most_units))
      (fun_ext (λ u. own (λ v. v.present && not (image_right v (length (s (disk u))))) false (λ v h. rw h) u))

  pub sizes_same : (s : State) → sizes_wrong d s ≡ sizes_wrong e s
  unfolding sizes_wrong store_wrong
  sizes_same s = ap (λ (b : Bool). (ltb memory_limit (length (s.store memory)) || b) || ltb (length s.table) most_commands) (images_same s.store)

  bad_same : (s : Store) (r : Record) → bad_record d s r ≡ bad_record e s r
  unfolding bad_record bad_transfer
  bad_same s r =
      ap (λ (b : Bool). not (all_in (s memory) r.iopb) || ltb (steps_of r) r.taken || transfers r && b)
      (own
      (λ v.
      not v.present
      || eqb r.count 0
      || ltb most_links r.ranges
      || some_of (outside (length (s memory))) (data_bytes r)
      || not (eqb (bytes_in (data_bytes r)) (sector_bytes * r.count))
      || (drive_end v r.sector r.count).past
      || writes r && v.protected)
      true (λ v h. rw h) r.unit)

  pub spoiled_same : (n : ℕ) (s : State) → spoiled d n s ≡ spoiled e n s
  unfolding spoiled
  spoiled_same n s = ap (λ (f : Record → Bool). ltb most_commands n || some_of f (take n s.table)) (fun_ext (bad_same s.store))

  pub pick_same : (n p : ℕ) (s : State) → pick_number d n p s ≡ pick_number e n p s
  unfolding pick_number
  pick_same n p s = rw (sizes_same s, spoiled_same n s)

  pub run_same : (n : ℕ) (s : State) → run_number d n s ≡ run_number e n s
  unfolding run_number
  run_same n s = rw (sizes_same s, spoiled_same n s)

  pub look_same : (u n : ℕ) (s : Store) → look_number d u n s ≡ look_number e u n s
  unfolding look_number
  look_same u n s =
      ap₂ (λ (b : Bool) (k : ℕ). cond b 1 k) (images_same s)
      (own (λ v. cond (not v.present) 11 (cond (ltb (largest_sector v) n) 10 0)) 11 (λ v h. rw h) u)

  pub part_same : (u n : ℕ) (s : Store) → look_part d u n s ≡ look_part e u n s
  unfolding look_part
  part_same u n s = ap (λ (k : ℕ). cond (eqb k 0) (get (on_disk u n) s) []) (look_same u n s)

  pub looked_same : (u n : ℕ) (s : Store) → looked_part d u n s ≡ looked_part e u n s
  unfolding looked_part
  looked_same u n s = ap (λ (k : ℕ). cond (eqb k 0) (record { at = sector_bytes * n; length = sector_bytes }) (record { at = 0; length = 0 })) (look_same u n s)

  -- ---- records

  pub pick_table_same : (n p : ℕ) (s : State) → (picked d n p s).table ≡ (picked e n p s).table
  unfolding picked step_at
  pick_table_same n p s = ap (λ (k : ℕ). (cond (eqb k 0) (step_at d p s) s).table) (pick_same n p s) ∙ either (eqb (pick_number e n p s) 0)
    where
      either : (b : Bool) → (cond b (step_at d p s) s).table ≡ (cond b (step_at e p s) s).table
      either true = refl
      either false = refl

  module _ (c : Copied) (m : List ℕ) where
    code_same : code_of c (d.on c.unit) (length m) (links_in m c) ≡ code_of c (e.on c.unit) (length m) (links_in m c)
    unfolding code_of
    code_same = own (λ v. code_of c v (length m) (links_in m c)) (first_of (command_rows c) 0x42) (λ v h. rw h) c.unit

    fitted_same : fitted_of c (d.on c.unit) (length m) (links_in m c) ≡ fitted_of c (e.on c.unit) (length m) (links_in m c)
    unfolding fitted_of
    fitted_same = own (λ v. fitted_of c v (length m) (links_in m c)) (told_of (command_rows c) 0) (λ v h. rw h) c.unit

    read_same : links_read m c (d.on c.unit) ≡ links_read m c (e.on c.unit)
    unfolding links_read early_code
    read_same =
        own (λ v. links_read m c v) (cond (eqb (first_of (command_rows c) 0x42) 0 && not (list_outside c (length m))) (links_in m c) []) (λ v h. rw h) c.unit

  module _ (zero_there : Present d 0) where
    sector_same : (c : Copied) (b : Bool) → eqb c.unit 0 ≡ b → cond b (first_sector (d.on c.unit) c) 0 ≡ cond b (first_sector (e.on c.unit) c) 0
    sector_same c true z = ap (λ (v : Drive). first_sector v c) (agree.drives c.unit (rw (eqb-true c.unit 0 z) zero_there))
    sector_same c false z = refl

    record_same : (c : Copied) (a : ℕ) (m : List ℕ) → shown (record_of c a (d.on c.unit) m) ≡ shown (record_of c a (e.on c.unit) m)
    unfolding record_of
    record_same c a m =
        λ j.
        record {
          iopb = a;
          address = c.address;
          sector = sector_same c (eqb c.unit 0) refl j;
          taken = 0;
          ranges = length (read_same c m j);
          count = c.count;
          unit = c.unit;
          byte0 = c.byte0;
          code = code_same c m j;
          fitted = fitted_same c m j;
          list = padded (read_same c m j);
        }

    -- along the chain
    one_more : (rs qs : List Record) (r q : Record) → map shown rs ≡ map shown qs → shown r ≡ shown q → map shown (rs ++ r ∷ []) ≡ map shown (qs ++ q ∷ [])
    one_more rs qs r q h k = map-append shown rs (r ∷ []) ∙ (λ j. h j ++ k j ∷ []) ∙ sym (map-append shown qs (q ∷ []))

    follow_same : (left : ℕ) (m : List ℕ) (rs qs : List Record) (a : ℕ) → map shown rs ≡ map shown qs
        → shown_chain (follow left m d rs a) ≡ shown_chain (follow left m e qs a)
    unfolding follow
    follow_same zero m rs qs a h = refl
    follow_same (suc left) m rs qs a h =
        let c = copied_at m a in
        let more = one_more rs qs (record_of c a (d.on c.unit) m) (record_of c a (e.on c.unit) m) h (record_same c a m) in
        at_iopb_lem (not (all_in m a)) (goes_on c) _ _ _ _ _ _ (same_shares a rs qs h) more (follow_same left m _ _ c.next more)

    chain_same : (start : ℕ) (s : State) → shown_chain (chain_at d start s) ≡ shown_chain (chain_at e start s)
    unfolding chain_at
    chain_same start s =
        ap (λ (b : Bool). shown_chain (cond b (refused 1) (cond (odd start) (refused 2) (follow most_commands (s.store memory) d [] start)))) (sizes_same s)
        ∙ go (sizes_wrong e s) (odd start) _ _ (follow_same most_commands (s.store memory) [] [] start refl)
      where
        go : (x y : Bool) (c c' : Chain) → shown_chain c ≡ shown_chain c'
            → shown_chain (cond x (refused 1) (cond y (refused 2) c)) ≡ shown_chain (cond x (refused 1) (cond y (refused 2) c'))
        go true y c c' h = refl
        go false true c c' h = refl
        go false false c c' h = h

    pub walk_same : (start : ℕ) (s : State) → walk_reply d start s ≡ walk_reply e start s
    unfolding walk_reply
    walk_same start s = sym (answered_shown (chain_at d start s)) ∙ ap answered (chain_same start s) ∙ answered_shown (chain_at e start s)

    pub leaves_same : (start : ℕ) (s : State) → map shown (walk_leaves d start s) ≡ map shown (walk_leaves e start s)
    unfolding walk_leaves
    leaves_same start s =
        filled_shown (chain_at d start s) s.table
        ∙ ap (λ (c : Chain). shown_table c s.table) (chain_same start s)
        ∙ sym (filled_shown (chain_at e start s) s.table)
