-- The rules' conflict is what the code tests: five pairs of ranges, or of lists of them, each where one of the two commands writes there.
-- What a command touches depends on its kind, and a range of memory meets no sectors; that the two tests agree is then seen by trying all
-- values. And commands whose footprints do not meet have none of these pairs in common, since each range, begun no further than `far`, lies within its hull.
use mathlib.Core.Path.{◌≡◌, refl, sym, ap, ap₂, ◌∙◌}
use Prim.Native.Nat.{ℕ, ◌+◌, ◌≤◌, max, min}
use native.Mathlib.Nat.{max_comm, min_comm, le_refl, le-max_right, min-le_right}
use native.Mathlib.Omega.{arith}
use mathlib.Core.Bool.{Bool, true, false, not, ◌&&◌, ◌||◌, cond, true≢false, and-false, or-false}
use mathlib.Core.List.{List, [], ◌∷◌, ◌++◌}
use lib.Dec.{ltb}
use borrow.Author.Tests.{ltb-false, le-ltb}
use Rattle.std.proofs.lemmas.Bool.{and_parts, or_parts, or_from}
use Rattle.std.proofs.lemmas.List.Folds.{list_any-append}
use Rattle.meaning.specs.declared.Record.{Record}
use Rattle.meaning.specs.Each.{some_of}
use Rattle.meaning.specs.Store.{disk, same}
use Rattle.meaning.specs.Ranges.{Range, bytes, sectors_of, crosses, overlap, meet}
use Rattle.meaning.specs.Command.{reads, writes, transfers}
use Rattle.meaning.specs.Touch.{Touched, data_bytes, status_bytes, sectors, touched_by, touched, disturbs, conflict}
use Rattle.meaning.proofs.All.{All, all_both}
use Rattle.meaning.proofs.Rows.{or_second}
use Rattle.meaning.proofs.Tests.{some_same, some_or, some_no}
use Rattle.meaning.proofs.Means.{is_false, means_and}
use Rattle.meaning.proofs.Conditions.{means_reads, means_writes, not_both}
use Rattle.meaning.proofs.Ranges.{overlap_swap, meet_swap}
use Rattle.meaning.proofs.Pieces.{OfMemory, data_memory}
use Rattle.command.specs.declared.touch.Hull.{Hull}
use Rattle.command.specs.Footprints.{nearer, hull_with, hull_from, hull_of, moved_data, footprint_of, hulls_meet, status_meets, data_meets, sectors_meet, footprints_meet, data_conflicts, sectors_conflict}

-- ---- ranges against what a command touches

-- all that a command touches meets a range
abbrev meets : Range → Touched → Bool
meets x y = some_of (overlap x) (y.read ++ y.written)

-- a range of memory and the sectors of a unit have nothing in common
no_sectors : (a n u f m : ℕ) → (x : Range) → OfMemory x → overlap (sectors_of u f m) x ≡ false
no_sectors a n u f m x e = ap (overlap (sectors_of u f m)) e

module _ (a n : ℕ) (s : Record) where
  abbrev data_met : Bool
  data_met = some_of (overlap (bytes a n)) (data_bytes s)

  abbrev status_met : Bool
  status_met = crosses a n s.iopb 4

  bytes_by : (rd wr : Bool) → meets (bytes a n) (touched_by rd wr s) ≡ cond (rd || wr) (data_met || status_met) status_met
  bytes_by true wr = list_any-append (overlap (bytes a n)) (data_bytes s) (status_bytes s ∷ []) ∙ ap (λ (b : Bool). data_met || b) (or-false status_met)
  bytes_by false true = list_any-append (overlap (bytes a n)) (data_bytes s) (sectors s ∷ status_bytes s ∷ []) ∙ ap (λ (b : Bool). data_met || b) (or-false status_met)
  bytes_by false false = or-false status_met

  bytes_of : meets (bytes a n) (touched s) ≡ cond (transfers s) (data_met || status_met) status_met
  unfolding touched
  bytes_of = bytes_by (reads s) (writes s)

-- n sectors of a unit from a on
module _ (u a n : ℕ) (s : Record) where
  abbrev sectors_met : Bool
  sectors_met = overlap (sectors_of u a n) (sectors s)

  no_data : some_of (overlap (sectors_of u a n)) (data_bytes s) ≡ false
  no_data = some_no OfMemory (overlap (sectors_of u a n)) (no_sectors a n u a n) (data_bytes s) (data_memory s)

  sectors_by : (rd wr : Bool) → meets (sectors_of u a n) (touched_by rd wr s) ≡ cond (rd || wr) sectors_met false
  sectors_by true wr =
      ap (λ (b : Bool). sectors_met || b) (list_any-append (overlap (sectors_of u a n)) (data_bytes s) (status_bytes s ∷ []) ∙ or_from _ _ no_data refl)
      ∙ or-false sectors_met
  sectors_by false true =
      list_any-append (overlap (sectors_of u a n)) (data_bytes s) (sectors s ∷ status_bytes s ∷ []) ∙ or_second _ _ no_data ∙ or-false sectors_met
  sectors_by false false = refl

  sectors_of_lem : meets (sectors_of u a n) (touched s) ≡ cond (transfers s) sectors_met false
  unfolding touched
  sectors_of_lem = sectors_by (reads s) (writes s)

-- ---- what r writes against what s touches

crosses_swap : (a n b m : ℕ) → crosses a n b m ≡ crosses b m a n
unfolding crosses
crosses_swap a n b m = ap₂ ltb (max_comm a b) (min_comm (a + n) (b + m))

-- the data of both, and the data of the one with the status bytes of the other
module _ (r s : Record) where
  abbrev data_data : Bool
  data_data = meet (data_bytes r) (data_bytes s)

  abbrev status_data : Bool
  status_data = some_of (overlap (bytes r.iopb 4)) (data_bytes s)

  abbrev sectors_sectors : Bool
  sectors_sectors = overlap (sectors r) (sectors s)

status_swap : (r s : Record) → some_of (λ x. overlap x (bytes s.iopb 4)) (data_bytes r) ≡ status_data s r
status_swap r s =
    some_same OfMemory (λ x. overlap x (bytes s.iopb 4)) (overlap (bytes s.iopb 4))
    (λ x e. ap (λ (z : Range). overlap z (bytes s.iopb 4)) e ∙ crosses_swap x.from x.many s.iopb 4 ∙ sym (ap (overlap (bytes s.iopb 4)) e)) (data_bytes r) (data_memory r)

some_cond : {A : Type 0} (t : Bool) (f g : A → Bool) (xs : List A) → some_of (λ x. cond t (f x) (g x)) xs ≡ cond t (some_of f xs) (some_of g xs)
some_cond true f g xs = refl
some_cond false f g xs = refl

data_touches : (r s : Record) → some_of (λ x. meets x (touched s)) (data_bytes r) ≡ cond (transfers s) (data_data r s || status_data s r) (status_data s r)
data_touches r s =
    some_same OfMemory (λ x. meets x (touched s)) (λ x. cond (transfers s) (some_of (overlap x) (data_bytes s) || overlap x (bytes s.iopb 4)) (overlap x (bytes s.iopb 4)))
    (λ x e. ap (λ (z : Range). meets z (touched s)) e ∙ bytes_of x.from x.many s ∙ sym (ap (λ (z : Range). cond (transfers s) (some_of (overlap z) (data_bytes s) || overlap z (bytes s.iopb 4)) (overlap z (bytes s.iopb 4))) e))
    (data_bytes r) (data_memory r)
    ∙ some_cond (transfers s) (λ x. some_of (overlap x) (data_bytes s) || overlap x (bytes s.iopb 4)) (λ x. overlap x (bytes s.iopb 4)) (data_bytes r)
    ∙ ap₂ (λ (x y : Bool). cond (transfers s) x y)
    (some_or (λ x. some_of (overlap x) (data_bytes s)) (λ x. overlap x (bytes s.iopb 4)) (data_bytes r) ∙ ap (λ (b : Bool). data_data r s || b) (status_swap r s)) (status_swap r s)

-- by whether r reads and whether it writes: what its data, its status bytes and its sectors meet
abbrev by_kind : Bool → Bool → Bool → Bool → Bool → Bool
by_kind rd wr d st se = cond rd (d || st) (cond wr (se || st) st)

disturbs_by : (r : Record) (y : Touched) (rd wr : Bool) → disturbs (touched_by rd wr r) y
    ≡ by_kind rd wr (some_of (λ x. meets x y) (data_bytes r)) (meets (bytes r.iopb 4) y) (meets (sectors r) y)
unfolding disturbs
disturbs_by r y true wr =
    list_any-append (λ x. meets x y) (data_bytes r) (status_bytes r ∷ []) ∙ ap (λ (b : Bool). some_of (λ x. meets x y) (data_bytes r) || b) (or-false (meets (bytes r.iopb 4) y))
disturbs_by r y false true = ap (λ (b : Bool). meets (sectors r) y || b) (or-false (meets (bytes r.iopb 4) y))
disturbs_by r y false false = or-false (meets (bytes r.iopb 4) y)

-- the five pairs, and the kinds of both
abbrev one_way : Bool → Bool → Bool → Bool → Bool → Bool → Bool → Bool → Bool
one_way rd wr other ss sd ds dd kk = by_kind rd wr (cond other (dd || ds) ds) (cond other (sd || ss) ss) (cond other kk false)

disturbs_is : (r s : Record) → disturbs (touched r) (touched s)
    ≡ one_way (reads r) (writes r) (transfers s) (crosses r.iopb 4 s.iopb 4) (status_data r s) (status_data s r) (data_data r s) (sectors_sectors r s)
unfolding touched
disturbs_is r s =
    disturbs_by r (touched s) (reads r) (writes r)
    ∙ (λ j. by_kind (reads r) (writes r) (data_touches r s j) (bytes_of r.iopb 4 s j) (sectors_of_lem r.unit r.sector r.count s j))

-- ---- a command that moves nothing

crosses_none : (a n b : ℕ) → crosses a n b 0 ≡ false
unfolding crosses
crosses_none a n b = le-ltb (max a b) (min (a + n) (b + 0)) (omega (arith, le-max_right a b, min-le_right (a + n) (b + 0)))

sectors_none : (u a n v b : ℕ) → overlap (sectors_of u a n) (sectors_of v b 0) ≡ false
sectors_none u a n v b = ap (λ (x : Bool). same (disk u) (disk v) && x) (crosses_none a n b) ∙ and-false (same (disk u) (disk v))

if_moved : {A : Type 0} (f : A → Bool) (t : Bool) (c z : A) → f z ≡ false → f (cond t c z) ≡ (t && f c)
if_moved f true c z e = refl
if_moved f false c z e = e

-- r moves nothing, or s, or what both move is tested
both_moved : {A : Type 0} (f : A → A → Bool) (z : A) → ((x : A) → f x z ≡ false) → ((x : A) → f z x ≡ false) → (tr ts : Bool) (a b : A)
    → f (cond tr a z) (cond ts b z) ≡ (tr && (ts && f a b))
both_moved f z e e' tr ts a b =
    if_moved (λ x. f x (cond ts b z)) tr a z (e' (cond ts b z)) ∙ ap (λ (x : Bool). tr && x) (if_moved (f a) ts b z (e a))

meet_none : (xs : List Range) → meet xs [] ≡ false
meet_none [] = refl
meet_none (x ∷ xs) = meet_none xs

-- ---- both ways are what the code tests

abbrev two_ways : Bool → Bool → Bool → Bool → Bool → Bool → Bool → Bool → Bool → Bool
two_ways rr wr rs ws ss sd ds dd kk = one_way rr wr (rs || ws) ss sd ds dd kk || one_way rs ws (rr || wr) ss ds sd dd kk

abbrev tested : Bool → Bool → Bool → Bool → Bool → Bool → Bool → Bool → Bool → Bool
tested rr wr rs ws ss sd ds dd kk =
    ss || (((rs || ws) && sd) || (((rr || wr) && ds) || (((rr || rs) && ((rr || wr) && ((rs || ws) && dd))) || ((wr || ws) && ((rr || wr) && ((rs || ws) && kk))))))

-- two tests give the same
abbrev alike : Bool → Bool → Bool
alike true b = b
alike false b = not b

alike_same : (a b : Bool) → alike a b ≡ true → a ≡ b
alike_same true true e = refl
alike_same true false e = absurd (true≢false (sym e))
alike_same false true e = absurd (true≢false (sym e))
alike_same false false e = refl

abbrev both_values : (Bool → Bool) → Bool
both_values f = f true && f false

any_value : (f : Bool → Bool) → both_values f ≡ true → (b : Bool) → f b ≡ true
any_value f e true = (and_parts (f true) (f false) e).0
any_value f e false = (and_parts (f true) (f false) e).1

-- no command both reads and writes
abbrev agree : Bool → Bool → Bool → Bool → Bool → Bool → Bool → Bool → Bool → Bool
agree rr wr rs ws ss sd ds dd kk = (rr && wr) || ((rs && ws) || alike (two_ways rr wr rs ws ss sd ds dd kk) (tested rr wr rs ws ss sd ds dd kk))

all_agree : both_values (λ rr. both_values (λ wr. both_values (λ rs. both_values (λ ws. both_values (λ ss. both_values (λ sd. both_values (λ ds. both_values (λ dd. both_values (λ kk. agree rr wr rs ws ss sd ds dd kk))))))))) ≡ true
all_agree = refl

agree_at : (rr wr rs ws ss sd ds dd kk : Bool) → agree rr wr rs ws ss sd ds dd kk ≡ true
agree_at rr wr rs ws ss sd ds dd kk =
    let e0 = any_value (λ rr. both_values (λ wr. both_values (λ rs. both_values (λ ws. both_values (λ ss. both_values (λ sd. both_values (λ ds. both_values (λ dd. both_values (λ kk. agree rr wr rs ws ss sd ds dd kk))))))))) all_agree rr in
    let e1 = any_value (λ wr. both_values (λ rs. both_values (λ ws. both_values (λ ss. both_values (λ sd. both_values (λ ds. both_values (λ dd. both_values (λ kk. agree rr wr rs ws ss sd ds dd kk)))))))) e0 wr in
    let e2 = any_value (λ rs. both_values (λ ws. both_values (λ ss. both_values (λ sd. both_values (λ ds. both_values (λ dd. both_values (λ kk. agree rr wr rs ws ss sd ds dd kk))))))) e1 rs in
    let e3 = any_value (λ ws. both_values (λ ss. both_values (λ sd. both_values (λ ds. both_values (λ dd. both_values (λ kk. agree rr wr rs ws ss sd ds dd kk)))))) e2 ws in
    let e4 = any_value (λ ss. both_values (λ sd. both_values (λ ds. both_values (λ dd. both_values (λ kk. agree rr wr rs ws ss sd ds dd kk))))) e3 ss in
    let e5 = any_value (λ sd. both_values (λ ds. both_values (λ dd. both_values (λ kk. agree rr wr rs ws ss sd ds dd kk)))) e4 sd in
    let e6 = any_value (λ ds. both_values (λ dd. both_values (λ kk. agree rr wr rs ws ss sd ds dd kk))) e5 ds in
    let e7 = any_value (λ dd. both_values (λ kk. agree rr wr rs ws ss sd ds dd kk)) e6 dd in
    any_value (λ kk. agree rr wr rs ws ss sd ds dd kk) e7 kk

never_both : (r : Record) → (reads r && writes r) ≡ false
never_both r = is_false (means_and (means_reads r) (means_writes r)) (λ p. not_both r p.0 p.1)

-- the five tests of the code
module _ (r s : Record) where
  abbrev pub status_both : Bool
  status_both = crosses r.iopb 4 s.iopb 4

  abbrev pub status_first : Bool
  status_first = some_of (overlap (bytes r.iopb 4)) (moved_data s)

unfoldable pub five : Record → Record → Bool
five r s =
    status_both r s || (status_first r s || (status_first s r || (data_conflicts r s || sectors_conflict r s)))

five_tested : (r s : Record) → five r s
    ≡ tested (reads r) (writes r) (reads s) (writes s) (crosses r.iopb 4 s.iopb 4) (status_data r s) (status_data s r) (data_data r s) (sectors_sectors r s)
unfolding five
five_tested r s =
    let sd = if_moved (some_of (overlap (bytes r.iopb 4))) (transfers s) (data_bytes s) [] refl in
    let ds = if_moved (some_of (overlap (bytes s.iopb 4))) (transfers r) (data_bytes r) [] refl in
    let dd = both_moved meet [] meet_none (λ x. refl) (transfers r) (transfers s) (data_bytes r) (data_bytes s) in
    let kk = both_moved (λ (x y : ℕ). overlap (sectors_of r.unit r.sector x) (sectors_of s.unit s.sector y)) 0 (λ x. sectors_none r.unit r.sector x s.unit s.sector) (λ x. overlap_swap (sectors_of r.unit r.sector 0) (sectors_of s.unit s.sector x) ∙ sectors_none s.unit s.sector x r.unit r.sector) (transfers r) (transfers s) r.count s.count in
    λ j. crosses r.iopb 4 s.iopb 4 || (sd j || (ds j || (((reads r || reads s) && dd j) || ((writes r || writes s) && kk j))))

pub conflict_is : (r s : Record) → conflict r s ≡ five r s
unfolding conflict
conflict_is r s =
    let ss = crosses r.iopb 4 s.iopb 4 in
    let sd = status_data r s in
    let ds = status_data s r in
    let dd = data_data r s in
    let kk = sectors_sectors r s in
    let back = disturbs_is s r
    ∙ (λ j. one_way (reads s) (writes s) (transfers r) (crosses_swap s.iopb 4 r.iopb 4 j) ds sd (meet_swap (data_bytes s) (data_bytes r) j) (overlap_swap (sectors s) (sectors r) j))
    in
    let tried = agree_at (reads r) (writes r) (reads s) (writes s) ss sd ds dd kk in
    let same = sym (or_second (reads s && writes s) _ (never_both s)) ∙ sym (or_second (reads r && writes r) _ (never_both r)) ∙ tried in
    ap₂ (λ (x y : Bool). x || y) (disturbs_is r s) back
    ∙ alike_same (two_ways (reads r) (writes r) (reads s) (writes s) ss sd ds dd kk) (tested (reads r) (writes r) (reads s) (writes s) ss sd ds dd kk) same
    ∙ sym (five_tested r s)

-- ---- hulls

-- a range within a hull
abbrev Under : Hull → Range → Type 0
Under h x = (h.low ≤ nearer x.from) × (nearer x.from + x.many ≤ h.high)

-- a hull only widens
wider_low : (h : Hull) (xs : List Range) → (hull_from h xs).low ≤ h.low
wider_low h [] = le_refl h.low
wider_low h (x ∷ xs) = omega (arith, wider_low (hull_with h x) xs)

wider_high : (h : Hull) (xs : List Range) → h.high ≤ (hull_from h xs).high
wider_high h [] = le_refl h.high
wider_high h (x ∷ xs) = omega (arith, wider_high (hull_with h x) xs)

all_under : (h : Hull) (xs : List Range) → All (Under (hull_from h xs)) xs
all_under h [] = tt
all_under h (x ∷ xs) = ((omega (arith, wider_low (hull_with h x) xs), omega (arith, wider_high (hull_with h x) xs)), all_under (hull_with h x) xs)

-- what is apart from a hull is apart from each range within it
apart_from : (a n : ℕ) (h : Hull) (x : Range) → ltb (max (nearer a) h.low) (min (nearer a + n) h.high) ≡ false → Under h x → crosses a n x.from x.many ≡ false
unfolding crosses
apart_from a n h x f u = le-ltb (max a x.from) (min (a + n) (x.from + x.many)) (omega (arith, ltb-false (max (nearer a) h.low) (min (nearer a + n) h.high) f, u.0, u.1))

apart_some : (a n : ℕ) (xs : List Range) → ltb (max (nearer a) (hull_of xs).low) (min (nearer a + n) (hull_of xs).high) ≡ false → All OfMemory xs → some_of (overlap (bytes a n)) xs ≡ false
apart_some a n xs e m =
    some_no (λ x. OfMemory x × Under (hull_of xs) x) (overlap (bytes a n))
    (λ x h. ap (overlap (bytes a n)) h.0 ∙ apart_from a n (hull_of xs) x e h.1) xs (all_both OfMemory (Under (hull_of xs)) xs m (all_under _ xs))

-- two hulls apart: no range of the one crosses one of the other
apart_both : (xs ys : List Range) → hulls_meet (hull_of xs) (hull_of ys) ≡ false → All OfMemory xs → All OfMemory ys → meet xs ys ≡ false
apart_both xs ys e mx my =
    some_no (λ x. OfMemory x × Under (hull_of xs) x) (λ x. some_of (overlap x) ys)
    (λ x h. ap (λ (z : Range). some_of (overlap z) ys) h.0 ∙ apart_some x.from x.many ys (inside x h.1) my) xs (all_both OfMemory (Under (hull_of xs)) xs mx (all_under _ xs))
  where
    inside : (x : Range) → Under (hull_of xs) x → ltb (max (nearer x.from) (hull_of ys).low) (min (nearer x.from + x.many) (hull_of ys).high) ≡ false
    inside x u =
        le-ltb (max (nearer x.from) (hull_of ys).low) (min (nearer x.from + x.many) (hull_of ys).high)
        (omega (arith, ltb-false (max (hull_of xs).low (hull_of ys).low) (min (hull_of xs).high (hull_of ys).high) e, u.0, u.1))

moved_memory : (r : Record) → All OfMemory (moved_data r)
moved_memory r = go (transfers r)
  where
    go : (b : Bool) → All OfMemory (cond b (data_bytes r) [])
    go true = data_memory r
    go false = tt

-- ---- footprints that do not meet

module _ (r s : Record) (apart : footprints_meet (footprint_of r) (footprint_of s) ≡ false) where
  pub no_conflict : conflict r s ≡ false
  unfolding footprints_meet footprint_of five
  no_conflict =
      let f = footprint_of r in
      let g = footprint_of s in
      let last = data_meets f g || sectors_meet f g in
      let a = or_parts (status_both r s) (status_meets f g || (status_meets g f || last)) apart in
      let b = or_parts (status_meets f g) (status_meets g f || last) a.1 in
      let c = or_parts (status_meets g f) last b.1 in
      let e = or_parts (data_meets f g) (sectors_meet f g) c.1 in
      let sd = apart_some r.iopb 4 (moved_data s) b.0 (moved_memory s) in
      let ds = apart_some s.iopb 4 (moved_data r) c.0 (moved_memory r) in
      let dd : data_conflicts r s ≡ false = under (reads r || reads s) (hulls_meet f.hull g.hull) (meet (moved_data r) (moved_data s)) (λ h. apart_both (moved_data r) (moved_data s) h (moved_memory r) (moved_memory s)) e.0 in
      conflict_is r s ∙ or_from _ _ a.0 (or_from _ _ sd (or_from _ _ ds (or_from _ _ dd e.1)))
    where
      under : (a b c : Bool) → (b ≡ false → c ≡ false) → (a && b) ≡ false → (a && c) ≡ false
      under true b c f h = f h
      under false b c f h = refl
