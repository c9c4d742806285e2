-- The search for an earlier command that blocks a place: what the places passed show, what a blocker shows, how footprints tell it, and what of
-- it stays true when a step is taken somewhere. A step never makes a command block that did not, and changes nothing of what one touches.
use mathlib.Core.Path.{◌≡◌, refl, sym, ap, ap₂, ◌∙◌}
use Prim.Native.Nat.{ℕ, zero, suc, ◌+◌, ◌≤◌, ◌<◌}
use native.Mathlib.Nat.{not-suc-le-zero}
use native.Mathlib.Numerals.{add-one}
use native.Mathlib.Omega.{arith}
use mathlib.Core.Bool.{Bool, true, false, not, ◌&&◌, true≢false, and-false}
use mathlib.Core.List.{List, [], ◌∷◌}
use lib.ListN.{length, get_or, set, take, replicate, length-set}
use lib.Seq.{take-suc, take-set-le, get_or-set_same, get_or-set_other}
use lib.Dec.{leb}
use borrow.Author.Tests.{leb-true, le-leb, lt-leb}
use Rattle.std.proofs.lemmas.Bool.{or_from, or_parts, and_left}
use Rattle.std.proofs.lemmas.List.Folds.{list_any-append}
use Rattle.meaning.specs.declared.Record.{Record}
use Rattle.meaning.specs.Each.{some_of}
use Rattle.meaning.specs.Command.{steps_of, finished, no_record}
use Rattle.meaning.specs.Touch.{touched, conflict}
use Rattle.meaning.specs.State.{most_commands}
use Rattle.meaning.specs.Step.{with_taken, stepped}
use Rattle.meaning.specs.Pick.{waits}
use Rattle.meaning.proofs.Rows.{and_second}
use Rattle.meaning.proofs.Means.{Means, holds, fails, is_true, means_itself, means_eq, means_some}
use Rattle.command.specs.declared.touch.Footprint.{Footprint}
use Rattle.command.specs.Footprints.{footprint_of, footprints_meet}
use Rattle.command.proofs.Touching.{no_conflict}
use Rattle.board.specs.declared.run.Watch.{Watch}
use Rattle.board.specs.Sight.{blocking}
use Rattle.board.specs.Watching.{no_watch, Watching}

-- ---- a search from the front

module _ {A : Type 0} (z : A) (f : A → Bool) where
  -- one place more is passed
  pub none_more : (l : List A) (k : ℕ) → k < length l → some_of f (take k l) ≡ false → f (get_or l k z) ≡ false → some_of f (take (k + 1) l) ≡ false
  none_more l k h e g =
      ap (λ (j : ℕ). some_of f (take j l)) (add-one k)
      ∙ ap (some_of f) (take-suc l k z h)
      ∙ list_any-append f (take k l) (get_or l k z ∷ [])
      ∙ or_from _ _ e (or_from _ _ g refl)

  -- one of the first p passes the test
  pub some_here : (l : List A) (k p : ℕ) → k < p → k < length l → f (get_or l k z) ≡ true → some_of f (take p l) ≡ true
  some_here l k p h g e = is_true (means_some (λ x. means_itself (f x)) z p l) (k, h, g, e)

  -- none of them does, so not this one
  pub none_here : (l : List A) (k p : ℕ) → k < p → k < length l → some_of f (take p l) ≡ false → f (get_or l k z) ≡ false
  none_here l k p h g e = go (f (get_or l k z)) refl
    where
      go : (b : Bool) → f (get_or l k z) ≡ b → b ≡ false
      go true t = absurd (true≢false (sym (some_here l k p h g t) ∙ e))
      go false t = refl

  -- an element is replaced by one that passes no test that the old one failed
  none_set : (l : List A) (n q : ℕ) (y : A) → (f (get_or l q z) ≡ false → f y ≡ false) → some_of f (take n l) ≡ false → some_of f (take n (set l q y)) ≡ false
  none_set [] n q y h e = e
  none_set (x ∷ l) zero q y h e = e
  none_set (x ∷ l) (suc n) zero y h e = let g = or_parts (f x) (some_of f (take n l)) e in or_from _ _ (h g.0) g.1
  none_set (x ∷ l) (suc n) (suc q) y h e = let g = or_parts (f x) (some_of f (take n l)) e in or_from _ _ g.0 (none_set l n q y h g.1)

-- ---- who blocks whom

-- a finished command blocks nothing, and any other by its conflict
pub finished_free : (r e : Record) → finished e ≡ true → blocking r e ≡ false
finished_free r e f = and_left (not (finished e)) (conflict e r) (ap not f)

pub by_conflict : (r e : Record) (b : Bool) → finished e ≡ false → conflict e r ≡ b → blocking r e ≡ b
by_conflict r e b f c = and_second (not (finished e)) (conflict e r) (ap not f) ∙ c

-- what r touches does not change with its steps
stepped_waits : (r : Record) → blocking (stepped r) ≡ blocking r
unfolding conflict touched stepped with_taken
stepped_waits r = refl

stepped_touches : (r : Record) → footprint_of (stepped r) ≡ footprint_of r
unfolding footprint_of stepped with_taken
stepped_touches r = refl

-- nor what e touches, and once finished it is finished
stepped_blocks : (r e : Record) → blocking r e ≡ false → blocking r (stepped e) ≡ false
unfolding conflict touched stepped with_taken finished steps_of
stepped_blocks r e h = go (finished e) refl h
  where
    go : (b : Bool) → finished e ≡ b → (not b && conflict e r) ≡ false → (not (finished (stepped e)) && conflict e r) ≡ false
    go true f g = rw (later f) refl
      where
        later : finished e ≡ true → finished (stepped e) ≡ true
        later q = le-leb (steps_of e) (e.taken + 1) (omega (arith, leb-true (steps_of e) e.taken q))
    go false f g = ap (λ (b : Bool). not (finished (stepped e)) && b) g ∙ and-false (not (finished (stepped e)))

-- ---- by footprints

-- f and g are the footprints of e and r
module _ (f g : Footprint) (e r : Record) (ef : f ≡ footprint_of e) (eg : g ≡ footprint_of r) where
  finished_is : finished e ≡ leb f.steps e.taken
  unfolding finished steps_of footprint_of
  finished_is = ap (λ (x : Footprint). leb x.steps e.taken) (sym ef)

  pub done_free : f.steps ≤ e.taken → blocking r e ≡ false
  done_free h = finished_free r e (finished_is ∙ le-leb f.steps e.taken h)

  -- footprints that do not meet, and, where they do, the ranges of both
  pub apart_free : e.taken < f.steps → footprints_meet f g ≡ false → blocking r e ≡ false
  apart_free h c = by_conflict r e false (finished_is ∙ lt-leb f.steps e.taken h) (no_conflict e r (ap₂ footprints_meet (sym ef) (sym eg) ∙ c))

  pub by_ranges : (b : Bool) → e.taken < f.steps → conflict e r ≡ b → blocking r e ≡ b
  by_ranges b h c = by_conflict r e b (finished_is ∙ lt-leb f.steps e.taken h) c

-- ---- what is watched

-- at first nothing
module _ (none : Watch) (at_front : none.searched ≡ 0) where
  zeros : (n p : ℕ) → (get_or (replicate n none) p no_watch).searched ≡ 0
  zeros zero p = refl
  zeros (suc n) zero = at_front
  zeros (suc n) (suc p) = zeros n p

  pub watching_none : (t : List Record) → Watching 0 t (replicate 32 none)
  watching_none t =
      record {
        long = refl;
        touches = λ p h. absurd (not-suc-le-zero h);
        within = λ p. omega (arith, zeros 32 p);
        free = λ p. ap (λ (k : ℕ). some_of (blocking (get_or t p no_record)) (take k t)) (zeros 32 p);
      }

-- one command more, at place n: w is what is kept of it now
module _ (t : List Record) (n : ℕ) (ws : List Watch) (few : n < most_commands) (watched : Watching n t ws) (w : Watch)
    (touched : w.footprint ≡ footprint_of (get_or t n no_record)) (still : w.searched ≡ (get_or ws n no_watch).searched) where
  there : n < length ws
  there = omega (arith, few, watched.long)

  same_searched : (p : ℕ) {b : Bool} → Means (p ≡ n) b → (get_or (set ws n w) p no_watch).searched ≡ (get_or ws p no_watch).searched
  same_searched p (holds s) = rw (s, get_or-set_same ws n w no_watch there) still
  same_searched p (fails k) = ap (λ (x : Watch). x.searched) (get_or-set_other ws n p w no_watch k)

  touches_more : (p : ℕ) {b : Bool} → Means (p ≡ n) b → p < n + 1 → (get_or (set ws n w) p no_watch).footprint ≡ footprint_of (get_or t p no_record)
  touches_more p (holds s) l = rw (s, get_or-set_same ws n w no_watch there) touched
  touches_more p (fails k) l = ap (λ (x : Watch). x.footprint) (get_or-set_other ws n p w no_watch k) ∙ watched.touches p (omega (arith, l, k))

  pub watching_more : Watching (n + 1) t (set ws n w)
  watching_more =
      record {
        long = length-set ws n w ∙ watched.long;
        touches = λ p l. touches_more p (means_eq p n) l;
        within = λ p. omega (arith, same_searched p (means_eq p n), watched.within p);
        free = λ p. ap (λ (k : ℕ). some_of (blocking (get_or t p no_record)) (take k t)) (same_searched p (means_eq p n)) ∙ watched.free p;
      }

-- a step is taken at q
module _ (t : List Record) (q : ℕ) (h : q < length t) where
  abbrev after : List Record
  after = set t q (stepped (get_or t q no_record))

  same_waits : (p : ℕ) {b : Bool} → Means (p ≡ q) b → blocking (get_or after p no_record) ≡ blocking (get_or t p no_record)
  same_waits p (holds s) = rw (s, get_or-set_same t q (stepped (get_or t q no_record)) no_record h) (stepped_waits (get_or t q no_record))
  same_waits p (fails n) = ap blocking (get_or-set_other t q p (stepped (get_or t q no_record)) no_record n)

  same_touch : (p : ℕ) {b : Bool} → Means (p ≡ q) b → footprint_of (get_or after p no_record) ≡ footprint_of (get_or t p no_record)
  same_touch p (holds s) = rw (s, get_or-set_same t q (stepped (get_or t q no_record)) no_record h) (stepped_touches (get_or t q no_record))
  same_touch p (fails n) = ap footprint_of (get_or-set_other t q p (stepped (get_or t q no_record)) no_record n)

  pub watching_still : (n : ℕ) (ws : List Watch) → Watching n t ws → Watching n after ws
  watching_still n ws w =
      record {
        long = w.long;
        touches = λ p l. w.touches p l ∙ sym (same_touch p (means_eq p q));
        within = w.within;
        free = λ p.
            let k = (get_or ws p no_watch).searched in
            let r = get_or t p no_record in
            let e = get_or t q no_record in
            ap (λ (f : Record → Bool). some_of f (take k after)) (same_waits p (means_eq p q))
            ∙ none_set no_record (blocking r) t k q (stepped e) (stepped_blocks r e) (w.free p);
      }

  -- and whoever waits at q waits as before
  pub waits_still : waits after q ≡ waits t q
  unfolding waits
  waits_still =
      ap (λ (f : Record → Bool). some_of f (take q after)) (same_waits q (means_eq q q))
      ∙ ap (some_of (blocking (get_or t q no_record))) (take-set-le q t q (stepped (get_or t q no_record)) (omega arith))
