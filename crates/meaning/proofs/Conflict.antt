-- Two commands conflict, by the ranges that they touch, exactly where one of them writes a byte or sector that the other reads or
-- writes; and a command waits exactly where an earlier unfinished one conflicts with it. Ranges meet where something is in both.
use mathlib.Core.Path.{◌≡◌, refl, sym, ap}
use mathlib.Core.Logic.Iff
use mathlib.Core.Logic.{◌↔◌, ◌⊎◌, inl, ⊎_elim}
use Prim.Native.Nat.{ℕ}
use mathlib.Core.Bool.{Bool, true, false, not, ◌&&◌}
use mathlib.Core.List.{List, [], ◌∷◌, ◌++◌, append-nil}
use lib.ListN.{get_or}
use Rattle.meaning.specs.declared.Record.{Record}
use Rattle.meaning.specs.Store.{Space}
use Rattle.meaning.specs.Ranges.{Range}
use Rattle.meaning.specs.Command.{reads, writes, finished, no_record}
use Rattle.meaning.specs.Touch.{Touched, data_bytes, status_bytes, sectors, touched_by, touched, disturbs, conflict}
use Rattle.meaning.specs.Pick.{waits}
use Rattle.meaning.specs.Conditions.{LiesIn, Reads, Writes, ReadsAt, WritesAt, Disturbs, Conflict, Finished, Waits}
use Rattle.meaning.proofs.Means.{Means, holds, fails, means_iff, means_opposite, means_and, means_or, means_some, ⊎_iff, some_of_both}
use Rattle.meaning.proofs.Ranges.{InSome, means_meet}
use Rattle.meaning.proofs.Conditions.{not_both, means_reads, means_writes, means_finished}

-- ---- what lies in lists of ranges

in_one : (p : Space) (x : ℕ) (r : Range) → InSome (r ∷ []) p x ↔ LiesIn r p x
in_one p x r = (⊎_elim (λ h. h) absurd, inl)

-- ranges, if the test passes
abbrev given : Bool → List Range → List Range
given true rs = rs
given false rs = []

in_given : {P A : Type 0} {b : Bool} (p : Space) (x : ℕ) (rs : List Range) → Means P b → InSome rs p x ↔ A → InSome (given b rs) p x ↔ (P × A)
in_given p x rs (holds h) e = (λ k. (h, e.0 k), λ k. e.1 k.1)
in_given p x rs (fails n) e = (absurd, λ k. n k.0)

-- ---- what a command touches

abbrev by_kind : Bool → Bool → Record → Touched
by_kind a b r =
    record {
      read = given b (data_bytes r) ++ given a (sectors r ∷ []);
      written = given a (data_bytes r) ++ (given b (sectors r ∷ []) ++ status_bytes r ∷ []);
    }

abbrev kinds : Record → Touched
kinds r = by_kind (reads r) (writes r) r

-- no command is both a Read Data and a Write Data
touched_by_kind : (r : Record) → touched r ≡ kinds r
unfolding touched
touched_by_kind r = go (means_reads r) (means_writes r)
  where
    go : {a b : Bool} → Means (Reads r) a → Means (Writes r) b → touched_by a b r ≡ by_kind a b r
    go (holds p) (holds q) = absurd (not_both r p q)
    go (holds p) (fails n) = refl
    go (fails n) (holds q) = ap (λ (rs : List Range). record { read = rs; written = sectors r ∷ status_bytes r ∷ [] }) (sym (append-nil (data_bytes r)))
    go (fails n) (fails m) = refl

module _ (r : Record) (p : Space) (x : ℕ) where
  in_read : InSome (kinds r).read p x ↔ ReadsAt r p x
  in_read =
      Iff.trans (some_of_both (λ z. LiesIn z p x) (given (writes r) (data_bytes r)) (given (reads r) (sectors r ∷ [])))
      (⊎_iff (in_given p x (data_bytes r) (means_writes r) Iff.rfl) (in_given p x (sectors r ∷ []) (means_reads r) (in_one p x (sectors r))))

  in_written : InSome (kinds r).written p x ↔ WritesAt r p x
  in_written =
      Iff.trans (some_of_both (λ z. LiesIn z p x) (given (reads r) (data_bytes r)) (given (writes r) (sectors r ∷ []) ++ status_bytes r ∷ []))
      (⊎_iff (in_given p x (data_bytes r) (means_reads r) Iff.rfl)
      (Iff.trans (some_of_both (λ z. LiesIn z p x) (given (writes r) (sectors r ∷ [])) (status_bytes r ∷ []))
      (⊎_iff (in_given p x (sectors r ∷ []) (means_writes r) (in_one p x (sectors r))) (in_one p x (status_bytes r)))))

-- ---- conflict, and waiting

means_disturbs : (r s : Record) → Means (Disturbs r s) (disturbs (touched r) (touched s))
unfolding disturbs
means_disturbs r s =
    rw (touched_by_kind r, touched_by_kind s)
    (means_iff (
      (λ c. (c.0, c.1, (in_written r c.0 c.1).0 c.2, (both c.0 c.1).0 c.3)),
      λ c. (c.0, c.1, (in_written r c.0 c.1).1 c.2, (both c.0 c.1).1 c.3),
    )
    (means_meet (kinds r).written ((kinds s).read ++ (kinds s).written)))
  where
    both : (p : Space) (x : ℕ) → InSome ((kinds s).read ++ (kinds s).written) p x ↔ (ReadsAt s p x ⊎ WritesAt s p x)
    both p x = Iff.trans (some_of_both (λ z. LiesIn z p x) (kinds s).read (kinds s).written) (⊎_iff (in_read s p x) (in_written s p x))

pub means_conflict : (r s : Record) → Means (Conflict r s) (conflict r s)
unfolding conflict
means_conflict r s = means_or (means_disturbs r s) (means_disturbs s r)

pub means_waits : (t : List Record) (p : ℕ) → Means (Waits t p) (waits t p)
unfolding waits
means_waits t p = means_some waits_for no_record p t
  where
    waits_for : (e : Record) → Means ((¬ Finished e) × Conflict e (get_or t p no_record)) (not (finished e) && conflict e (get_or t p no_record))
    waits_for e = means_and (means_opposite (means_finished e)) (means_conflict e (get_or t p no_record))
