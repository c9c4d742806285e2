-- The four bytes of a close, bit by bit: byte 0 is the copied byte 0 with bits 7 and 6 made anew.
use mathlib.Core.Path.{◌≡◌, refl, sym, ◌∙◌}
use mathlib.Core.Logic.{◌↔◌, ◌≢◌}
use Prim.Native.Nat.{ℕ, zero, suc, ◌+◌, ◌*◌, ◌%◌, ◌<◌}
use native.Mathlib.Omega.{arith}
use mathlib.Core.Bool.{Bool, true, false, cond}
use lib.ListN.{get_or}
use lib.Dec.{eqb}
use Rattle.meaning.specs.declared.LentDrives.{LentDrives}
use Rattle.meaning.specs.Drives.{Drives, most_units, no_drive, drive_of, drives_of}
use Rattle.meaning.specs.declared.Record.{Record}
use Rattle.meaning.specs.Fields.{bit}
use Rattle.meaning.specs.Store.{memory}
use Rattle.meaning.specs.Walk.{record_of}
use Rattle.meaning.specs.Step.{closing_byte0, drive_status, closing, step}
use Rattle.meaning.proofs.Means.{Means, holds, fails, means_iff, means_itself, means_lt, means_eq}
use Rattle.promises.specs.AbsentUnits.{lent_for}
use Rattle.promises.specs.Closing.{StatusBytes, ClosingBytes, ThereAndProtected, ByteTwoExactlyWhen, ByteThreeExactlyWhen}
use Rattle.promises.proofs.Fitted.{fitted_exactly_when}
use Rattle.promises.proofs.StepMoves.{step_moves_one}

-- bits 5 to 0 of b, 1 and e
module _ (b e : ℕ) (small : e < 2) where
  pub low_bits : (k : ℕ) → k < 6 → bit k (b % 64 + 64 + 128 * e) ≡ bit k b
  low_bits zero h = omega arith
  low_bits (suc zero) h = omega arith
  low_bits (suc (suc zero)) h = omega arith
  low_bits (suc (suc (suc zero))) h = omega arith
  low_bits (suc (suc (suc (suc zero)))) h = omega arith
  low_bits (suc (suc (suc (suc (suc zero))))) h = omega arith
  low_bits (suc (suc (suc (suc (suc (suc k)))))) h = absurd (omega arith)

  pub bit_6 : bit 6 (b % 64 + 64 + 128 * e) ≡ 1
  bit_6 = omega arith

  pub bit_7 : bit 7 (b % 64 + 64 + 128 * e) ≡ e
  bit_7 = omega arith

-- ERRS: 1 exactly if the code is not 00
abbrev errs_if : Bool → ℕ
errs_if zeroCode = cond zeroCode 0 1

unfoldable pub errs_of : Record → ℕ
errs_of r = errs_if (eqb r.code 0)

module _ (r : Record) where
  pub errs_small : errs_of r < 2
  unfolding errs_of
  errs_small = go (means_eq r.code 0)
    where
      go : {z : Bool} → Means (r.code ≡ 0) z → errs_if z < 2
      go (holds e) = omega arith
      go (fails n) = omega arith

  errs_set : (errs_of r ≡ 1) ↔ (r.code ≢ 0)
  unfolding errs_of
  errs_set = go (means_eq r.code 0)
    where
      go : {z : Bool} → Means (r.code ≡ 0) z → (errs_if z ≡ 1) ↔ (r.code ≢ 0)
      go (holds e) = ((λ h. absurd (omega arith)), λ n. absurd (n e))
      go (fails n) = ((λ _. n), λ _. refl)

  pub closing_byte_0 : closing_byte0 r ≡ r.byte0 % 64 + 64 + 128 * errs_of r
  unfolding closing_byte0 errs_of
  closing_byte_0 = go (eqb r.code 0)
    where
      go : (z : Bool) → r.byte0 % 64 + 64 + cond z 0 128 ≡ r.byte0 % 64 + 64 + 128 * errs_if z
      go true = refl
      go false = refl

-- bytes that agree with the close's
module _ (d : Drives) (r : Record) (byte : ℕ → ℕ) (same : (j : ℕ) → j < 4 → byte j ≡ get_or (closing d r) j 0) where
  byte_0 : byte 0 ≡ r.byte0 % 64 + 64 + 128 * errs_of r
  unfolding closing
  byte_0 = same 0 (omega arith) ∙ closing_byte_0 r

  byte_2 : byte 2 ≡ drive_status (d.on r.unit)
  unfolding closing
  byte_2 = same 2 (omega arith)

  status_bytes_lem : StatusBytes d r byte
  unfolding closing
  status_bytes_lem =
      let small = errs_small r in
      record {
        errs = rw (byte_0, bit_7 r.byte0 (errs_of r) small) (errs_set r);
        done = rw byte_0 (bit_6 r.byte0 (errs_of r) small);
        copied = rw byte_0 (low_bits r.byte0 (errs_of r) small);
        one_byte = rw byte_0 (omega arith);
        code = same 1 (omega arith);
        unprotected = λ e. rw (byte_2, e);
        protected = λ e. rw (byte_2, e);
        internal = same 3 (omega arith);
      }

pub closing_bytes : ClosingBytes
closing_bytes d r s may last = status_bytes_lem d r (λ j. get_or (step d r s memory) (r.iopb + j) 0) ((step_moves_one d r s may).posted last)

-- the drive of a unit is protected exactly where one is lent for it that is there and protected: an absent unit counts as open
means_protected : (l : LentDrives) (u : ℕ) → Means (ThereAndProtected l u) (drive_of l u).protected
unfolding drive_of
means_protected l u = go (means_lt u most_units) (means_itself (lent_for l u).present)
  where
    go : {x y : Bool} → Means (u < most_units) x → Means ((lent_for l u).present ≡ true) y
        → Means (ThereAndProtected l u) (cond x (cond y (lent_for l u) no_drive) no_drive).protected
    go (holds p) (holds q) = means_iff ((λ t. (p, (q, t))), λ h. h.1.1) (means_itself (lent_for l u).protected)
    go (holds p) (fails n) = fails (λ h. n h.1.0)
    go (fails n) y = fails (λ h. n h.0)

pub byte_two_exactly_when : ByteTwoExactlyWhen
byte_two_exactly_when l r s may last =
    let b = closing_bytes (drives_of l) r s may last in
    go (means_protected l r.unit) b.unprotected b.protected
  where
    byte2 : ℕ
    byte2 = get_or (step (drives_of l) r s memory) (r.iopb + 2) 0

    go : {z : Bool} → Means (ThereAndProtected l r.unit) z → (z ≡ false → byte2 ≡ 0x03) → (z ≡ true → byte2 ≡ 0x13)
        → ((byte2 ≡ 0x13) ↔ ThereAndProtected l r.unit) × ((byte2 ≡ 0x03) ↔ (¬ ThereAndProtected l r.unit))
    go (holds p) f g = (((λ _. p), λ _. g refl), ((λ e. absurd (omega (arith, e, g refl))), λ n. absurd (n p)))
    go (fails n) f g = (((λ e. absurd (omega (arith, e, f refl))), λ p. absurd (n p)), ((λ _. n), λ _. f refl))

pub byte_three_exactly_when : ByteThreeExactlyWhen
unfolding record_of
byte_three_exactly_when c a m d r s same may last N =
    let byte3 = (closing_bytes d r s may last).internal ∙ same in
    let exactly = fitted_exactly_when c (d.on c.unit) m N in
    ((λ e. exactly.0 (sym byte3 ∙ e)), λ t. byte3 ∙ exactly.1 t)
