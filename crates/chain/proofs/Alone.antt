-- The thirty bytes of an IOPB, lent alone: what is copied from them at 0 is what is copied from all of memory at the IOPB's address.
use mathlib.Core.Path.{◌≡◌, sym, ap, ◌∙◌}
use Prim.Native.Nat.{ℕ, ◌+◌, ◌-◌, ◌*◌, ◌%◌, ◌≤◌, ◌<◌}
use native.Mathlib.Nat.{add-sub_cancel_left, zero-add}
use native.Mathlib.Omega.{arith}
use mathlib.Core.List.{List}
use lib.ListN.{length, get_or, take, drop, length-drop}
use lib.Seq.{length-take-le, get_or-take, get_or-drop}
use borrow.Author.Tests.{le-leb}
use Rattle.std.proofs.lemmas.Bool.{cond-true}
use Rattle.meaning.specs.Fields.{iopb_bytes, byte_of}
use Rattle.meaning.specs.Code.{copied_at}

module _ (m : List ℕ) (a : ℕ) (all : a + iopb_bytes ≤ length m) where
  abbrev alone : List ℕ
  alone = take (a + iopb_bytes - a) (drop a m)

  thirty : length alone ≡ iopb_bytes
  thirty = ap (λ (n : ℕ). length (take n (drop a m))) (add-sub_cancel_left a iopb_bytes) ∙ length-take-le iopb_bytes (drop a m) (omega (arith, length-drop a m))

  same_byte : (k : ℕ) → k < iopb_bytes → byte_of alone 0 k ≡ byte_of m a k
  unfolding byte_of
  same_byte k h =
      cond-true _ _ _ (le-leb (0 + iopb_bytes) (length alone) (omega (arith, thirty)))
      ∙ ap (λ (i : ℕ). get_or alone i 0) (zero-add k)
      ∙ get_or-take (a + iopb_bytes - a) (drop a m) k 0 (omega (arith, add-sub_cancel_left a iopb_bytes))
      ∙ get_or-drop a m k 0
      ∙ sym (cond-true _ _ _ (le-leb (a + iopb_bytes) (length m) all))

  pub copied_alone : copied_at alone 0 ≡ copied_at m a
  unfolding copied_at
  copied_alone =
      let e : (k : ℕ) → k < iopb_bytes → byte_of alone 0 k ≡ byte_of m a k = same_byte in
      λ j.
      record {
        byte0 = e 0 (omega arith) j;
        subfunction = e 4 (omega arith) j;
        unit = e 5 (omega arith) j % 8;
        byte6 = e 6 (omega arith) j;
        head = e 0x0C (omega arith) j;
        sector = e 0x0D (omega arith) j;
        count = e 8 (omega arith) j * 256 + e 9 (omega arith) j;
        cylinder = e 0x0A (omega arith) j * 256 + e 0x0B (omega arith) j;
        address = (e 0x10 (omega arith) j * 256 + e 0x11 (omega arith) j) * 65536 + (e 0x12 (omega arith) j * 256 + e 0x13 (omega arith) j);
        next = (e 0x14 (omega arith) j * 256 + e 0x15 (omega arith) j) * 65536 + (e 0x16 (omega arith) j * 256 + e 0x17 (omega arith) j);
      }
