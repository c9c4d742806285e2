-- The IOPBs behind the walk all end at or before `past`: what that gives, and how a turn keeps it.
use mathlib.Core.Path.{◌≡◌, refl}
use Prim.Native.Nat.{ℕ, ◌+◌, ◌≤◌, ◌<◌, max, min}
use native.Mathlib.Numerals.{add-one}
use native.Mathlib.Omega.{arith}
use mathlib.Core.Bool.{false}
use mathlib.Core.List.{List, [], ◌∷◌}
use lib.ListN.{length, take, set}
use lib.Seq.{take-suc-set}
use borrow.Author.Tests.{le-ltb}
use Rattle.meaning.specs.Each.{some_of}
use Rattle.meaning.specs.Fields.{iopb_bytes}
use Rattle.meaning.specs.Ranges.{crosses}
use Rattle.meaning.specs.Walk.{shares}
use Rattle.meaning.proofs.All.{all_append, all_map}
use Rattle.chain.specs.Past.{AllEnd}

-- an IOPB that begins there, or after, shares no byte with any of them
pub none_shares : {past b : ℕ} (addresses : List ℕ) → AllEnd past addresses → past ≤ b → some_of (λ a. shares a b) addresses ≡ false
unfolding crosses
none_shares [] w h = refl
none_shares {b = b} (a ∷ rest) w h =
    rw (le-ltb (max a b) (min (a + iopb_bytes) (b + iopb_bytes)) (omega arith)) (none_shares rest w.1 h)

-- the IOPB at `at` is one more of them
pub still_end : (addresses : List ℕ) (n at past : ℕ) {after : ℕ} → n < length addresses → AllEnd past (take n addresses) → after ≡ max past (at + iopb_bytes)
    → AllEnd after (take (n + 1) (set addresses n at))
still_end addresses n at past h w e =
    rw (add-one, take-suc-set) (all_append _ (take n addresses) (at ∷ []) (all_map _ _ (λ a i. omega arith) (take n addresses) w) (omega arith, tt))
