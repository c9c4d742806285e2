-- The walk along a chain: what it makes of each IOPB, when it refuses, and what it leaves in the table. Memory and images are only read.
use Rattle.std.specs.Prelude.{◌≡◌, ℕ, zero, suc, Bool, not, ◌&&◌, cond, List, [], ◌∷◌, ◌++◌, length, drop}
use Rattle.meaning.specs.Each.{some_of}
use Rattle.meaning.specs.declared.Drive.{Drive}
use Rattle.meaning.specs.Drives.{Drives}
use Rattle.meaning.specs.Fields.{iopb_bytes, all_in}
use Rattle.meaning.specs.declared.Copied.{Copied}
use Rattle.meaning.specs.declared.Record.{Record}
use Rattle.meaning.specs.declared.Walked.{Walked}
use Rattle.meaning.specs.Store.{memory}
use Rattle.meaning.specs.State.{State, most_commands}
use Rattle.meaning.specs.Ranges.{bytes, overlap}
use Rattle.meaning.specs.Sizes.{sizes_wrong}
use Rattle.meaning.specs.Links.{padded}
use Rattle.meaning.specs.Code.{copied_at, links_in, links_read, code_of, fitted_of, chained, odd, first_sector}

-- a command's record as the walk fills it, whatever its code: no step taken yet (Record 3 and 4); d is the drive of the command's own unit
-- and m is memory
unfoldable pub record_of : Copied → ℕ → Drive → List ℕ → Record
record_of c a d m =
    record {
      iopb = a;
      address = c.address;
      sector = first_sector d c;
      taken = 0;
      ranges = length (links_read m c d);
      count = c.count;
      unit = c.unit;
      byte0 = c.byte0;
      code = code_of c d (length m) (links_in m c);
      fitted = fitted_of c d (length m) (links_in m c);
      list = padded (links_read m c d);
    }

-- CHEN set means that another follows; with an odd next address the chain ends here all the same (Walk 2)
abbrev pub goes_on : Copied → Bool
goes_on c = chained c && not (odd c.next)

-- two IOPBs, at a and at b, share a byte (Walk 9)
abbrev pub shares : ℕ → ℕ → Bool
shares a b = overlap (bytes a iopb_bytes) (bytes b iopb_bytes)

-- what a chain comes to: a refusal by its number, or its commands
pub data Chain : Type 0 where
  refused : ℕ → Chain
  accepted : List Record → Chain

-- From the IOPB at a on, with `left` more commands allowed and `earlier` before it; m is memory. At each IOPB in turn 5, 3, 4
-- (Walk 7 to 9), until the chain has come to its end (Walk 10).
unfoldable pub follow : ℕ → List ℕ → Drives → List Record → ℕ → Chain
follow zero m d earlier a = refused 5
follow (suc left) m d earlier a =
    let c = copied_at m a in
    let commands = earlier ++ record_of c a (d.on c.unit) m ∷ [] in
    let rest = follow left m d commands c.next in
    cond (not (all_in m a)) (refused 3)
    (cond (some_of (λ r. shares r.iopb a) earlier) (refused 4)
    (cond (goes_on c) rest (accepted commands)))

-- 1, then 2, then along the chain (Walk 4 to 6)
unfoldable pub chain_at : Drives → ℕ → State → Chain
unfolding follow
chain_at d start s = cond (sizes_wrong d s) (refused 1) (cond (odd start) (refused 2) (follow most_commands (s.store memory) d [] start))

-- what the walk answers of a chain: no commands on a refusal (Record 5)
abbrev pub answered : Chain → Walked
answered (refused n) = record { number = n; commands = 0 }
answered (accepted rs) = record { number = 0; commands = length rs }

-- the table after it: records past the last command, and all of them on a refusal, are left alone (Record 7)
abbrev pub filled : Chain → List Record → List Record
filled (refused n) t = t
filled (accepted rs) t = rs ++ drop (length rs) t

unfoldable pub walk_reply : Drives → ℕ → State → Walked
unfolding chain_at
walk_reply d start s = answered (chain_at d start s)

unfoldable pub walk_leaves : Drives → ℕ → State → List Record
unfolding chain_at
walk_leaves d start s = filled (chain_at d start s) s.table

-- The whole of a walk: w is what it answers, t' the table after it.
unfoldable pub WalkGives : Drives → ℕ → State → Walked → List Record → Type 0
unfolding walk_reply walk_leaves
WalkGives d start s w t' = (w ≡ walk_reply d start s) × (t' ≡ walk_leaves d start s)
