-- What the walk finds before it makes a record: its answer, and where the IOPBs of its commands are.
use Rattle.std.specs.Prelude.{ℕ, ◌||◌, cond, Result, Ok, Err, List, [], ◌++◌, map, length, drop, replicate, ltb}
use Rattle.meaning.specs.declared.refusals.Refusal.{Refusal}
use Rattle.meaning.specs.declared.Walked.{Walked}
use Rattle.meaning.specs.Refusals.{number_of}
use Rattle.meaning.specs.Drives.{Drives}
use Rattle.meaning.specs.Store.{lent}
use Rattle.meaning.specs.State.{most_commands}
use Rattle.meaning.specs.Sizes.{store_wrong}
use Rattle.meaning.specs.Code.{odd}
use Rattle.meaning.specs.Walk.{Chain, refused, accepted, follow, answered}
use Rattle.chain.specs.declared.walk.Found.{Found}

-- the chain that a walk comes to whose table has so many records; m is memory and is the images
unfoldable pub chain_for : Drives → ℕ → ℕ → List ℕ → List (List ℕ) → Chain
unfolding store_wrong follow
chain_for d start records m is = cond (store_wrong d (lent m is) || ltb records most_commands) (refused 1) (cond (odd start) (refused 2) (follow most_commands m d [] start))

-- where the IOPBs of its commands are
abbrev pub iopbs_of : Chain → List ℕ
iopbs_of (refused k) = []
iopbs_of (accepted rs) = map (λ r. r.iopb) rs

abbrev pub no_addresses : List ℕ
no_addresses = replicate most_commands 0

-- what a result of the walk tells: how many commands there are, or the number of its refusal
abbrev pub walked_of : Result ℕ Refusal → Walked
walked_of (Ok n) = record { number = 0; commands = n }
walked_of (Err r) = record { number = number_of r; commands = 0 }

-- what is found: the walk's answer, and the addresses of the IOPBs before zeros
pub record Finding : Type 0 where
  pub walked : Walked
  pub addresses : List ℕ

abbrev pub found_of : Chain → Finding
found_of c = record { walked = answered c; addresses = iopbs_of c ++ drop (length (iopbs_of c)) no_addresses }

-- and what a result of the search says of it
abbrev pub finding_of : Result Found Refusal → Finding
finding_of (Ok f) = record { walked = walked_of (Ok f.commands); addresses = f.addresses }
finding_of (Err r) = record { walked = walked_of (Err r); addresses = no_addresses }
