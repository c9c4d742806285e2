-- `deck::run::codes_of` meets its contract: after so many turns the codes of as many commands stand in front of zeros.
use mathlib.Core.Path.{◌≡◌}
use Prim.Native.Nat.{◌-◌}
use mathlib.Core.List.{◌++◌}
use lib.ListN.{take, replicate}
use Rattle.deck.specs.Meant.{codes_of}
use Rattle.deck.proofs.run.codes_of.Given as goal

abbrev pub invariant-loop-place : goal.invariant-loop-place
invariant-loop-place l = l.codes ≡ codes_of (take l.place l.command-items) ++ replicate (32 - l.place) 0
