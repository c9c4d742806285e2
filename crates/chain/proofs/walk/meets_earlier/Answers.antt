-- `chain::walk::meets_earlier` meets its contract: an IOPB that begins at or past the end of all of them shares no byte with any.
use mathlib.Core.Path.{sym}
use native.Mathlib.Omega.{arith}
use Rattle.chain.proofs.Past.{none_shares}
use Rattle.chain.proofs.walk.meets_earlier.Goals as goal

pub returns-then-past-b : goal.returns-then-past-b
returns-then-past-b c = sym (none_shares c.args.addresses.now c.requires (omega arith))
