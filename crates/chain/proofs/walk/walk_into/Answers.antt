-- `chain::walk::walk_into` meets its contract: what is found, and the records that are made there, are the whole of the walk.
use mathlib.Core.Path.{◌≡◌, sym, subst}
use native.Mathlib.Omega.{arith}
use lib.ListN.{length, length-take}
use Prim.Native.Nat.{ℕ}
use Rattle.std.specs.Prelude.{Result, Err}
use Rattle.meaning.specs.declared.refusals.Refusal.{Refusal}
use borrow.Author.Rules.{rules}
use Rattle.meaning.specs.Lends.{images_of}
use Rattle.meaning.specs.Drives.{drives_of}
use Rattle.meaning.specs.State.{state_of}
use Rattle.meaning.specs.Walk.{WalkGives}
use Rattle.chain.specs.Found.{walked_of}
use Rattle.chain.proofs.Found.{refused_whole, few_enough, accepted_whole}
use Rattle.chain.proofs.walk.walk_into.Goals as goal

pub returns-in_err-found : goal.returns-in_err-found
returns-in_err-found c =
    let a = c.args in
    let r = c.in_err-found.field-0.0 in
    let same : c.from_residual.result ≡ Err r = search rules in
    subst (λ (x : Result ℕ Refusal). WalkGives (drives_of a.disks.drives) a.start (state_of a.memory.now (images_of a.disks) a.table.now) (walked_of x) a.table.now) (sym same)
    (refused_whole (drives_of a.disks.drives) a.start a.memory.now (images_of a.disks) a.table.now r c.in_err-found.ensures)

pub fill-requires : goal.fill-requires
fill-requires c = let a = c.args in
    let f = c.in_ok-found.found in
    let long : length f.addresses ≡ 32 = search rules in
    let few = few_enough (drives_of a.disks.drives) a.start a.memory.now (images_of a.disks) a.table.now f c.in_ok-found.ensures long in
    omega (arith, length-take f.commands f.addresses, few.0)

pub returns : goal.returns
returns c = let a = c.args in
    let f = c.in_ok-found.found in
    let long : length f.addresses ≡ 32 = search rules in
    subst (WalkGives (drives_of a.disks.drives) a.start (state_of a.memory.now (images_of a.disks) a.table.now) _) (sym c.fill.ensures)
    (accepted_whole (drives_of a.disks.drives) a.start a.memory.now (images_of a.disks) a.table.now f c.in_ok-found.ensures long)
