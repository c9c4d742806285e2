-- `chain::walk::fill` meets its contract: each turn makes the record of one address more; one without a list, which is made apart, is the
-- same record.
use mathlib.Core.Path.{◌≡◌, ap, ◌∙◌}
use Prim.Native.Nat.{ℕ, ◌+◌, ◌<◌}
use native.Mathlib.Omega.{arith}
use mathlib.Core.List.{List}
use lib.ListN.{length, set, get_or}
use borrow.Author.Tests.{ne_eqb}
use Rattle.meaning.specs.declared.Record.{Record}
use Rattle.meaning.specs.Drives.{drives_of}
use Rattle.chain.specs.Records.{record_at, filled_at}
use Rattle.chain.proofs.Over.{filled_next}
use Rattle.chain.proofs.Coding.{plain_is}
use Rattle.chain.proofs.walk.fill.Goals as goal
use Rattle.chain.proofs.walk.fill.Goals.{then-sgm-eq1, else-sgm-eq1}

pub loop-k-preserved : goal.loop-k-preserved
loop-k-preserved c =
    let a = c.args in
    let l = c.loop-k in
    let m = a.memory.now in
    let d = drives_of a.l in
    let xs = a.addresses.now in
    let at = get_or xs l.k 0 in
    let there : l.k < length a.table.now = omega arith in
    let made : (r : Record) → r ≡ record_at m d at → set l.table l.k r ≡ filled_at m d (l.k + 1) xs a.table.now =
    λ r e. ap (λ (x : List Record). set x l.k r) l.invariant ∙ ap (set (filled_at m d l.k xs a.table.now) l.k) e ∙ filled_next m d xs a.table.now l.k c.loop-k-test.true there
    in
    elim c.if-sgm-eq1.branch [
      | then-sgm-eq1 w ↦ w.table-is ∙ made _ w.record_at.ensures
      | else-sgm-eq1 w ↦ w.table-is ∙ made _ (w.plain_record_at.ensures ∙ plain_is m d at (ne_eqb _ 1 (λ e. w.if-sgm-eq1.false (c.sgm.ensures ∙ e))))
    ]

pub returns : goal.returns
returns c =
    let a = c.args in
    let all : c.loop-k.k ≡ length a.addresses.now = omega arith in
    c.loop-k.invariant ∙ ap (λ (k : ℕ). filled_at a.memory.now (drives_of a.l) k a.addresses.now a.table.now) all
