-- `chain::walk::record_of` meets its contract: each field is what its call ensures.
use mathlib.Core.Path.{◌≡◌, sym, ap, ◌∙◌}
use Prim.Native.Nat.{◌≤◌}
use native.Mathlib.Omega.{arith}
use lib.ListN.{length, take}
use lib.Seq.{length-take-le}
use borrow.Author.Rules.{rules}
use Rattle.meaning.specs.Links.{most_links}
use Rattle.chain.specs.Coding.{verdict_by, late_verdict}
use Rattle.chain.proofs.Coding.{to_read_few, to_read_in, record_made}
use Rattle.chain.proofs.walk.record_of.Goals as goal

pub links_at-list-requires : goal.links_at-list-requires
links_at-list-requires c = let a = c.args in
    let e = (verdict_by c.ask_early-early.result).code in
    let n = c.links_to_read-ranges.ensures in
    (omega (arith, n, to_read_few a.c e (length a.memory.now)), λ h. omega (arith, n, to_read_in a.c e (length a.memory.now) (omega arith)))

pub slice_bounds-list-end : goal.slice_bounds-list-end
slice_bounds-list-end c = let a = c.args in
    let long : length c.links_at-list.result ≡ most_links = search rules in
    omega (arith, c.links_to_read-ranges.ensures, to_read_few a.c (verdict_by c.ask_early-early.result).code (length a.memory.now), long)

pub slice_bounds-ask_all-end : goal.slice_bounds-ask_all-end
slice_bounds-ask_all-end c = let a = c.args in
    let long : length c.links_at-list.result ≡ most_links = search rules in
    sym (length-take-le _ _ (omega (arith, c.links_to_read-ranges.ensures, to_read_few a.c (verdict_by c.ask_early-early.result).code (length a.memory.now), long)))

pub returns : goal.returns
returns c =
    let a = c.args in
    let m = a.memory.now in
    let early = verdict_by c.ask_early-early.result in
    let n = c.links_to_read-ranges.result in
    let list = c.links_at-list.result in
    let long : length list ≡ most_links = search rules in
    let few : n ≤ length list = omega (arith, c.links_to_read-ranges.ensures, to_read_few a.c early.code (length m), long) in
    let verdict = c.from-verdict.ensures ∙ c.ask_all-asked.ensures ∙ ap (late_verdict a.c early (length m) (take n list)) (length-take-le n list few) in
    record_made m a.c a.at a.d early n c.first_sector-first.result list c.from-verdict.result
    c.ask_early-early.ensures c.links_to_read-ranges.ensures c.links_at-list.ensures c.first_sector-first.ensures verdict
