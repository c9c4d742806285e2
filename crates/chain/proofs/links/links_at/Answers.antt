-- `chain::links::links_at` meets its contract: each turn lays one element more.
use mathlib.Core.Path.{◌≡◌, ap, ap₂, ◌∙◌}
use Prim.Native.Nat.{ℕ}
use native.Mathlib.Omega.{arith}
use mathlib.Core.List.{List}
use lib.ListN.{set}
use Rattle.meaning.specs.declared.Link.{Link}
use Rattle.meaning.specs.Links.{links_at, padded}
use Rattle.meaning.proofs.Links.{padded_more}
use Rattle.chain.proofs.links.links_at.Goals as goal

pub loop-k-preserved : goal.loop-k-preserved
loop-k-preserved c =
    let a = c.args in
    let k = c.loop-k.k in
    ap₂ (λ (xs : List Link) (x : Link). set xs k x) c.loop-k.invariant c.link_at.ensures ∙ padded_more a.memory.now a.at k (omega (arith, c.requires.0, c.loop-k-test.true))

pub returns : goal.returns
returns c =
    let a = c.args in
    let all : c.loop-k.k ≡ a.n = omega arith in
    c.loop-k.invariant ∙ ap (λ (k : ℕ). padded (links_at a.memory.now a.at k)) all
