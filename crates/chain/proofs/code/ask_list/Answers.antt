-- `chain::code::ask_list` meets its contract: what the library sums is what the first row asks, and each row decides or leaves it to the next.
use mathlib.Core.Path.{◌≡◌, sym, ◌∙◌}
use borrow.Author.Rules.{rules}
use borrow.Author.Tests.{eq-eqb, ne_eqb}
use Rattle.std.specs.List.{sum_by}
use Rattle.meaning.specs.declared.Link.{Link}
use Rattle.meaning.specs.Each.{sum_of}
use Rattle.meaning.proofs.Loops.{sum_is}
use Rattle.chain.specs.Coding.{list_code}
use Rattle.chain.proofs.code.ask_list.Goals as goal
use Rattle.chain.proofs.code.ask_list.Goals.{After-sum-bytes}

-- the lengths together
total : (c : After-sum-bytes) → sum_of (λ (x : Link). x.length) c.args.list.now ≡ c.sum-bytes.result
total c =
    let xs = c.args.list.now in
    let e : c.sum-bytes.result ≡ sum_by (λ (x : Link). x.length) xs = search rules in
    sym (e ∙ sum_is (λ (x : Link). x.length) xs)

pub returns-then-bytes-count : goal.returns-then-bytes-count
unfolding list_code
returns-then-bytes-count c =
    simp (total (goal.at.returns-then-bytes-count c).After-sum-bytes, ne_eqb _ _ c.if-bytes-count.true)

pub returns-then-some_odd : goal.returns-then-some_odd
unfolding list_code
returns-then-some_odd c =
    simp (total (goal.at.returns-then-some_odd c).After-sum-bytes, eq-eqb _ _ c.if-bytes-count.false, sym c.some_odd.ensures ∙ c.if-some_odd.true)

pub returns-then-some_outside : goal.returns-then-some_outside
unfolding list_code
returns-then-some_outside c =
    simp (
      total (goal.at.returns-then-some_outside c).After-sum-bytes,
      eq-eqb _ _ c.if-bytes-count.false,
      sym c.some_odd.ensures ∙ c.if-some_odd.false,
      sym c.some_outside.ensures ∙ c.if-some_outside.true,
    )

pub returns : goal.returns
unfolding list_code
returns c =
    simp (
      total (goal.at.returns c).After-sum-bytes,
      eq-eqb _ _ c.if-bytes-count.false,
      sym c.some_odd.ensures ∙ c.if-some_odd.false,
      sym c.some_outside.ensures ∙ c.if-some_outside.false,
    )
