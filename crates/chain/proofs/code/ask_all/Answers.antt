-- `chain::code::ask_all` meets its contract: each test decides whose answer it is.
use mathlib.Core.Path.{◌≡◌, sym, ap, ◌∙◌}
use Prim.Native.Nat.{◌≤◌}
use borrow.Author.Rules.{rules}
use lib.ListN.{length}
use Rattle.std.specs.Prelude.{Result, Err}
use Rattle.chain.specs.declared.code.Fault.{Fault}
use Rattle.chain.specs.Coding.{verdict_by, late_verdict}
use Rattle.chain.proofs.Coding.{late_fault, late_plain, late_listed}
use Rattle.chain.proofs.code.ask_all.Goals as goal

pub returns-in_err-early : goal.returns-in_err-early
returns-in_err-early c =
    let a = c.args in
    let xs = a.list.now in
    let f = c.in_err-early.field-0.0 in
    let same : c.from_residual.result ≡ Err f = search rules in
    ap verdict_by same
    ∙ sym (late_fault a.c f a.memory xs (length xs))
    ∙ ap (λ (e : Result Unit Fault). late_verdict a.c (verdict_by e) a.memory xs (length xs)) (sym c.in_err-early.was)

pub returns-then-is_empty : goal.returns-then-is_empty
returns-then-is_empty c =
    let a = c.args in
    let none : (verdict_by a.early).code ≡ 0 = ap (λ (e : Result Unit Fault). (verdict_by e).code) c.in_ok-early.was in
    let e : length a.list.now ≡ 0 = search rules in
    c.ask_plain.ensures ∙ sym (late_plain a.c (verdict_by a.early) a.memory none a.list.now (length a.list.now) e)

pub returns : goal.returns
returns c =
    let a = c.args in
    let none : (verdict_by a.early).code ≡ 0 = ap (λ (e : Result Unit Fault). (verdict_by e).code) c.in_ok-early.was in
    let h : 1 ≤ length a.list.now = search rules in
    c.ask_list.ensures ∙ sym (late_listed a.c (verdict_by a.early) a.memory none a.list.now (length a.list.now) h)
