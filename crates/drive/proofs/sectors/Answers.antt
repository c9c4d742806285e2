-- `drive::sectors` meets its contract: the cylinders before the last and the last one are all of them.
use mathlib.Core.Path.{sym, ap, ◌∙◌}
use Prim.Native.Nat.{ℕ, ◌+◌, ◌*◌}
use Rattle.meaning.proofs.Numbering.{count_by_cylinders}
use Rattle.drive.proofs.sectors.Goals as goal

pub returns-clause-value : goal.returns-clause-value
returns-clause-value c =
    let before = c.of_cylinders in
    let each = c.on_cylinder-each in
    let d = c.args.d in
    let sum = ap (λ (n : ℕ). n + each.result) before.ensures.value ∙ ap (λ (n : ℕ). d.cylinder * n + n) each.ensures.value in
    c.together.ensures ∙ sum ∙ sym (count_by_cylinders d)
