-- `board::step::move_plain` meets its contract: each sector is moved right behind those before it.
use Rattle.std.proofs.Common.{ℕ, ◌≡◌, ◌+◌, ◌*◌, sym, ap, ◌∙◌, refl, arith}
use Rattle.meaning.specs.Store.{move}
use Rattle.meaning.specs.Sectors.{sector_bytes}
use Rattle.board.specs.OneUnit.{on_unit}
use Rattle.board.specs.Moved.{part_move}
use Rattle.board.proofs.Windows.{part_none, part_more}
use Rattle.board.proofs.step.move_plain.Goals as goal

pub loop-k-init : goal.loop-k-init
loop-k-init c u s = let a = c.args in sym (part_none u a.memory.now a.image.now s a.at a.disk 0 a.reads refl)

pub loop-k-preserved : goal.loop-k-preserved
loop-k-preserved c u s = let a = c.args in
    let l = c.loop-k in
    let done = sector_bytes * l.k in
    let h = c.requires in
    let t = c.loop-k-test.true in
    let more : done + sector_bytes ≡ sector_bytes * (l.k + 1) = omega arith in
    c.move_part.ensures u s
    ∙ ap (move (part_move u a.reads (a.at + done) (a.disk + done) sector_bytes)) (l.invariant u s)
    ∙ part_more u a.memory.now a.image.now s a.at a.disk done a.reads sector_bytes (omega (arith, h.0, t)) (omega (arith, h.1, t))
    ∙ ap (λ (n : ℕ). move (part_move u a.reads a.at a.disk n) (on_unit u a.memory.now a.image.now s)) more

pub returns : goal.returns
returns c u s = let a = c.args in
    let l = c.loop-k in
    let all : l.k ≡ a.sectors = omega (arith, c.loop-k-test.false, l.auto.k-end) in
    l.invariant u s ∙ ap (λ (k : ℕ). move (part_move u a.reads a.at a.disk (sector_bytes * k)) (on_unit u a.memory.now a.image.now s)) all
