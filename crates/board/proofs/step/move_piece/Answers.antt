-- `board::step::move_piece` meets its contract: an empty piece moves nothing, another is one part moved.
use mathlib.Core.Path.{◌≡◌, ap, ◌∙◌}
use Prim.Native.Nat.{ℕ, ◌-◌, min}
use Rattle.board.proofs.Windows.{piece_nothing, this_piece}
use Rattle.board.proofs.step.move_piece.Goals as goal
use Rattle.board.proofs.step.move_piece.Goals.{After-min-end}

-- where the piece begins and ends in its range
skip : (c : After-min-end) → let a = c.args in c.min-skip.result ≡ min (a.w.lo - a.b) a.x.now.length
skip c = c.min-skip.ensures ∙ ap (λ (n : ℕ). min n c.args.x.now.length) c.saturating_sub.ensures

end : (c : After-min-end) → let a = c.args in c.min-end.result ≡ min (a.w.hi - a.b) a.x.now.length
end c = c.min-end.ensures ∙ ap (λ (n : ℕ). min n c.args.x.now.length) c.saturating_sub-2.ensures

pub returns-then-end-skip : goal.returns-then-end-skip
returns-then-end-skip c u s = let a = c.args in
    let v = (goal.at.returns-then-end-skip c).After-min-end in
    piece_nothing a.w.disk a.b a.w.lo a.w.hi a.x.now a.memory.now a.image.now c.min-skip.result c.min-end.result (skip v) (end v) u s a.w.reads c.if-end-skip.true

pub returns : goal.returns
returns c u s = let a = c.args in
    let v = (goal.at.returns c).After-min-end in
    c.move_part.ensures u s ∙ this_piece a.w.disk a.b a.w.lo a.w.hi a.x.now a.memory.now a.image.now c.min-skip.result c.min-end.result (skip v) (end v) u s a.w.reads
