-- `board::step::move_plain` meets its contract: each sector is moved right behind those before it.
use Rattle.std.proofs.Common.{ℕ, ◌≡◌, ◌*◌}
use Rattle.meaning.specs.Store.{Store, move}
use Rattle.meaning.specs.Sectors.{sector_bytes}
use Rattle.board.specs.OneUnit.{on_unit}
use Rattle.board.specs.Moved.{part_move}
use Rattle.board.proofs.step.move_plain.Given as goal

abbrev pub invariant-loop-k : goal.invariant-loop-k
invariant-loop-k l =
    (u : ℕ) (s : Store) → on_unit u l.memory l.image s ≡ move (part_move u l.reads l.at l.disk (sector_bytes * l.k)) (on_unit u l.initial.memory l.initial.image s)
