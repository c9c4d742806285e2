-- One unit's image beneath all others: what the steps of a command are about. The functions that move sectors have memory and the image of
-- one unit, and say what they do whatever else a store holds.
use Rattle.std.specs.Prelude.{ℕ, cond, List, eqb}
use Rattle.meaning.specs.Store.{memory, disk, Store}

-- a store in which memory is m and the disk of unit u is i; every other disk is as in s
abbrev pub on_unit : ℕ → List ℕ → List ℕ → Store → Store
on_unit u m i s memory = m
on_unit u m i s (disk v) = cond (eqb v u) i (s (disk v))
