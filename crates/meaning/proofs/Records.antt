-- What a step makes of a command's record: one step less remains, and nothing else that the rules look at changes.
use mathlib.Core.Path.{◌≡◌, refl}
use Prim.Native.Nat.{suc, ◌+◌, ◌<◌}
use native.Mathlib.Omega.{arith}
use mathlib.Core.Bool.{true, false}
use borrow.Author.Tests.{leb-true, leb-false, lt-leb, le-ltb}
use Rattle.meaning.specs.Drives.{Drives}
use Rattle.meaning.specs.declared.Record.{Record}
use Rattle.meaning.specs.Command.{steps_of, finished, remaining}
use Rattle.meaning.specs.Touch.{touched, conflict}
use Rattle.meaning.specs.Store.{Store}
use Rattle.meaning.specs.Step.{with_taken, stepped}
use Rattle.meaning.specs.Pick.{bad_transfer, bad_record}

-- ---- finished is: no step remains

pub finished_none : (r : Record) → finished r ≡ true → remaining r ≡ 0
unfolding finished remaining
finished_none r e = omega (arith, leb-true)

pub unfinished_some : (r : Record) → finished r ≡ false → 0 < remaining r
unfolding finished remaining
unfinished_some r e = omega (arith, leb-false)

pub some_unfinished : (r : Record) → 0 < remaining r → finished r ≡ false
unfolding finished remaining
some_unfinished r h = lt-leb (steps_of r) r.taken (omega arith)

-- ---- after a step

pub remaining_stepped : (r : Record) → 0 < remaining r → suc (remaining (stepped r)) ≡ remaining r
unfolding remaining stepped with_taken steps_of
remaining_stepped r h = omega arith

pub conflict_stepped : (r q : Record) → conflict (stepped r) q ≡ conflict r q
unfolding conflict touched stepped with_taken
conflict_stepped r q = refl

pub bad_stepped : (d : Drives) (s : Store) (r : Record) → finished r ≡ false → bad_record d s (stepped r) ≡ bad_record d s r
unfolding bad_record bad_transfer stepped with_taken finished steps_of
bad_stepped d s r e =
    rw (le-ltb (steps_of r) (r.taken + 1) (omega (arith, leb-false)), le-ltb (steps_of r) r.taken (omega (arith, leb-false)))
