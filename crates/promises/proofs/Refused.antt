-- A refusal leaves everything as it was: a reply is chosen by whether its number is 0, and the other choice is what was given.
use mathlib.Core.Path.{◌≡◌, refl}
use mathlib.Core.Logic.{◌≢◌}
use mathlib.Core.List.{List}
use borrow.Author.Tests.{ne_eqb}
use Rattle.meaning.specs.declared.Record.{Record}
use Rattle.meaning.specs.Walk.{Chain, refused, accepted, chain_at, answered, filled, walk_reply, walk_leaves, WalkGives}
use Rattle.meaning.specs.Pick.{pick_number, picked, PickGives}
use Rattle.meaning.specs.Run.{run_number, ran_to, run_reply, RunGives}
use Rattle.promises.specs.Refused.{RefusedChangesNothing}

refused_chain : (c : Chain) (t : List Record) → (answered c).number ≢ 0 → (filled c t ≡ t) × ((answered c).commands ≡ 0)
refused_chain (refused N) t n = (refl, refl)
refused_chain (accepted rs) t n = absurd (n refl)

pub refused_changes_nothing : RefusedChangesNothing
unfolding WalkGives walk_reply walk_leaves PickGives picked RunGives run_reply ran_to
refused_changes_nothing =
    record {
      walk = λ d start s w t' g z. rw (g.0, g.1) (refused_chain (chain_at d start s) s.table (rw g.0 at z));
      pick = λ d n p s k s' g z. rw (g.1, ne_eqb (pick_number d n p s) 0 (rw g.0 at z));
      run = λ d n go s r s' g z.
          rw (g.0, g.1, ne_eqb (run_number d n s) 0 (rw g.0 at z)) (record { unchanged = refl; steps = refl; refused = refl; finished = refl });
    }
