-- What a viewer keeps is chosen by whether its number is 0.
use mathlib.Core.Path.{refl}
use Prim.Native.Nat.{ℕ}
use mathlib.Core.List.{List}
use Rattle.meaning.specs.View.{made_number}
use Rattle.meaning.proofs.Means.{is_true, is_false, means_eq}
use Rattle.promises.specs.Views.{ViewKeeps}

pub view_keeps : (m : List ℕ) (a : ℕ) → ViewKeeps m a
view_keeps m a =
    record {
      number = refl;
      memory = λ e. rw (is_true (means_eq (made_number m a) 0) e);
      address = λ e. rw (is_true (means_eq (made_number m a) 0) e);
      no_memory = λ e. rw (is_false (means_eq (made_number m a) 0) e);
      no_address = λ e. rw (is_false (means_eq (made_number m a) 0) e);
    }
