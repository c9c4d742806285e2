-- What is lent is all that there is: a store that is as long, in every space, as one of lent memory and images is known by memory and the
-- four images.
use mathlib.Core.Path.{◌≡◌, refl, sym, fun_ext}
use Prim.Native.Nat.{ℕ, zero, suc}
use mathlib.Core.List.{List}
use Rattle.std.proofs.lemmas.List.{nil_from_length}
use Rattle.meaning.specs.Store.{Space, memory, disk, Store, lent, images}
use Rattle.meaning.specs.State.{State, state_of}
use Rattle.meaning.proofs.Spaces.{AsLong}

-- the four images of a store
abbrev pub images_in : Store → List (List ℕ)
images_in s = images (s (disk 0)) (s (disk 1)) (s (disk 2)) (s (disk 3))

module _ (m i₀ i₁ i₂ i₃ : List ℕ) where
  pub lent_again : (s : Store) → AsLong s (lent m (images i₀ i₁ i₂ i₃)) → lent (s memory) (images_in s) ≡ s
  lent_again s h = fun_ext go
    where
      go : (p : Space) → lent (s memory) (images_in s) p ≡ s p
      go memory = refl
      go (disk zero) = refl
      go (disk (suc zero)) = refl
      go (disk (suc (suc zero))) = refl
      go (disk (suc (suc (suc zero)))) = refl
      go (disk (suc (suc (suc (suc u))))) = let p = disk (suc (suc (suc (suc u)))) in sym (nil_from_length (s p) (h p))

  -- so a state after a call is the one of the memory, images and table that the call leaves
  pub state_again : (s : State) → AsLong s.store (lent m (images i₀ i₁ i₂ i₃)) → state_of (s.store memory) (images_in s.store) s.table ≡ s
  state_again s h = λ j. record { table = s.table; store = lent_again s.store h j }
