-- A local array, whole and element by element: written whole it is read and written at a place, and filled so it is read whole.
-- `Element` is what is known of the elements' type R, which is plain data.
use mathlib.Core.Path.{◌≡◌, refl}
use Prim.Native.Nat.{ℕ}
use mathlib.Core.List.{List, [], ◌∷◌}
use lib.ListN.{length}
use seplogic.Ra.Ura.{Ura}
use base.Fraction.{full_share}
use mir.Syntax.{Ty, ty_array}
use mir.Val.{Val}
use base.Logic.{ent, sep}
use base.Fml.{fsep, fat}
use types.Logic.{Logic, sem}
use types.Kit.{‵, ◌$◌, ◌∵◌, !, qed, move, drop as discard, use1, rewrite, fsplit, fjoin, fpick, fpack, feq_i, done}
use types.Share.{arr_parts}
use denote.RattleType.{RattleType}
use denote.Laws.{Is, Tells, Makes, Lawful, shows}
use denote.Memory.{part_of, part_at, cell_at, lone, shares}
use denote.Array.{Array, array_vals, Array-Tells, Array-Lawful, Array-Makes}
use denote.ArrayMemory.{Single, Array-apart, Array-whole}
use denote.Index.{row}
use denote.Steps.{only, owned, peeks}

pub record Element (R : RattleType) : Type 2 where
  -- a value's machine values, and that the type's relation tells them
  pub vals : R.Denot → List Val
  pub tells : Tells R (Is R) vals
  pub single : Single R.mir
  pub lawful : {M : Type 1} {𝓤 : Ura M} (𝓛 : Logic 𝓤) → Lawful 𝓛 R
  pub makes : {M : Type 1} {𝓤 : Ura M} (𝓛 : Logic 𝓤) → Makes 𝓛 R (Is R)

module _ {R : RattleType} (e : Element R) (c : ℕ) where
  abbrev pub array_ty : Ty
  array_ty = ty_array (lone R.mir) c

  -- the machine value of an array
  abbrev pub mach : List R.Denot → Val
  mach xs = only (array_vals e.vals xs)

  pub tells : (xs : List R.Denot) (vs : List Val) → Is (Array R c) xs vs → vs ≡ mach xs ∷ []
  tells xs vs is = Array-Tells R e.vals e.tells c xs vs is

  module _ {M : Type 1} {𝓤 : Ura M} (𝓛 : Logic 𝓤) where
    pub lawful : Lawful 𝓛 (Array R c)
    lawful = Array-Lawful 𝓛 R (e.lawful 𝓛) c

    pub makes : Makes 𝓛 (Array R c) (Is (Array R c))
    makes = Array-Makes 𝓛 R (e.makes 𝓛) c

    module _ (l : ℕ) (xs : List R.Denot) where
      pub apart : (v : Val) → Is (Array R c) xs (v ∷ []) → ent 𝓤 (sem 𝓛 (fat full_share array_ty l 0 v)) (sem 𝓛 (row R full_share xs l 0))
      unfolding part_of
      apart v is =
          qed 𝓛 (‵ (fat full_share array_ty l 0 v) ∷ []) ∵ use1 𝓛 (‵ (cell_at full_share (array_ty ∷ []) (v ∷ []) l 0)) (𝓛.laws.at_raw full_share array_ty l 0 v) $
          owned ! (Array R c) (Is (Array R c)) makes xs (v ∷ []) is $ move ! (1 ∷ 0 ∷ []) $ fjoin ! $
          fpack ! (List Val) (λ vs. fsep (cell_at full_share (array_ty ∷ []) vs l 0) ((Array R c).own_val xs vs)) (v ∷ []) $
          use1 𝓛 (‵ ((arr_parts (shares R) c).part full_share xs l 0)) (Array-apart 𝓛 R full_share e.single c xs l 0) $ fsplit ! $ discard ! $ done !

      -- whole again, it is known to be an array of these elements
      pub whole : length xs ≡ c → ent 𝓤 (sem 𝓛 (row R full_share xs l 0)) (sep 𝓤 (sem 𝓛 (fat full_share array_ty l 0 (mach xs))) (sem 𝓛 ((Array R c).own_val xs (mach xs ∷ []))))
      unfolding part_of
      whole long =
          qed 𝓛 (‵ (row R full_share xs l 0) ∷ []) ∵ feq_i ! ℕ (length xs) c long $ fjoin ! $ use1 𝓛 (‵ (part_at (Array R c) full_share xs l 0)) (Array-whole 𝓛 R full_share c xs l 0) $
          fpick ! (λ vs. fsplit ! $ move ! (1 ∷ []) $ peeks ! (Array R c) (Is (Array R c)) (shows 𝓛 (Array R c)) xs vs (λ is.
          rewrite ! 0 (λ (us : List Val). ‵ ((Array R c).own_val xs us)) (tells xs vs is) refl $ rewrite ! 1 (λ (us : List Val). ‵ (cell_at full_share (array_ty ∷ []) us l 0)) (tells xs vs is) refl $
          move ! (1 ∷ []) $ use1 𝓛 (‵ (fat full_share array_ty l 0 (mach xs))) (𝓛.laws.raw_at full_share array_ty l 0 (mach xs)) $ done !))
