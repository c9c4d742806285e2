-- A `&mut` slice is lent as a `&` for the time of a call, and comes back as it was. While the call has it, the holder keeps two things
-- (`Waiting`): its claim on the elements, and its own borrow, opened. `lends_out` is the way there, `comes_home` the way back. A `&` is
-- made with tokens ts of lifetimes that are within the call's and within l, the lifetimes that the elements hold: they come back at once.
use mathlib.Core.Path.{refl}
use Prim.Native.Nat.{ℕ}
use mathlib.Core.List.{List, [], ◌∷◌}
use lib.ListN.{length}
use seplogic.Ra.Ura.{Ura}
use base.Fraction.{full_share}
use mir.Syntax.{Lifetime, static}
use mir.Val.{Val}
use base.Logic.{ent, sep}
use base.Fml.{Lft, GName, Share, Incl, Fml, fsep, flft, fdead, fobs, fauth, fres, flent, fobor}
use ghost.Rules.{Toks, span}
use types.Logic.{Logic, sem, lfts}
use types.Kit.{‵, raw, ◌⊛◌, later, ◌$◌, ◌∵◌, !, qed, by, move, use1, use2, drop, split, fsplit, fjoin, feq_i, await, updating, now as at_once, done}
use types.Tokens.{lent_back}
use types.Share.{arr_parts}
use denote.RattleType.{RattleType}
use denote.Shadow.{pure_l, pure_i}
use denote.Memory.{shares}
use denote.Shares.{Shares}
use denote.Ref.{Bor, MutBor}
use denote.Slice.{slice_val, MutSlice, ShrSlice, heres, mut_slice_at, coded_holeys, finally, res-finally}
use denote.Lend.{Held, lends_shr_slice}
use denote.Index.{opens_slice, closes_slice}

-- elements of type R at place (b, o); the holder has them at κ, with share q and under the name γ, and the call at κ'
module _ (R : RattleType) (κ κ' : Lft) (q : Share) (γ : GName) (b o : ℕ) (xs : List R.Denot) where
  -- the slice as the holder has it, and as the call has it
  abbrev slice : MutBor (List R.Denot)
  slice = record { ref_ptr = (b, o); ghost_name = γ; now = xs }

  abbrev lent_slice : Bor (List R.Denot)
  lent_slice = record { ref_ptr = (b, o); now = xs }

  -- all elements at once, as what is shared out for κ'
  abbrev all : Fml
  all = (arr_parts (shares R) (length xs)).part full_share xs b o

  -- the holder's open borrow, and both halves of its ghost variable
  abbrev mine : Fml
  mine = fsep (fobor κ q (Held R (length xs) b o γ)) (fsep (fobs γ ((coded_holeys R).code (heres R xs))) (fauth γ ((coded_holeys R).code (heres R xs))))

  abbrev pub Waiting : Fml
  Waiting = fsep (flent κ' all) (fsep (mut_slice_at R slice (slice_val (b, o) (length xs) ∷ [])) mine)

  module _ {M : Type 1} {𝓤 : Ura M} (𝓛 : Logic 𝓤) (ℓ ℓ' : Lifetime) where
    open 𝓛 use {H, A}

    abbrev value : List Val
    value = slice_val (b, o) (length xs) ∷ []

    -- what the holder owns, and what the call owns
    abbrev own : Fml
    own = (MutSlice ℓ κ R).own_val slice value

    abbrev handed : Fml
    handed = (ShrSlice ℓ' κ' R).own_val lent_slice value

    pub lends_out : (l : Lft) → Shares 𝓛 R l → (ts : Toks) → Incl (span ts) l → Incl (span ts) κ'
        → ent 𝓤 (sep 𝓤 (sem 𝓛 own) (sep 𝓤 (A.lft κ q) (lfts 𝓛 ts))) (H.⇛ (sep 𝓤 (sem 𝓛 handed) (sep 𝓤 (sem 𝓛 Waiting) (lfts 𝓛 ts))))
    lends_out l shared ts inc sp =
        qed 𝓛 (‵ own ∷ ‵ (flft κ q) ∷ raw (lfts 𝓛 ts) ∷ []) ∵ updating ! $ fsplit ! $ pure_l ! (mut_slice_at R slice value) (λ known. fsplit ! $ opens_slice ! tt R xs b o $
        -- [the elements; the open borrow; obs; auth; the tokens]
        feq_i ! ℕ (length xs) (length xs) refl $ fjoin ! $ move ! (0 ∷ 4 ∷ []) $
        use2 𝓛 (later ((‵ handed ⊛ ‵ (flent κ' all)) ⊛ raw (lfts 𝓛 ts))) (lends_shr_slice 𝓛 R ℓ' κ' full_share xs b o known.1 l shared ts inc sp) $ await ! tt $ split ! $ split ! $
        -- [what the call gets; the claim; the tokens; the open borrow; obs; auth]
        move ! (4 ∷ 5 ∷ []) $ fjoin ! $ move ! (4 ∷ 0 ∷ []) $ fjoin ! $ pure_i ! (mut_slice_at R slice value) (tt, (tt, tt)) known $ fjoin ! $ move ! (2 ∷ 0 ∷ []) $ fjoin ! $
        at_once ! $ move ! (1 ∷ 0 ∷ []) $ done !)

    pub comes_home : ent 𝓤 (sep 𝓤 (A.dead κ') (sem 𝓛 Waiting)) (H.⇛ (sep 𝓤 (sem 𝓛 own) (A.lft κ q)))
    comes_home =
        qed 𝓛 (‵ (fdead κ') ∷ ‵ Waiting ∷ []) ∵ updating ! $ move ! (1 ∷ []) $ fsplit ! $ move ! (1 ∷ []) $ fsplit ! $ move ! (1 ∷ []) $ fsplit ! $ move ! (1 ∷ []) $ fsplit ! $
        -- [obs; auth; the open borrow; the slice's facts; the claim; κ' is over]
        move ! (5 ∷ 4 ∷ []) $ lent_back ! tt $ fsplit ! $ drop ! $
        -- [the elements; obs; auth; the open borrow; the slice's facts]
        move ! (0 ∷ 3 ∷ 1 ∷ 2 ∷ []) $ closes_slice ! tt R xs xs refl b o $ fjoin ! $ move ! (2 ∷ 0 ∷ []) $ fjoin ! $ at_once ! $ done !

-- a `&mut` slice that is given up: its name tells the last list
pub last_list : {M : Type 1} {𝓤 : Ura M} (𝓛 : Logic 𝓤) → (R : RattleType) (γ : GName) (xs : List R.Denot)
    → ent 𝓤 (𝓛.A.obs γ ((coded_holeys R).code (heres R xs))) (sem 𝓛 (finally R γ xs))
last_list 𝓛 R γ xs =
    qed 𝓛 (‵ (fobs γ ((coded_holeys R).code (heres R xs))) ∷ []) ∵ use1 𝓛 (‵ (fres γ ((coded_holeys R).code (heres R xs)))) (𝓛.names.obs-res γ ((coded_holeys R).code (heres R xs))) $
    by ! (res-finally 𝓛 static [] R γ xs)

-- and one that is given up as it came: its last list is what it holds
pub gives_up : {M : Type 1} {𝓤 : Ura M} (𝓛 : Logic 𝓤) → (R : RattleType) (ℓ : Lifetime) (κ : Lft) (x : MutBor (List R.Denot)) (vs : List Val)
    → ent 𝓤 (sem 𝓛 ((MutSlice ℓ κ R).own_val x vs)) (sem 𝓛 (finally R x.ghost_name x.now))
gives_up 𝓛 R ℓ κ x vs =
    qed 𝓛 (‵ ((MutSlice ℓ κ R).own_val x vs) ∷ []) ∵ fsplit ! $ drop ! $ fsplit ! $ move ! (1 ∷ []) $ drop ! $ by ! (last_list 𝓛 R x.ghost_name x.now)
