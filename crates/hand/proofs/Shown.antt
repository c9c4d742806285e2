-- A `&mut` slice is shown to a call: it is lent as a `&`, for a lifetime that is made for the call and ends with it, and comes back as it
-- was. This is `lends_out`, `calls_meant` and `comes_home`, as one step of a walk. Where the elements hold lifetimes, their meet is l, and
-- tokens of lifetimes within it (us) are had meanwhile (`calls_shown_within`); where they hold none, nothing is asked (`calls_shown`).
use Prim.Native.Nat.{ℕ}
use mathlib.Core.List.{List, [], ◌∷◌, not-mem-nil}
use lib.ListN.{length}
use seplogic.Ra.Ura.{Ura}
use base.Fraction.{full_share}
use mir.Syntax.{Callee, Place, Opd as Operand, Body, named, seq, call}
use mir.Val.{Val}
use base.Logic.{ent, sep, emp, via, id⊢, comm∗, fst∗, emp∗}
use base.Fml.{Lft, Share, Incl, Incl-refl, flft}
use ghost.Rules.{Toks, span}
use prog.Wp.{Env, Calls, Loops}
use types.Logic.{Logic, lfts}
use contract.BorrowLft.{meet_⊑_left, meet_⊑_right}
use contract.Monad.{fact}
use types.Kit.{Item, Post, runs, lands, Seq, ‵, raw, ◌⊛◌, mean, ⋆, later, ◌$◌, move, drop, use1, use2, use3, split, await}
use types.Run.{Opds}
use types.Tokens.{lft_new, lft_end}
use sound.WpLaws.{FmC}
use denote.RattleType.{RattleType}
use denote.Laws.{Is}
use denote.Ref.{Bor, MutBor}
use denote.Shares.{Shares}
use denote.Signature.{type_at}
use denote.Slice.{slice_val, MutSlice, ShrSlice}
use denote.Triple.Entry.{Res}
use denote.Triple.Statement.{Triple}
use denote.Triple.Clauses.{Ended, Clauses, Lasts, at_exit}
use Rattle.hand.proofs.Calls.{Meant, tokens, calls_meant}
use Rattle.hand.proofs.Lending.{Waiting, lends_out, comes_home}

-- one token more: the meet of its lifetime and the others' is within it, and within what theirs is within
module _ (κ : Lft) (q : Share) where
  within_it : (us : Toks) → Incl (span ((κ, q) ∷ us)) κ
  within_it [] = Incl-refl κ
  within_it (u ∷ us) = meet_⊑_left κ (span (u ∷ us))

  within_theirs : (us : Toks) (l : Lft) → Incl (span us) l → Incl (span ((κ, q) ∷ us)) l
  within_theirs [] l h a m = absurd (not-mem-nil (h a m))
  within_theirs (u ∷ us) l h a m = meet_⊑_right κ (span (u ∷ us)) a (h a m)

  module _ {M : Type 1} {𝓤 : Ura M} (𝓛 : Logic 𝓤) where
    open 𝓛 use {A}

    one_more : (us : Toks) → ent 𝓤 (sep 𝓤 (A.lft κ q) (lfts 𝓛 us)) (lfts 𝓛 ((κ, q) ∷ us))
    one_more [] = fst∗ 𝓤 (A.lft κ q) (emp 𝓤)
    one_more (u ∷ us) = id⊢ 𝓤 _

    one_less : (us : Toks) → ent 𝓤 (lfts 𝓛 ((κ, q) ∷ us)) (sep 𝓤 (A.lft κ q) (lfts 𝓛 us))
    one_less [] = via 𝓤 (sep 𝓤 (emp 𝓤) (A.lft κ q)) (emp∗ 𝓤 (A.lft κ q)) (comm∗ 𝓤 (emp 𝓤) (A.lft κ q))
    one_less (u ∷ us) = id⊢ 𝓤 _

module _ (R : RattleType) (κ : Lft) (q : Share) (t : MutBor (List R.Denot)) where
  abbrev value : List Val
  value = slice_val t.ref_ptr (length t.now) ∷ []

  -- the slice as the call has it
  abbrev pub shown : Bor (List R.Denot)
  shown = record { ref_ptr = (t.ref_ptr.0, t.ref_ptr.1); now = t.now }

  module _ {M : Type 1} {𝓤 : Ura M} where
    -- at the lifetime ν
    abbrev pub Shown : ℕ → Item 𝓤
    Shown ν = ‵ ((ShrSlice (named 0) (ν ∷ []) R).own_val shown value)

    -- what its holder keeps meanwhile
    abbrev pub Kept : ℕ → Item 𝓤
    Kept ν = ‵ (Waiting R κ (ν ∷ []) q t.ghost_name t.ref_ptr.0 t.ref_ptr.1 t.now)

  module _ {M : Type 1} {𝓤 : Ura M} {𝓛 : Logic 𝓤} {K : Type 0} {Γ : List (Item 𝓤)} {C : Calls 𝓤 𝓛.H} {Λ : Loops 𝓤 𝓛.H} {E : Env 𝓤 𝓛.H} {g : Callee} {xs : List Operand} {d : Place} {rest : Body} {Q : Post 𝓤 𝓛.H} where
    -- The call binds y, and its lifetime's token comes back among its tokens, as `λ ν. fst∗ 𝓤 _ (emp 𝓤)` shows; all else is as in `calls_meant`.
    open 𝓛 use {H, A}

    pub calls_shown_within : K → (l : Lft) → Shares 𝓛 R l → (us : Toks) → Incl (span us) l → FmC 𝓤 H 𝓛.laws C → (T : Ended) (c : Clauses 𝓤 T) → Triple 𝓤 (C g) (Meant 𝓛 T c) → (y : ℕ → (Meant 𝓛 T c).Ghost)
        → ((ν : ℕ) → ent 𝓤 (⋆ 𝓛 (‵ (flft (ν ∷ []) full_share) ∷ Shown ν ∷ [])) ((Meant 𝓛 T c).pre (y ν)))
        → ((ν : ℕ) → ent 𝓤 (mean 𝓛 (tokens T.signature.lifetimes (y ν).0.0 (y ν).0.1)) (A.lft (ν ∷ []) full_share))
        → (Φ : (ν : ℕ) → Res T.signature (y ν).0.0 → Lasts T (y ν).0.0 (y ν).0.3 → Type 0)
        → ((ν : ℕ) (r : Res T.signature (y ν).0.0) (ws : Lasts T (y ν).0.0 (y ν).0.3) → ent 𝓤 ((c (y ν).0.0 (y ν).0.3).ensures (y ν).1 r (at_exit T (y ν).0.0 (y ν).0.3 ws)) (fact 𝓤 (Φ ν r ws)))
        → ((ν : ℕ) → Opds K 𝓛 (raw ((Meant 𝓛 T c).pre (y ν)) ∷ Kept ν ∷ raw (lfts 𝓛 us) ∷ Γ) E xs ((Meant 𝓛 T c).args (y ν)))
        → ((ν : ℕ) (v : Val) (r : Res T.signature (y ν).0.0) (ws : Lasts T (y ν).0.0 (y ν).0.3) → Φ ν r ws → Is (type_at T.signature.result (y ν).0.0) r (v ∷ [])
        → Seq K 𝓛 (‵ ((MutSlice (named 0) κ R).own_val t value) ∷ ‵ (flft κ q) ∷ raw (lfts 𝓛 us) ∷ Γ) (lands C Λ E d v rest Q))
        → Seq K 𝓛 (‵ ((MutSlice (named 0) κ R).own_val t value) ∷ ‵ (flft κ q) ∷ raw (lfts 𝓛 us) ∷ Γ) (runs C Λ E (seq (call g xs d) rest) Q)
    calls_shown_within s l shared us inc fm T c known y asks back Φ says os k =
        lft_new s tt (λ ν. let ts : Toks = (ν ∷ [], full_share) ∷ us in
        move s (0 ∷ 3 ∷ []) $ use2 𝓛 (raw (lfts 𝓛 ts)) (one_more (ν ∷ []) full_share 𝓛 us) $ move s (1 ∷ 2 ∷ 0 ∷ []) $
        use3 𝓛 (later (Shown ν ⊛ (Kept ν ⊛ raw (lfts 𝓛 ts)))) (lends_out R κ (ν ∷ []) q t.ghost_name t.ref_ptr.0 t.ref_ptr.1 t.now 𝓛 (named 0) (named 0) l shared ts (within_theirs (ν ∷ []) full_share us l inc) (within_it (ν ∷ []) full_share us)) $ await s tt $ split s $ move s (1 ∷ []) $ split s $
        move s (1 ∷ []) $ use1 𝓛 (‵ (flft (ν ∷ []) full_share) ⊛ raw (lfts 𝓛 us)) (one_less (ν ∷ []) full_share 𝓛 us) $ split s $
        -- [the lifetime's token; the other tokens; what is kept; the slice as the call has it]
        move s (0 ∷ 3 ∷ 2 ∷ 1 ∷ []) $ use2 𝓛 (raw ((Meant 𝓛 T c).pre (y ν))) (asks ν) $
        calls_meant s fm T c known (y ν) (Φ ν) (says ν) (os ν) (λ v r ws e is.
        -- [the answer; its tokens; what is said of last values; what is kept; the other tokens]
        drop s $ use1 𝓛 (‵ (flft (ν ∷ []) full_share)) (back ν) $ move s (1 ∷ []) $ drop s $
        lft_end s tt $ use2 𝓛 (later (‵ ((MutSlice (named 0) κ R).own_val t value) ⊛ ‵ (flft κ q))) (comes_home R κ (ν ∷ []) q t.ghost_name t.ref_ptr.0 t.ref_ptr.1 t.now 𝓛 (named 0) (named 0)) $ await s tt $ split s $
        k ν v r ws e is))

    pub calls_shown : K → Shares 𝓛 R [] → FmC 𝓤 H 𝓛.laws C → (T : Ended) (c : Clauses 𝓤 T) → Triple 𝓤 (C g) (Meant 𝓛 T c) → (y : ℕ → (Meant 𝓛 T c).Ghost)
        → ((ν : ℕ) → ent 𝓤 (⋆ 𝓛 (‵ (flft (ν ∷ []) full_share) ∷ Shown ν ∷ [])) ((Meant 𝓛 T c).pre (y ν)))
        → ((ν : ℕ) → ent 𝓤 (mean 𝓛 (tokens T.signature.lifetimes (y ν).0.0 (y ν).0.1)) (A.lft (ν ∷ []) full_share))
        → (Φ : (ν : ℕ) → Res T.signature (y ν).0.0 → Lasts T (y ν).0.0 (y ν).0.3 → Type 0)
        → ((ν : ℕ) (r : Res T.signature (y ν).0.0) (ws : Lasts T (y ν).0.0 (y ν).0.3) → ent 𝓤 ((c (y ν).0.0 (y ν).0.3).ensures (y ν).1 r (at_exit T (y ν).0.0 (y ν).0.3 ws)) (fact 𝓤 (Φ ν r ws)))
        → ((ν : ℕ) → Opds K 𝓛 (raw ((Meant 𝓛 T c).pre (y ν)) ∷ Kept ν ∷ Γ) E xs ((Meant 𝓛 T c).args (y ν)))
        → ((ν : ℕ) (v : Val) (r : Res T.signature (y ν).0.0) (ws : Lasts T (y ν).0.0 (y ν).0.3) → Φ ν r ws → Is (type_at T.signature.result (y ν).0.0) r (v ∷ [])
        → Seq K 𝓛 (‵ ((MutSlice (named 0) κ R).own_val t value) ∷ ‵ (flft κ q) ∷ Γ) (lands C Λ E d v rest Q))
        → Seq K 𝓛 (‵ ((MutSlice (named 0) κ R).own_val t value) ∷ ‵ (flft κ q) ∷ Γ) (runs C Λ E (seq (call g xs d) rest) Q)
    calls_shown s shared fm T c known y asks back Φ says os k =
        lft_new s tt (λ ν. move s (1 ∷ 2 ∷ 0 ∷ []) $
        use3 𝓛 (later (Shown ν ⊛ (Kept ν ⊛ ‵ (flft (ν ∷ []) full_share)))) (lends_out R κ (ν ∷ []) q t.ghost_name t.ref_ptr.0 t.ref_ptr.1 t.now 𝓛 (named 0) (named 0) [] shared ((ν ∷ [], full_share) ∷ []) (within_theirs (ν ∷ []) full_share [] [] (Incl-refl [])) (Incl-refl (ν ∷ []))) $ await s tt $ split s $ move s (1 ∷ []) $ split s $
        -- [what is kept; the lifetime's token; the slice as the call has it]
        move s (1 ∷ 2 ∷ []) $ use2 𝓛 (raw ((Meant 𝓛 T c).pre (y ν))) (asks ν) $
        calls_meant s fm T c known (y ν) (Φ ν) (says ν) (os ν) (λ v r ws e is.
        -- [the answer; its tokens; what is said of last values; what is kept]
        drop s $ use1 𝓛 (‵ (flft (ν ∷ []) full_share)) (back ν) $ move s (1 ∷ []) $ drop s $
        lft_end s tt $ use2 𝓛 (later (‵ ((MutSlice (named 0) κ R).own_val t value) ⊛ ‵ (flft κ q))) (comes_home R κ (ν ∷ []) q t.ghost_name t.ref_ptr.0 t.ref_ptr.1 t.now 𝓛 (named 0) (named 0)) $ await s tt $ split s $
        k ν v r ws e is))
