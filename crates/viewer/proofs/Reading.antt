-- A function that takes a viewer apart and calls a covered function on its memory and address gives what that function gives.
-- Such code is `code` at its width and callee, so one walk, by hand, serves all. A viewer is Copy: its ownership is duplicated,
-- one copy is kept whole for the exit, and of the other what the memory owns goes to the callee. The checker proves the fields' functions
-- itself: this is the same of any function with that code.
use mathlib.Core.Path.{◌≡◌, refl}
use Prim.Native.Nat.{ℕ}
use mathlib.Core.List.{List, [], ◌∷◌}
use lib.Dec.{T as Holds}
use seplogic.Ra.Ura.{Ura}
use mir.Syntax.{Width, Callee, Fn, local, value_local, ty_int, ty_ref, erased, imm, named, w8, w32, seq, assign, call, return, place, field, rv_opd, copy}
use mir.Val.{Val, WT, has_ty}
use base.Logic.{SProp, ent, emp, via, fst∗}
use base.Fml.{Lft, Share, Fml}
use prog.Routine.{Routine, Env}
use prog.Wp.{Calls, Loops, WpFn, Closed}
use prog.Model.{Model}
use types.Logic.{Logic}
use contract.Lifetimes.{Lfts}
use contract.Monad.{fact}
use contract.Running.{Running, tables, tables_of}
use types.Kit.{‵, raw, ◌⊛◌, given, ⋆, ◌$◌, ◌∵◌, !, qed, by, move, drop, use1, split, split3, learn, fsplit, fjoin, suffices, frame, done}
use types.Part.{whole, sub, look_in}
use types.Run.{look, init, stop, fld, from, load, of_opd, and_then, no_more, assigns, land, returns, params1, pass1, pass0}
use sound.WpLaws.{FmC, fm_of}
use denote.RattleType.{RattleType, owns}
use denote.Plain.{UInt, uint_Lawful}
use denote.Signature.{Signature, plain, named_lft}
use denote.Slice.{slice_ty}
use denote.Steps.{nothing}
use denote.Struct.Declared.{Declared}
use denote.Struct.Laws as LL
use denote.Struct.Rest.{all_own, field_own, rest, own_open, own_out}
use denote.Struct.Values.{Values}
use denote.Triple.Statement.{Contract, Triple}
use denote.Triple.Entry.{on_entry}
use denote.Triple.Table.{cited}
use denote.Triple.Walked.{says, Stays, stay_none, walk_of, Goes-none, ends_at}
use denote.Triple.Clauses.{Ended, Clauses}
use denote.Exit.{yes}
use Rattle.hand.proofs.Frame.{at, enters_all, frees_all}
use Rattle.hand.proofs.Calls.{Meant}
use Rattle.hand.proofs.Contracts.{by_hand}
use Rattle.viewer.specs.declared.Viewer.{Viewer}
use Rattle.viewer.specs.contracts.Viewer as T
use Rattle.viewer.proofs.Viewer.TheLaws as T'
use Rattle.viewer.proofs.Callee as callee
use Rattle.viewer.proofs.Callee.{number, gives, token}

-- the viewer's type, over the signature's lifetimes
abbrev pub B : Lfts 1 → RattleType
B κs = T.the_row (named_lft 1 0 tt κs)

abbrev signature : Width → Signature
signature w = record { lifetimes = 1; outlives = []; params = plain B ∷ []; result = plain (λ κs. UInt w) }

abbrev ended : Width → Ended
ended w = record { signature = signature w; kept = (yes, tt) }

abbrev stayed : (w : Width) → Stays (ended w).signature.params (ended w).kept
stayed w = (stay_none B yes, tt)

-- the code: the viewer's memory and address are copied, and the function g is called on them
abbrev code : Width → Callee → Fn
code w g = record {
  lifetimes = 1;
  outlives = [];
  ty_params = [];
  givens = 0;
  params = 1;
  locals = local (ty_int w) value_local
      ∷ local (T'.mir (named 0)) value_local
      ∷ local (slice_ty (ty_ref erased imm (ty_int w8))) value_local
      ∷ local (ty_int w32) value_local
      ∷ [];
  body = seq (assign (place 2 []) (rv_opd (copy (place 1 (field 0 ∷ [])))))
      (seq (assign (place 3 []) (rv_opd (copy (place 1 (field 1 ∷ [])))))
      (seq (call g (copy (place 2 []) ∷ copy (place 3 []) ∷ []) (place 0 []))
      return));
}

-- where its locals stand behind k other entries
abbrev pos : ℕ → ℕ → ℕ
pos k j = at 4 k j

module _ {M : Type 1} {𝓤 : Ura M} (𝓛 : Logic 𝓤) (w : Width) (f : List ℕ → ℕ → ℕ) where
  abbrev clauses : Clauses 𝓤 (ended w)
  clauses κs a = record { ghost = Unit {0}; requires = λ _. emp 𝓤; ensures = λ _ r _. fact 𝓤 (r ≡ f a.0.memory.now a.0.at) }

module _ {M : Type 1} {𝓤 : Ura M} (𝓛 : Logic 𝓤) (w : Width) (f : List ℕ → ℕ → ℕ) (κ : Lft) (q : Share) (d : Viewer) where
  open 𝓛 use {H}

  -- the viewer's type and laws, its machine value, and its fields' values
  abbrev D : Declared
  D = T.the_type (named_lft 1 0 tt (κ, tt))

  abbrev L : LL.Laws D
  L = T'.the_laws (named_lft 1 0 tt (κ, tt))

  abbrev mach : Val
  mach = LL.val D L d

  abbrev Post : Val → SProp 𝓤
  Post = (walk_of 𝓛 (ended w) (stayed w) (clauses 𝓛 w f)).post (((κ, tt), (q, tt), tt, (d, tt), (mach ∷ [], tt)), tt)

  abbrev Own : Fml
  Own = (B (κ, tt)).own_val d (mach ∷ [])

  abbrev Entry : SProp 𝓤
  Entry = on_entry 𝓛 (signature w) (κ, tt) (q, tt) (d, tt) (mach ∷ [], tt)

  abbrev vd : Values D.parts
  vd = (d.memory, (d.at, (d.made, tt)))

  abbrev Called : Contract 𝓤
  Called = callee.Meant 𝓛 (number w) (gives w f)

  -- what the viewer owns gives what its memory owns, and is kept
  apart : ent 𝓤 Entry (⋆ 𝓛 (‵ (field_own D.parts L 0 d.memory) ∷ token 𝓤 κ q ∷ ‵ Own ∷ []))
  apart =
      qed 𝓛 (token 𝓤 κ q ∷ ‵ (owns (B (κ, tt) ∷ []) (d, tt) (mach ∷ [], tt)) ∷ []) ∵
      move ! (1 ∷ []) $ fsplit ! $ move ! (1 ∷ []) $ drop ! $ use1 𝓛 (‵ Own ⊛ ‵ Own) ((LL.copy D (T'.the_copy (named_lft 1 0 tt (κ, tt))) 𝓛).twice d (mach ∷ [])) $ split ! $
      use1 𝓛 (given (mach ∷ [] ≡ mach ∷ []) (‵ (all_own D.parts L vd))) (own_open 𝓛 D L vd mach) $ learn ! (λ _. use1 𝓛 (‵ (field_own D.parts L 0 d.memory) ⊛ ‵ (rest D.parts L 0 vd)) (own_out 𝓛 D.parts L 0 vd) $ split ! $
      -- [what the memory owns; what the others own; what the viewer owns; the token]
      move ! (1 ∷ []) $ drop ! $ move ! (0 ∷ 2 ∷ []) $ frame ! $ frame ! $ done !)

  exits : (r : ℕ) (u : Val) → r ≡ f d.memory.now d.at → ent 𝓤 (⋆ 𝓛 (‵ ((UInt w).own_val r (u ∷ [])) ∷ token 𝓤 κ q ∷ ‵ Own ∷ [])) (Post u)
  exits r u e =
      qed 𝓛 (‵ ((UInt w).own_val r (u ∷ [])) ∷ token 𝓤 κ q ∷ ‵ Own ∷ []) ∵
      suffices ! _ (ends_at 𝓛 (ended w) (stayed w) (clauses 𝓛 w f) (((κ, tt), (q, tt), tt, (d, tt), (mach ∷ [], tt)), tt) u r (tt, tt) (tt, tt)) $ says ! e $
      move ! (1 ∷ []) $ frame ! $ nothing ! $ move ! (2 ∷ 0 ∷ []) $ fjoin ! $ frame ! $ done !

  module _ (C : Calls 𝓤 H) (Λ : Loops 𝓤 H) (fm : FmC 𝓤 H 𝓛.laws C) (g : Callee) (known : Triple 𝓤 (C g) Called) where
    walk : Holds (has_ty (T'.mir (named 0)) mach) × WT mach → ent 𝓤 Entry (WpFn 𝓤 H C Λ (code w g) (mach ∷ []) Post)
    walk wt =
        qed 𝓛 (raw Entry ∷ []) ∵ enters_all ! C Λ (code w g) (mach ∷ []) Post (raw Entry ∷ []) (λ b. params1 ! $ pass1 ! (init ! (pos 0 1) refl wt) $ pass0 ! $
        assigns ! (of_opd ! (load ! (from ! (fld ! refl (stop !))) (look_in ! (pos 0 1) (sub ! 0 refl (whole !))))) (from ! (stop !)) (init ! (pos 0 2) refl (tt, wt.1.0)) $
        assigns ! (of_opd ! (load ! (from ! (fld ! refl (stop !))) (look_in ! (pos 0 1) (sub ! 1 refl (whole !))))) (from ! (stop !)) (init ! (pos 0 3) refl (tt, wt.1.1.0)) $
        move ! (8 ∷ []) $ use1 𝓛 (‵ (field_own D.parts L 0 d.memory) ⊛ token 𝓤 κ q ⊛ ‵ Own) apart $ split3 ! $ move ! (0 ∷ 1 ∷ []) $
        callee.calls 𝓛 (number w) (gives w f) κ q d.memory d.at ! fm known wt.1.1.0.fits (and_then ! (load ! (from ! (stop !)) (look ! (pos 3 2) refl)) (and_then ! (load ! (from ! (stop !)) (look ! (pos 3 3) refl)) (no_more !))) (λ u r e is. move ! (2 ∷ []) $ drop ! $
        -- [the result; the token; what the viewer owns; the locals]
        land ! (from ! (stop !)) (init ! (pos 3 0) refl ((uint_Lawful 𝓛 w).typed r _ is).0) $ returns ! (look ! (pos 3 0) refl) $ frees_all ! 3 refl $ by ! (exits r u e)))

-- the same of the function's own routine, k in its environment γ, where the callee's routine meets its contract
pub shows_field : {M : Type 1} {𝓤 : Ura M} (𝓛 : Logic 𝓤) (𝓜 : Model 𝓤 𝓛.H) (𝓡 : Running 𝓤 𝓛.H 𝓜) (w : Width) (f : List ℕ → ℕ → ℕ) (γ : Env) (k g : Callee) (callee-routine : Routine)
    → Closed 𝓤 𝓛.H (tables 𝓤 𝓛.H 𝓜 𝓡 γ).C (tables 𝓤 𝓛.H 𝓜 𝓡 γ).Λ k (code w g)
    → γ g ≡ callee-routine
    → Triple 𝓤 (𝓡.run callee-routine) (callee.Meant 𝓛 (number w) (gives w f))
    → Triple 𝓤 (𝓡.run (γ k)) (Meant 𝓛 (ended w) (clauses 𝓛 w f))
unfolding tables_of
shows_field {𝓤 = 𝓤} 𝓛 𝓜 𝓡 w f γ k g r unfolded calls met =
    let 𝓣 = tables_of 𝓤 𝓛.H 𝓜 (tables 𝓤 𝓛.H 𝓜 𝓡 γ) in
    by_hand 𝓛 𝓜 𝓡 (ended w) (clauses 𝓛 w f) (stayed w) (Goes-none 𝓛 1 B yes (λ κs x h. refl), tt)
    (λ κs. (LL.vals (T.the_type (named_lft 1 0 tt κs)) (T'.the_laws (named_lft 1 0 tt κs)), tt)) (λ κs. (LL.tells (T.the_type (named_lft 1 0 tt κs)) (T'.the_laws (named_lft 1 0 tt κs)), tt)) γ k (code w g) unfolded
    (λ κs qs bounds a _ are. via 𝓤 _ (fst∗ 𝓤 _ (emp 𝓤)) (walk 𝓛 w f κs.0 qs.0 a.0 𝓣.C 𝓣.Λ (fm_of 𝓤 𝓛.H 𝓛.laws 𝓣) g
    (cited 𝓤 𝓛.H (callee.Meant 𝓛 (number w) (gives w f)) 𝓜 𝓡 γ g r calls met)
    ((LL.lawful (T.the_type (named_lft 1 0 tt κs)) (T'.the_laws (named_lft 1 0 tt κs)) 𝓛).typed a.0 _ are.0).0))
