-- A covered function that takes a slice and an address, as a walk by hand calls it: what it asks is what its arguments' types own, and
-- what it answers, of the type ρ, meets the claim of its contract. Every field of `iopb` is such a function, and so are the three that
-- give the parts of a viewer's making.
use mathlib.Core.Path.{◌≡◌, refl}
use Prim.Native.Nat.{ℕ, ◌<◌, ◌^◌}
use mathlib.Core.List.{List, [], ◌∷◌}
use lib.ListN.{length}
use seplogic.Ra.Ura.{Ura}
use mir.Syntax.{Width, Callee, Place, Opd as Operand, Body, seq, call, named, w8, w32}
use mir.Val.{Val, vint}
use base.Logic.{ent, sep, emp, id⊢}
use base.Fml.{Lft, Share, Fml}
use prog.Wp.{Env, Calls, Loops}
use types.Logic.{Logic, sem}
use contract.Lifetimes.{Lfts}
use contract.Monad.{fact}
use types.Kit.{Item, Post, runs, lands, Seq, ‵, raw, ◌⊛◌, ⋆, ◌$◌, ◌∵◌, !, qed, move, drop, use1, use2, split, join, fjoin, frame, done}
use types.Run.{Opds}
use sound.WpLaws.{FmC}
use denote.Laws.{Is}
use denote.Plain.{UInt, uint_Makes, uint_row_laws}
use denote.Builtin.{u8, u32, SliceRefOf}
use denote.Ref.{Bor}
use denote.Signature.{Signature, Slot, plain, type_at}
use denote.Slice.{slice_val, ShrSlice, shr_slice_copy}
use denote.Steps.{owned, nothing}
use denote.Triple.Statement.{Contract, Triple}
use denote.Triple.Entry.{Vals}
use denote.Triple.Clauses.{Ended, Clauses}
use denote.Exit.{yes}
use Rattle.hand.proofs.Calls as hand
use Rattle.hand.proofs.Calls.{tokens, calls_meant}

-- the machine value of a slice
abbrev pub slice_of : Bor (List ℕ) → Val
slice_of s = slice_val s.ref_ptr (length s.now)

-- what is said of an answer of the type ρ to a slice and an address
abbrev pub Claim : Slot 1 → Type 1
Claim ρ = (κs : Lfts 1) → Bor (List ℕ) → ℕ → (type_at ρ κs).Denot → Type 0

-- a number of the width w, and that it is f of the slice and the address
abbrev pub number : Width → Slot 1
number w = plain (λ κs. UInt w)

abbrev pub gives : (w : Width) → (List ℕ → ℕ → ℕ) → Claim (number w)
gives w f κs s n r = r ≡ f s.now n

module _ (ρ : Slot 1) where
  abbrev pub signature : Signature
  signature = record {
    lifetimes = 1;
    outlives = [];
    params = SliceRefOf (0 ∷ []) tt (plain (λ κs. u8)) (λ κs. tt) ∷ plain (λ κs. u32) ∷ [];
    result = ρ;
  }

  abbrev pub ended : Ended
  ended = record { signature = signature; kept = (yes, (yes, tt)) }

  abbrev pub passed : (κ : Lft) → Bor (List ℕ) → ℕ → Vals signature (κ, tt)
  passed κ s n = (slice_of s ∷ [], (vint w32 n ∷ [], tt))

-- what a slice owns at its machine value, and a lifetime's token
abbrev pub Own : Lft → Bor (List ℕ) → Fml
Own κ s = (ShrSlice (named 0) κ u8).own_val s (slice_of s ∷ [])

abbrev pub token : {M : Type 1} (𝓤 : Ura M) → Lft → Share → Item 𝓤
token 𝓤 κ q = tokens 1 (κ, tt) (q, tt)

module _ {M : Type 1} {𝓤 : Ura M} (𝓛 : Logic 𝓤) (ρ : Slot 1) (P : Claim ρ) where
  open 𝓛 use {H}

  abbrev pub clauses : Clauses 𝓤 (ended ρ)
  clauses κs a = record { ghost = Unit {0}; requires = λ _. emp 𝓤; ensures = λ _ r _. fact 𝓤 (P κs a.0 a.1.0 r) }

  abbrev pub Meant : Contract 𝓤
  Meant = hand.Meant 𝓛 (ended ρ) clauses

  module _ (κ : Lft) (q : Share) (s : Bor (List ℕ)) (n : ℕ) where
    abbrev pub to : Meant.Ghost
    to = (((κ, tt), (q, tt), tt, (s, (n, tt)), passed ρ κ s n), tt)

    -- What the slice owns and the token are what is asked. A `&[u8]` is Copy: its ownership is duplicated before the call, and one stays.
    asked : n < 2 ^ 32 → ent 𝓤 (⋆ 𝓛 (‵ (Own κ s) ∷ token 𝓤 κ q ∷ [])) (sep 𝓤 (Meant.pre to) (sem 𝓛 (Own κ s)))
    asked fits =
        qed 𝓛 (‵ (Own κ s) ∷ token 𝓤 κ q ∷ []) ∵ use1 𝓛 (‵ (Own κ s) ⊛ ‵ (Own κ s)) ((shr_slice_copy 𝓛 (named 0) κ u8 (uint_row_laws w8)).twice s (slice_of s ∷ [])) $ split ! $
        nothing ! $ owned ! u32 (Is u32) (uint_Makes 𝓛 w32) n _ (refl, fits) $ fjoin ! $ move ! (1 ∷ 0 ∷ []) $ fjoin ! $
        nothing ! $ move ! (3 ∷ 1 ∷ []) $ join ! $ join ! $ frame ! $ done !

    -- a call: after it there is the answer, with its claim and its type's facts; the token comes back
    module _ {K : Type 0} {Γ : List (Item 𝓤)} {C : Calls 𝓤 H} {Λ : Loops 𝓤 H} {E : Env 𝓤 H} {g : Callee} {xs : List Operand} {d : Place} {rest : Body} {Q : Post 𝓤 H} where
      pub calls : K → FmC 𝓤 H 𝓛.laws C → Triple 𝓤 (C g) Meant → n < 2 ^ 32
          → Opds K 𝓛 (raw (Meant.pre to) ∷ ‵ (Own κ s) ∷ Γ) E xs (Meant.args to)
          → ((u : Val) (r : (type_at ρ (κ, tt)).Denot) → P (κ, tt) s n r → Is (type_at ρ (κ, tt)) r (u ∷ []) → Seq K 𝓛 (‵ ((type_at ρ (κ, tt)).own_val r (u ∷ [])) ∷ token 𝓤 κ q ∷ ‵ (Own κ s) ∷ Γ) (lands C Λ E d u rest Q))
          → Seq K 𝓛 (‵ (Own κ s) ∷ token 𝓤 κ q ∷ Γ) (runs C Λ E (seq (call g xs d) rest) Q)
      calls t fm known fits os k =
          use2 𝓛 (raw (Meant.pre to) ⊛ ‵ (Own κ s)) (asked fits) $ split t $
          calls_meant t fm (ended ρ) clauses known to (λ r ws. P (κ, tt) s n r) (λ r ws. id⊢ 𝓤 _) os (λ u r ws e is. move t (2 ∷ []) $ drop t $ k u r e is)
