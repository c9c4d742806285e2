-- A call in a walk by hand. The callee meets its contract, whose clauses are c; the caller has what that asks at the head of its context.
-- After the call it has the answer with its type's facts, the tokens, and what is said of last values; and it knows what is ensured.
use Prim.Native.Nat.{ℕ, zero, suc}
use mathlib.Core.List.{List, [], ◌∷◌}
use seplogic.Ra.Ura.{Ura}
use mir.Syntax.{Callee, Place, Opd as Operand, Body, seq, call}
use mir.Val.{Val}
use base.Logic.{ent, emp, id⊢, mono_r}
use base.Fml.{ftrue, flft}
use prog.Wp.{Env, Calls, Loops}
use types.Logic.{Logic}
use contract.Lifetimes.{Lfts, Shares, toks}
use contract.Monad.{fact}
use types.Kit.{Item, Post, runs, lands, Seq, ‵, raw, ◌⊛◌, mean, some, later, ◌$◌, move, use1, split, pick, await}
use types.Run.{Opds}
use sound.WpLaws.{FmC}
use denote.RattleType.{RattleType}
use denote.Laws.{Is, shows}
use denote.Signature.{type_at}
use denote.Steps.{peeks, heard}
use denote.Triple.Entry.{Res, alive}
use denote.Triple.Statement.{Contract, Triple}
use denote.Triple.Call.{calls_at}
use denote.Triple.Spec.{triple_of}
use denote.Triple.Clauses.{Ended, Clauses, Lasts, at_exit, closing, lasts}

-- the tokens of n lifetimes, as an entry of a context
abbrev pub tokens : {M : Type 1} {𝓤 : Ura M} (n : ℕ) → Lfts n → Shares n → Item 𝓤
tokens zero κs qs = ‵ ftrue
tokens (suc n) κs qs = ‵ (flft κs.0 qs.0) ⊛ tokens n κs.1 qs.1

module _ {M : Type 1} {𝓤 : Ura M} (𝓛 : Logic 𝓤) where
  open 𝓛 use {A}

  alive_tokens : (n : ℕ) (κs : Lfts n) (qs : Shares n) → ent 𝓤 (toks 𝓛 n κs qs) (mean 𝓛 (tokens n κs qs))
  alive_tokens zero κs qs = id⊢ 𝓤 (emp 𝓤)
  alive_tokens (suc n) κs qs = mono_r 𝓤 (A.lft κs.0 qs.0) (alive_tokens n κs.1 qs.1)

  -- the contract that these clauses make
  abbrev pub Meant : (T : Ended) → Clauses 𝓤 T → Contract 𝓤
  Meant T c = triple_of 𝓛 T.signature (closing 𝓛 T c)

module _ {M : Type 1} {𝓤 : Ura M} {𝓛 : Logic 𝓤} {K : Type 0} {Γ : List (Item 𝓤)} {C : Calls 𝓤 𝓛.H} {Λ : Loops 𝓤 𝓛.H} {E : Env 𝓤 𝓛.H} {g : Callee} {xs : List Operand} {d : Place} {rest : Body} {Q : Post 𝓤 𝓛.H} where
  -- Φ is what is ensured, as a fact of the answer r and the last values ws; `λ r ws. id⊢ 𝓤 _` shows it.
  open 𝓛 use {H}

  pub calls_meant : K → FmC 𝓤 H 𝓛.laws C → (T : Ended) (c : Clauses 𝓤 T) → Triple 𝓤 (C g) (Meant 𝓛 T c) → (y : (Meant 𝓛 T c).Ghost)
      → let κs = y.0.0 in let a = y.0.3 in let ρ = type_at T.signature.result κs in
      (Φ : Res T.signature κs → Lasts T κs a → Type 0)
      → ((r : Res T.signature κs) (ws : Lasts T κs a) → ent 𝓤 ((c κs a).ensures y.1 r (at_exit T κs a ws)) (fact 𝓤 (Φ r ws)))
      → Opds K 𝓛 (raw ((Meant 𝓛 T c).pre y) ∷ Γ) E xs ((Meant 𝓛 T c).args y)
      → ((v : Val) (r : Res T.signature κs) (ws : Lasts T κs a) → Φ r ws → Is ρ r (v ∷ [])
      → Seq K 𝓛 (‵ (ρ.own_val r (v ∷ [])) ∷ tokens T.signature.lifetimes κs y.0.1 ∷ ‵ (lasts T κs a ws) ∷ Γ) (lands C Λ E d v rest Q))
      → Seq K 𝓛 (raw ((Meant 𝓛 T c).pre y) ∷ Γ) (runs C Λ E (seq (call g xs d) rest) Q)
  calls_meant t fm T c known y Φ says os k =
      let κs = y.0.0 in
      let a = y.0.3 in
      let ρ : RattleType = type_at T.signature.result κs in
      calls_at t fm (Meant 𝓛 T c) known y os (λ v.
      use1 𝓛 (later (some (λ (r : Res T.signature κs). (raw (alive 𝓛 T.signature κs y.0.1) ⊛ ‵ (ρ.own_val r (v ∷ []))) ⊛ some (λ (ws : Lasts T κs a). ‵ (lasts T κs a ws) ⊛ raw ((c κs a).ensures y.1 r (at_exit T κs a ws)))))) (id⊢ 𝓤 _) $
      await t tt $ pick t (λ r. split t $ move t (1 ∷ []) $ pick t (λ ws. split t $ move t (1 ∷ []) $ use1 𝓛 (raw (fact 𝓤 (Φ r ws))) (says r ws) $ heard t (Φ r ws) (λ e.
      -- [what is said of last values; the tokens and the answer]
      move t (1 ∷ []) $ split t $ use1 𝓛 (tokens T.signature.lifetimes κs y.0.1) (alive_tokens 𝓛 T.signature.lifetimes κs y.0.1) $ move t (1 ∷ []) $
      peeks t ρ (Is ρ) (shows 𝓛 ρ) r (v ∷ []) (k v r ws e)))))
