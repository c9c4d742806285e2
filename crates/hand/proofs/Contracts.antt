-- From a walk by hand to the contract of the function whose code it walks. Of each parameter it takes how its machine values are spelled
-- and told, and what is had of it at the exit; the walk itself goes from what is owned at the entry to what is left at the exit.
use seplogic.Ra.Ura.{Ura}
use mir.Syntax.{Callee, Fn}
use base.Logic.{ent, sep}
use prog.Routine.{Env}
use prog.Wp.{WpFn, Closed, Tables}
use prog.Model.{Model}
use types.Logic.{Logic}
use contract.Lifetimes.{Lfts, Shares, AllOutlive}
use contract.Running.{Running, tables, tables_of}
use sound.WpLaws.{WpFn-mono}
use denote.RattleType.{flat}
use denote.Laws.{Are, Ises, Spells, valss, Tellss}
use denote.Signature.{types_at}
use denote.Triple.Entry.{Args, on_entry}
use denote.Triple.Statement.{Triple}
use denote.Triple.Clauses.{Ended, Clauses}
use denote.Triple.Table.{entered}
use denote.Triple.Walked.{Stays, AllGo, walk_of, walked, walk_Meets}
use Rattle.hand.proofs.Calls.{Meant}

pub by_hand : {M : Type 1} {𝓤 : Ura M} (𝓛 : Logic 𝓤) (𝓜 : Model 𝓤 𝓛.H) (𝓡 : Running 𝓤 𝓛.H 𝓜) (T : Ended) (c : Clauses 𝓤 T)
    (hs : Stays T.signature.params T.kept) → AllGo 𝓛 T.signature.lifetimes T.signature.params T.kept hs
    → (sp : (κs : Lfts T.signature.lifetimes) → Spells (types_at T.signature.params κs)) → ((κs : Lfts T.signature.lifetimes) → Tellss (types_at T.signature.params κs) (Ises (types_at T.signature.params κs)) (sp κs))
    → (γ : Env) (k : Callee) (f : Fn) → Closed 𝓤 𝓛.H (tables 𝓤 𝓛.H 𝓜 𝓡 γ).C (tables 𝓤 𝓛.H 𝓜 𝓡 γ).Λ k f
    → (let 𝓣 = tables_of 𝓤 𝓛.H 𝓜 (tables 𝓤 𝓛.H 𝓜 𝓡 γ) in
    (κs : Lfts T.signature.lifetimes) (qs : Shares T.signature.lifetimes) (bounds : AllOutlive T.signature.lifetimes T.signature.outlives κs) (a : Args T.signature κs) (g : (c κs a).ghost)
    → let vss = valss (types_at T.signature.params κs) (sp κs) a in
    Are (types_at T.signature.params κs) (Ises (types_at T.signature.params κs)) a vss
    → ent 𝓤 (sep 𝓤 (on_entry 𝓛 T.signature κs qs a vss) ((c κs a).requires g))
    (WpFn 𝓤 𝓛.H 𝓣.C 𝓣.Λ f (flat (types_at T.signature.params κs) vss) ((walk_of 𝓛 T hs c).post ((κs, qs, bounds, a, vss), g))))
    → Triple 𝓤 (𝓡.run (γ k)) (Meant 𝓛 T c)
unfolding tables_of
by_hand {𝓤 = 𝓤} 𝓛 𝓜 𝓡 T c hs gs sp tells γ k f closed walk =
    let 𝓣 : Tables 𝓤 𝓛.H = tables_of 𝓤 𝓛.H 𝓜 (tables 𝓤 𝓛.H 𝓜 𝓡 γ) in
    entered 𝓤 𝓛.H (Meant 𝓛 T c) (tables 𝓤 𝓛.H 𝓜 𝓡 γ).C (tables 𝓤 𝓛.H 𝓜 𝓡 γ).Λ k f closed
    (walk_Meets 𝓛 T hs gs c (WpFn 𝓤 𝓛.H 𝓣.C 𝓣.Λ f) (WpFn-mono 𝓤 𝓛.H 𝓛.laws 𝓣 f)
    (walked 𝓛 T hs c (WpFn 𝓤 𝓛.H 𝓣.C 𝓣.Λ f) sp tells walk))
