-- The locals of a function in a walk by hand: all are allocated at once, and all are freed at once, whatever they hold by then.
-- In a context the last local comes first, each as its cell, which is room or holds a value, and as what says that it dies. `locals`
-- writes them so, and `at` says where a local then stands.
use mathlib.Core.Path.{◌≡◌, subst}
use Prim.Native.Nat.{ℕ, zero, suc, ◌+◌, ◌*◌, ◌-◌}
use mathlib.Core.List.{List, [], ◌∷◌, ◌++◌}
use seplogic.Ra.Ura.{Ura}
use base.Fraction.{full_share}
use mir.Syntax.{Ty, Local, local, Fn}
use mir.Val.{Val}
use base.Logic.{SProp, ent, sep, id⊢, via, emp∗, assoc', mono_l, mono_r, snd∗}
use base.Fml.{Share, Fml, ftrue, ffalse, feq, flt, fsep, fand, for, fwand, fex, fall, fupd, fhide, fat, froom, fleft, fdies, flft, fdead, fobs, fauth, fres, fown, fbor, fobor, flent, fshr_bor, finv, fnamed, ftok, fkid, fme, fsent}
use prog.Wp.{Env, Calls, Loops, WpFn, release}
use types.Logic.{Logic}
use types.Kit.{Item, ‵, raw, ◌⊛◌, some, given, later, ⋆, nth, del, put, mean, push, pop, pull, fill, ++⊢, Goal, prop, runs, at_ret, allocs, params', frees, Seq, Step, step, ◌$◌, ◌∵◌, !, qed, by, move, use1, split, join, frame, rewrite, done}
use types.Run.{enter, alloc1, alloc0}

-- ---- a frame, as a context has it

-- a local's cell: room, or what it holds
pub data Cell : Type 0 where
  room : Cell
  holds : Val → Cell

module _ {M : Type 1} {𝓤 : Ura M} where
  abbrev pub cell : Ty → ℕ → Cell → Item 𝓤
  cell τ b room = ‵ (froom τ b 0)
  cell τ b (holds v) = ‵ (fat full_share τ b 0 v)

  -- the locals of an environment, with their cells from the first local on; those that are not listed are room
  abbrev pub locals : List (Ty × ℕ) → List Cell → List (Item 𝓤) → List (Item 𝓤)
  locals [] cs Γ = Γ
  locals (e ∷ E) [] Γ = locals E [] (cell e.0 e.1 room ∷ ‵ (fdies e.0 e.1) ∷ Γ)
  locals (e ∷ E) (c ∷ cs) Γ = locals E cs (cell e.0 e.1 c ∷ ‵ (fdies e.0 e.1) ∷ Γ)

-- where local j of n stands, behind k other entries
abbrev pub at : ℕ → ℕ → ℕ → ℕ
at n k j = k + 2 * (n - 1 - j)

-- ---- the cells, read off a context

abbrev held : Fml → Cell
held (fat q τ b o v) = holds v
held (froom τ b o) = room
held ftrue = room
held ffalse = room
held (feq X x y) = room
held (flt m n) = room
held (fsep P Q) = room
held (fand P Q) = room
held (for P Q) = room
held (fwand P Q) = room
held (fex X F) = room
held (fall X F) = room
held (fupd P) = room
held (fhide P) = room
held (fleft q τ τs b o) = room
held (fdies τ b) = room
held (flft κ q) = room
held (fdead κ) = room
held (fobs γ x) = room
held (fauth γ x) = room
held (fres γ x) = room
held (fown R γ x) = room
held (fbor κ P) = room
held (fobor κ q P) = room
held (flent κ P) = room
held (fshr_bor κ P) = room
held (finv P) = room
held (fnamed n P) = room
held (ftok m) = room
held (fkid h a) = room
held (fme n) = room
held (fsent t) = room

module _ {M : Type 1} {𝓤 : Ura M} where
  abbrev held_in : Item 𝓤 → Cell
  held_in (‵ P) = held P
  held_in (raw P) = room
  held_in (i ⊛ j) = room
  held_in (some F) = room
  held_in (given φ i) = room
  held_in (later i) = room

  -- of as many locals as there are in the environment, from the first local on
  abbrev cells_in : List (Ty × ℕ) → List (Item 𝓤) → List Cell → List Cell
  cells_in [] Γ cs = cs
  cells_in (e ∷ E) [] cs = cs
  cells_in (e ∷ E) (i ∷ []) cs = cs
  cells_in (e ∷ E) (i ∷ j ∷ Γ) cs = cells_in E Γ (held_in i ∷ cs)

  -- and what stands behind them
  abbrev past : List (Ty × ℕ) → List (Item 𝓤) → List (Item 𝓤)
  past [] Γ = Γ
  past (e ∷ E) [] = []
  past (e ∷ E) (i ∷ []) = []
  past (e ∷ E) (i ∷ j ∷ Γ) = past E Γ

  -- the first k entries of a context, and the others
  abbrev front : ℕ → List (Item 𝓤) → List (Item 𝓤)
  front zero Γ = []
  front (suc k) [] = []
  front (suc k) (i ∷ Γ) = i ∷ front k Γ

  abbrev behind : ℕ → List (Item 𝓤) → List (Item 𝓤)
  behind zero Γ = Γ
  behind (suc k) [] = []
  behind (suc k) (i ∷ Γ) = behind k Γ

-- ---- freeing

module _ {M : Type 1} {𝓤 : Ura M} (𝓛 : Logic 𝓤) where
  open 𝓛 use {H}

  abbrev gone : Ty × ℕ → SProp 𝓤
  gone e = sep 𝓤 (H.room e.0 e.1 0) (H.dies e.0 e.1)

  release_mono : (E : Env 𝓤 H) {P Q : SProp 𝓤} → ent 𝓤 P Q → ent 𝓤 (release 𝓤 H E P) (release 𝓤 H E Q)
  release_mono [] h = h
  release_mono (e ∷ E) h = mono_r 𝓤 (gone e) (release_mono E h)

  -- what is not a local's goes through
  release_in : (E : Env 𝓤 H) (X P : SProp 𝓤) → ent 𝓤 (sep 𝓤 X (release 𝓤 H E P)) (release 𝓤 H E (sep 𝓤 X P))
  release_in [] X P = id⊢ 𝓤 (sep 𝓤 X P)
  release_in (e ∷ E) X P = qed 𝓛 (raw X ∷ raw (gone e) ∷ raw (release 𝓤 H E P) ∷ []) ∵ move ! (1 ∷ []) $ frame ! $ by ! (release_in E X P)

  release_out : (E : Env 𝓤 H) (X P : SProp 𝓤) → ent 𝓤 (release 𝓤 H E (sep 𝓤 X P)) (sep 𝓤 X (release 𝓤 H E P))
  release_out [] X P = id⊢ 𝓤 (sep 𝓤 X P)
  release_out (e ∷ E) X P =
      qed 𝓛 (raw (gone e) ∷ raw (release 𝓤 H E (sep 𝓤 X P)) ∷ []) ∵ move ! (1 ∷ []) $ use1 𝓛 (raw X ⊛ raw (release 𝓤 H E P)) (release_out E X P) $
      split ! $ frame ! $ move ! (1 ∷ 0 ∷ []) $ done !

  -- one local, whatever it holds
  one_freed : (τ : Ty) (b : ℕ) (c : Cell) (Γ : List (Item 𝓤)) → ent 𝓤 (⋆ 𝓛 (cell τ b c ∷ ‵ (fdies τ b) ∷ Γ)) (sep 𝓤 (gone (τ, b)) (⋆ 𝓛 Γ))
  one_freed τ b room Γ = qed 𝓛 (‵ (froom τ b 0) ∷ ‵ (fdies τ b) ∷ Γ) ∵ join ! $ frame ! $ by ! (id⊢ 𝓤 (⋆ 𝓛 Γ))
  one_freed τ b (holds v) Γ =
      qed 𝓛 (‵ (fat full_share τ b 0 v) ∷ ‵ (fdies τ b) ∷ Γ) ∵ use1 𝓛 (‵ (froom τ b 0)) (𝓛.laws.at_room τ b 0 v) $ join ! $ frame ! $ by ! (id⊢ 𝓤 (⋆ 𝓛 Γ))

  freed : (E : Env 𝓤 H) (cs : List Cell) (Γ : List (Item 𝓤)) → ent 𝓤 (⋆ 𝓛 (locals E cs Γ)) (release 𝓤 H E (⋆ 𝓛 Γ))
  freed [] cs Γ = id⊢ 𝓤 (⋆ 𝓛 Γ)
  freed (e ∷ E) [] Γ =
      via 𝓤 _ (freed E [] (cell e.0 e.1 room ∷ ‵ (fdies e.0 e.1) ∷ Γ))
      (via 𝓤 _ (release_mono E (one_freed e.0 e.1 room Γ)) (release_out E (gone e) (⋆ 𝓛 Γ)))
  freed (e ∷ E) (c ∷ cs) Γ =
      via 𝓤 _ (freed E cs (cell e.0 e.1 c ∷ ‵ (fdies e.0 e.1) ∷ Γ))
      (via 𝓤 _ (release_mono E (one_freed e.0 e.1 c Γ)) (release_out E (gone e) (⋆ 𝓛 Γ)))

  parted : (k : ℕ) (Γ : List (Item 𝓤)) → ent 𝓤 (⋆ 𝓛 Γ) (sep 𝓤 (⋆ 𝓛 (front k Γ)) (⋆ 𝓛 (behind k Γ)))
  parted zero Γ = emp∗ 𝓤 (⋆ 𝓛 Γ)
  parted (suc k) [] = emp∗ 𝓤 (⋆ 𝓛 [])
  parted (suc k) (i ∷ Γ) =
      via 𝓤 _ (pop 𝓛 i Γ)
      (via 𝓤 _ (mono_r 𝓤 (mean 𝓛 i) (parted k Γ))
      (via 𝓤 _ (assoc' 𝓤 (mean 𝓛 i) (⋆ 𝓛 (front k Γ)) (⋆ 𝓛 (behind k Γ))) (mono_l 𝓤 (⋆ 𝓛 (behind k Γ)) (push 𝓛 i (front k Γ)))))

  -- ---- emptying

  push_mono : (i : Item 𝓤) (Γ Δ : List (Item 𝓤)) → ent 𝓤 (⋆ 𝓛 Γ) (⋆ 𝓛 Δ) → ent 𝓤 (⋆ 𝓛 (i ∷ Γ)) (⋆ 𝓛 (i ∷ Δ))
  push_mono i Γ Δ h = via 𝓤 _ (pop 𝓛 i Γ) (via 𝓤 _ (mono_r 𝓤 (mean 𝓛 i) h) (push 𝓛 i Δ))

  locals_mono : (E : List (Ty × ℕ)) (Γ Δ : List (Item 𝓤)) → ent 𝓤 (⋆ 𝓛 Γ) (⋆ 𝓛 Δ) → ent 𝓤 (⋆ 𝓛 (locals E [] Γ)) (⋆ 𝓛 (locals E [] Δ))
  locals_mono [] Γ Δ h = h
  locals_mono (e ∷ E) Γ Δ h =
      locals_mono E (cell e.0 e.1 room ∷ ‵ (fdies e.0 e.1) ∷ Γ) (cell e.0 e.1 room ∷ ‵ (fdies e.0 e.1) ∷ Δ)
      (push_mono (cell e.0 e.1 room) (‵ (fdies e.0 e.1) ∷ Γ) (‵ (fdies e.0 e.1) ∷ Δ) (push_mono (‵ (fdies e.0 e.1)) Γ Δ h))

  one_emptied : (τ : Ty) (b : ℕ) (c : Cell) (Γ : List (Item 𝓤)) → ent 𝓤 (⋆ 𝓛 (cell τ b c ∷ Γ)) (⋆ 𝓛 (cell τ b room ∷ Γ))
  one_emptied τ b room Γ = id⊢ 𝓤 _
  one_emptied τ b (holds v) Γ = qed 𝓛 (‵ (fat full_share τ b 0 v) ∷ Γ) ∵ use1 𝓛 (‵ (froom τ b 0)) (𝓛.laws.at_room τ b 0 v) $ done !

  emptied : (E : List (Ty × ℕ)) (cs : List Cell) (Γ : List (Item 𝓤)) → ent 𝓤 (⋆ 𝓛 (locals E cs Γ)) (⋆ 𝓛 (locals E [] Γ))
  emptied [] cs Γ = id⊢ 𝓤 _
  emptied (e ∷ E) [] Γ = id⊢ 𝓤 _
  emptied (e ∷ E) (c ∷ cs) Γ =
      via 𝓤 _ (emptied E cs (cell e.0 e.1 c ∷ ‵ (fdies e.0 e.1) ∷ Γ)) (locals_mono E _ _ (one_emptied e.0 e.1 c (‵ (fdies e.0 e.1) ∷ Γ)))

-- the locals from local j on
abbrev pub since : ℕ → List (Ty × ℕ) → List (Ty × ℕ)
since zero E = E
since (suc j) [] = []
since (suc j) (e ∷ E) = since j E

module _ {M : Type 1} {𝓤 : Ura M} {𝓛 : Logic 𝓤} {K : Type 0} {Γ : List (Item 𝓤)} where
  -- The end of a frame: behind the first k entries stand the locals. `refl` shows it.
  open 𝓛 use {H}

  pub frees_all : K → (k : ℕ) {E : Env 𝓤 H} {G : Goal 𝓤 H} → behind k Γ ≡ locals E (cells_in E (behind k Γ) []) (past E (behind k Γ))
      → Step K 𝓛 (front k Γ ++ past E (behind k Γ)) G Γ (frees E G)
  frees_all t k {E} {G} e = step (λ s. record {
    prf =
        let Δ = front k Γ in
        let Γ' = past E (behind k Γ) in
        via 𝓤 _ (parted 𝓛 k Γ)
        (via 𝓤 _ (mono_r 𝓤 (⋆ 𝓛 Δ) (subst (λ (Θ : List (Item 𝓤)). ent 𝓤 (⋆ 𝓛 (behind k Γ)) (⋆ 𝓛 Θ)) e (id⊢ 𝓤 _)))
        (via 𝓤 _ (mono_r 𝓤 (⋆ 𝓛 Δ) (freed 𝓛 E (cells_in E (behind k Γ) []) Γ'))
        (via 𝓤 _ (release_in 𝓛 E (⋆ 𝓛 Δ) (⋆ 𝓛 Γ'))
        (release_mono 𝓛 E (via 𝓤 _ (++⊢ 𝓛 Δ Γ') s.prf)))));
  })

  -- Behind the first k entries stand the locals of E, the last ones of a frame. All of them are room again. `refl` shows it.
  pub empties : K → (k : ℕ) (E : List (Ty × ℕ)) {G : Goal 𝓤 H} → behind k Γ ≡ locals E (cells_in E (behind k Γ) []) (past E (behind k Γ))
      → Step K 𝓛 (front k Γ ++ locals E [] (past E (behind k Γ))) G Γ G
  empties t k E {G} e = step (λ s. record {
    prf =
        let Δ = front k Γ in
        let Γ' = past E (behind k Γ) in
        via 𝓤 _ (parted 𝓛 k Γ)
        (via 𝓤 _ (mono_r 𝓤 (⋆ 𝓛 Δ) (subst (λ (Θ : List (Item 𝓤)). ent 𝓤 (⋆ 𝓛 (behind k Γ)) (⋆ 𝓛 Θ)) e (id⊢ 𝓤 _)))
        (via 𝓤 _ (mono_r 𝓤 (⋆ 𝓛 Δ) (emptied 𝓛 E (cells_in E (behind k Γ) []) Γ'))
        (via 𝓤 _ (++⊢ 𝓛 Δ (locals E [] Γ')) s.prf)));
  })

  -- what entry n holds, written another way
  pub holds_also : K → (n : ℕ) {X : Type 0} (f : X → Val) {x y : X} {q : Share} {τ : Ty} {b o : ℕ} {G : Goal 𝓤 H} → y ≡ x → nth 𝓛 n Γ ≡ ‵ (fat q τ b o (f y))
      → Step K 𝓛 (put 𝓛 n (‵ (fat q τ b o (f x))) Γ) G Γ G
  holds_also t n f {q = q} {τ = τ} {b = b} {o = o} e is = rewrite t n (λ y. ‵ (fat q τ b o (f y))) e is

  -- entry n is taken to the head, and nothing stands in its place; the head goes back into the place of entry n
  pub takes_out : K → (n : ℕ) {G : Goal 𝓤 H} → Step K 𝓛 (nth 𝓛 n Γ ∷ put 𝓛 n (‵ ftrue) Γ) G Γ G
  takes_out t n {G} = step (λ s. record {
    prf =
        let i = nth 𝓛 n Γ in
        let rest = ⋆ 𝓛 (del 𝓛 n Γ) in
        via 𝓤 _ (pull 𝓛 n Γ)
        (via 𝓤 _ (mono_r 𝓤 (mean 𝓛 i) (via 𝓤 _ (emp∗ 𝓤 rest) (fill 𝓛 n (‵ ftrue) Γ)))
        (via 𝓤 _ (push 𝓛 i (put 𝓛 n (‵ ftrue) Γ)) s.prf));
  })

  pub lands_in : K → (n : ℕ) {i : Item 𝓤} {G : Goal 𝓤 H} → Step K 𝓛 (put 𝓛 n i Γ) G (i ∷ Γ) G
  lands_in t n {i} {G} = step (λ s. record {
    prf =
        via 𝓤 _ (pop 𝓛 i Γ)
        (via 𝓤 _ (mono_r 𝓤 (mean 𝓛 i) (via 𝓤 _ (pull 𝓛 n Γ) (snd∗ 𝓤 (mean 𝓛 (nth 𝓛 n Γ)) (⋆ 𝓛 (del 𝓛 n Γ)))))
        (via 𝓤 _ (fill 𝓛 n i Γ) s.prf));
  })

-- ---- allocating

-- a place in memory for each local, and the environment that they make
abbrev pub Blocks : List Local → Type 0
Blocks [] = Unit {0}
Blocks (local τ h ∷ ls) = ℕ × Blocks ls

abbrev pub env_of : (ls : List Local) → Blocks ls → List (Ty × ℕ)
env_of [] b = []
env_of (local τ h ∷ ls) b = (τ, b.0) ∷ env_of ls b.1

module _ {M : Type 1} {𝓤 : Ura M} {𝓛 : Logic 𝓤} {K : Type 0} where
  open 𝓛 use {H}

  allocs_all : K → (ls : List Local) (Kt : Env 𝓤 H → Goal 𝓤 H) (Γ : List (Item 𝓤)) → ((b : Blocks ls) → Seq K 𝓛 (locals (env_of ls b) [] Γ) (Kt (env_of ls b))) → Seq K 𝓛 Γ (allocs ls Kt)
  allocs_all t [] Kt Γ k = alloc0 t $ k tt
  allocs_all t (local τ h ∷ ls) Kt Γ k = alloc1 t (λ b. allocs_all t ls (λ E. Kt ((τ, b) ∷ E)) (‵ (froom τ b 0) ∷ ‵ (fdies τ b) ∷ Γ) (λ bs. k (b, bs)))

  -- The beginning of a function: all its locals are there, at places b, and are room.
  pub enters_all : K → (C : Calls 𝓤 H) (Λ : Loops 𝓤 H) (f : Fn) (vs : List Val) (Kf : Val → SProp 𝓤) (Γ : List (Item 𝓤))
      → ((b : Blocks f.locals) → let E = env_of f.locals b in Seq K 𝓛 (locals E [] Γ) (params' E vs (runs C Λ E f.body (at_ret E Kf))))
      → Seq K 𝓛 Γ (prop (WpFn 𝓤 H C Λ f vs Kf))
  enters_all t C Λ f vs Kf Γ k = enter t C Λ f vs Kf $ allocs_all t f.locals (λ E. params' E vs (runs C Λ E f.body (at_ret E Kf))) Γ k
