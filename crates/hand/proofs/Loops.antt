-- A loop that counts a local k up from 0 to n, by one in each turn. The context at the loop's test is `I t`, for a turn t that knows k.
-- Where k is below n a turn goes on to the next one; where it is n the loop is left.
use mathlib.Core.Path.{◌≡◌}
use Prim.Native.Nat.{ℕ, ◌+◌, ◌-◌, ◌≤◌, ◌<◌}
use native.Mathlib.Decide.{dec_lt}
use native.Mathlib.Omega.{arith}
use mathlib.Core.List.{List}
use mathlib.Core.WellFounded.InvImage
use mathlib.Core.WellFounded.{WellFounded}
use lib.WfN.{lt-wf_rel}
use seplogic.Ra.Ura.{Ura}
use mir.Syntax.{Body, loop}
use base.Logic.{SProp}
use prog.Wp.{Env, Tables, after_turn}
use types.Logic.{Logic}
use types.Kit.{Item, Post, any_q, post, prop, runs, Seq}
use types.Run.{Below, again, loops}

pub record Turn (n : ℕ) : Type 0 where
  pub k : ℕ
  pub within : k ≤ n

module _ {n : ℕ} where
  abbrev pub first_turn : Turn n
  first_turn = record { k = 0; within = omega arith }

  abbrev pub next : (t : Turn n) → t.k < n → Turn n
  next t h = record { k = t.k + 1; within = omega arith }

  -- fewer turns are left
  abbrev nearer : Turn n → Turn n → Type 0
  nearer s t = n - s.k < n - t.k

  nearer_wf : WellFounded nearer
  nearer_wf = InvImage.wf (λ (t : Turn n). n - t.k) lt-wf_rel.wf

  last_turn : (t : Turn n) → ¬ (t.k < n) → t.k ≡ n
  last_turn t h = let w = t.within in omega arith

module _ {M : Type 1} {𝓤 : Ura M} {𝓛 : Logic 𝓤} {K : Type 0} where
  open 𝓛 use {H}

  pub counts : K → (𝓣 : Tables 𝓤 H) {n : ℕ} (I : Turn n → List (Item 𝓤)) {E : Env 𝓤 H} {b : Body} {q : Post 𝓤 H}
      → ((t : Turn n) (h : t.k < n) (X : SProp 𝓤) → Seq K 𝓛 (I (next t h)) (prop X) → Seq K 𝓛 (I t) (runs 𝓣.C 𝓣.Λ E b (any_q (after_turn 𝓤 H X (post 𝓤 H q)))))
      → ((t : Turn n) → t.k ≡ n → (X : SProp 𝓤) → Seq K 𝓛 (I t) (runs 𝓣.C 𝓣.Λ E b (any_q (after_turn 𝓤 H X (post 𝓤 H q)))))
      → (t : Turn n) → Seq K 𝓛 (I t) (runs 𝓣.C 𝓣.Λ E (loop b) q)
  counts s 𝓣 {n = n} I more leaves = loops s 𝓣 nearer nearer_wf I (λ t.
      elim (dec_lt t.k n) [
        | yes h ↦ more t h (Below 𝓛 nearer I t) (again s nearer I t (next t h) (omega arith))
        | no h ↦ leaves t (last_turn t h) (Below 𝓛 nearer I t)
      ])
