-- A run as written takes each step of the earliest unfinished command: it is the run by the picks that it would take (`order`), of which
-- none is refused, since such a command never waits.
use mathlib.Core.Path.{◌≡◌, refl, ap}
use Prim.Native.Nat.{ℕ}
use mathlib.Core.Bool.{Bool, cond}
use mathlib.Core.List.{List, ◌∷◌}
use Rattle.meaning.specs.Drives.{Drives}
use Rattle.meaning.specs.State.{State}
use Rattle.meaning.specs.Run.{run_number, Tally, at_start, as_written, ran_to, run_reply, RunGives}
use Rattle.meaning.proofs.Means.{Means, holds, fails, means_eq}
use Rattle.order.specs.States.{written_picks}
use Rattle.order.specs.Earliest.{Earliest}
use Rattle.order.proofs.Earliest.{of_written_picks, written_is_picks}
use Rattle.promises.specs.Taken.{Along, BySteps, Tried, no_more, accept, refuse, RunAsWrittenTakesSteps}
use Rattle.promises.proofs.Taken.{Accepted, along_map, no_steps, picks_taken}

-- picks that are all accepted are all taken
tried_all : {d : Drives} {n : ℕ} {s : State} {ps qs : List ℕ} → Along d (Accepted d n) ps s → Tried d n s ps qs → qs ≡ ps
tried_all h no_more = refl
tried_all h (accept {p} z t) = ap (λ (l : List ℕ). p ∷ l) (tried_all h.1 t)
tried_all h (refuse o t) = absurd (o h.0)

module _ (d : Drives) (n : ℕ) where
  -- an accepted step of the earliest unfinished command
  abbrev First : State → ℕ → Type 0
  First u p = Accepted d n u p × Earliest u.table n p

  written_along : (b : ℕ) (s : State) → run_number d n s ≡ 0 → Along d First (written_picks n b s.table) s
  written_along = of_written_picks d n (λ b s ps. Along d First ps s) (λ s. tt) (λ b s f. tt) (λ b p ps s e z h rest. ((z, h), rest))

pub run_as_written_takes_steps : RunAsWrittenTakesSteps
unfolding RunGives run_reply ran_to
run_as_written_takes_steps d n b s r s' g = rw (g.0, g.1) (whole (means_eq (run_number d n s) 0))
  where
    left : Bool → Tally
    left c = cond c (as_written d n b s) (at_start s)

    whole : {c : Bool} → Means (run_number d n s ≡ 0) c → (y : BySteps d n s (left c).state (left c).steps) × Along d (λ (u : State) (p : ℕ). Earliest u.table n p) y.places s
    whole (holds z) =
        let ps = written_picks n b s.table in
        let first = written_along d n b s z in
        let c = picks_taken d n ps s in
        let all : c.0.places ≡ ps = tried_all (along_map d (First d n) (Accepted d n) (λ u p h. h.0) ps s first) c.1 in
        rw (written_is_picks d n b s z) (c.0, rw all (along_map d (First d n) _ (λ u p h. h.1) ps s first))
    whole (fails _) = (no_steps d n s, tt)
