-- What the walk and the run as written of a chain come to, as its outcome: a refusal by its number, or the codes and the steps.
use mathlib.Core.Path.{◌≡◌, refl, sym, ap, ap₂, ◌∙◌}
use Prim.Native.Nat.{ℕ, suc, ◌+◌, ◌-◌, ◌≤◌, ◌<◌}
use native.Mathlib.Numerals.{add-one}
use native.Mathlib.Omega.{arith}
use mathlib.Core.List.{List, [], ◌∷◌, ◌++◌, map-append}
use lib.ListN.{length, get_or, take, drop, set, replicate, length-map}
use lib.Seq.{append_snoc, set_at, take-suc, take-append_seam, take-length, length-take-le}
use lib.Dec.{eqb}
use borrow.Author.Tests.{eq-eqb}
use Rattle.std.proofs.lemmas.Bool.{cond-true}
use Rattle.meaning.specs.declared.Record.{Record}
use Rattle.meaning.specs.declared.Walked.{Walked}
use Rattle.meaning.specs.declared.Ran as R
use Rattle.meaning.specs.Each.{sum_of}
use Rattle.meaning.specs.Store.{Store}
use Rattle.meaning.specs.Drives.{Drives}
use Rattle.meaning.specs.State.{State}
use Rattle.meaning.specs.Walk.{Chain, refused, accepted, answered, filled, chain_at, walk_reply, walk_leaves, WalkGives}
use Rattle.meaning.specs.Command.{steps_of}
use Rattle.meaning.specs.Run.{chain_steps, run_number, Tally, written, as_written, ran_to, run_reply, RunGives}
use Rattle.meaning.specs.Bench.{no_chain, ran, run_chain, no_records}
use Rattle.meaning.specs.Bench as bench
use Rattle.meaning.proofs.Walks.{refused_number}
use Rattle.order.proofs.Accepted.{walk_is_sound}
use Rattle.deck.specs.Meant.{codes_of, chain_outcome}

-- ---- the codes

-- the code of one more command
module _ (table : List Record) (z : Record) where
  length_codes : (k : ℕ) → k ≤ length table → length (codes_of (take k table)) ≡ k
  length_codes k h = length-map (take k table) (λ (r : Record). r.code) ∙ length-take-le k table h

  pub codes_more : (codes : List ℕ) (k : ℕ) → k < length table → length table ≤ 32 → codes ≡ codes_of (take k table) ++ replicate (32 - k) 0
      → set codes k (get_or table k z).code ≡ codes_of (take (k + 1) table) ++ replicate (32 - (k + 1)) 0
  codes_more codes k h few e =
      let one_less : 32 - k ≡ suc (32 - (k + 1)) = omega arith in
      let code = (get_or table k z).code in
      let rest : List ℕ = replicate (32 - (k + 1)) 0 in
      ap (λ (x : List ℕ). set x k code) (e ∙ ap (λ (n : ℕ). codes_of (take k table) ++ replicate n 0) one_less)
      ∙ set_at (codes_of (take k table)) 0 rest code k (length_codes k (omega arith))
      ∙ sym (append_snoc (codes_of (take k table)) code rest)
      ∙ ap (λ (x : List ℕ). x ++ rest) (sym (map-append (λ (r : Record). r.code) (take k table) (get_or table k z ∷ [])))
      ∙ ap (λ (x : List Record). codes_of x ++ rest) (sym (take-suc table k z h) ∙ ap (λ (n : ℕ). take n table) (sym (add-one k)))

-- ---- the outcome of a chain

module _ (d : Drives) (s : Store) where
  abbrev before : State
  before = record { table = no_records; store = s }

  refusal : (c : Chain) → ((answered c).number ≡ 0 → ⊥) → run_chain d s c ≡ no_chain (answered c).number
  unfolding run_chain
  refusal (refused n) h = refl
  refusal (accepted rs) h = absurd (h refl)

  -- an accepted chain: the table starts with its commands, whatever it held before
  module _ (rs : List Record) where
    abbrev table : List Record
    table = filled (accepted rs) no_records

    same_commands : take (length rs) table ≡ rs
    same_commands = take-append_seam rs (drop (length rs) no_records)

    same_steps : chain_steps table (length rs) ≡ chain_steps rs (length rs)
    unfolding chain_steps
    same_steps = ap (sum_of steps_of) (same_commands ∙ sym (take-length rs))

    accepted_outcome : run_chain d s (accepted rs)
        ≡ ran (codes_of (take (length rs) table)) (written d (chain_steps table (length rs)) (take (length rs) table) s).steps
    unfolding run_chain
    accepted_outcome = ap₂ (λ (l : List Record) (k : ℕ). ran (codes_of l) (written d k l s).steps) (sym same_commands) (sym same_steps)

  -- what a run as written has to say of n commands of a table, with all the steps of the chain for its budget
  abbrev told : Walked → List Record → bench.Outcome
  told w t = let l = take w.commands t in ran (codes_of l) (written d (chain_steps t w.commands) l s).steps

  acceptance : (c : Chain) → chain_at d 0 before ≡ c → (answered c).number ≡ 0 → run_chain d s c ≡ told (answered c) (filled c no_records)
  acceptance (refused n) e z = let h = refused_number d 0 before n e in absurd (omega arith)
  acceptance (accepted rs) e z = accepted_outcome rs

  module _ (w : Walked) (t : List Record) (walked : WalkGives d 0 before w t) where
    same_number : w.number ≡ (answered (chain_at d 0 before)).number
    unfolding WalkGives walk_reply
    same_number = ap (λ (x : Walked). x.number) walked.0

    pub refused_outcome : (w.number ≡ 0 → ⊥) → chain_outcome d s ≡ no_chain w.number
    refused_outcome h = refusal (chain_at d 0 before) (λ q. h (same_number ∙ q)) ∙ ap no_chain (sym same_number)

    module _ (taken : w.number ≡ 0) where
      abbrev after : State
      after = record { table = t; store = s }

      pub few_commands : w.commands ≤ 32
      few_commands = (walk_is_sound d 0 before w t walked taken).1

      -- the steps that the run reports: neither 1 nor 9 is given
      run_steps : (b : ℕ) (r : R.Ran) (s' : State) → RunGives d w.commands (as_written d w.commands b) after r s'
          → r.steps ≡ (written d b (take w.commands t) s).steps
      unfolding RunGives run_reply ran_to as_written
      run_steps b r s' g =
          ap (λ (x : R.Ran). x.steps) g.0
          ∙ ap (λ (x : Tally). x.steps) (cond-true (eqb (run_number d w.commands after) 0) _ _ (eq-eqb _ _ (walk_is_sound d 0 before w t walked taken).0))

      chain_told : chain_outcome d s ≡ told w t
      unfolding WalkGives walk_reply walk_leaves
      chain_told =
          acceptance (chain_at d 0 before) refl (sym same_number ∙ taken)
          ∙ sym (ap₂ told walked.0 walked.1)

      pub ran_outcome : (b : ℕ) (r : R.Ran) (s' : State) → b ≡ chain_steps t w.commands
          → RunGives d w.commands (as_written d w.commands b) after r s'
          → chain_outcome d s ≡ ran (codes_of (take w.commands t)) r.steps
      ran_outcome b r s' budget g =
          chain_told
          ∙ ap (λ (k : ℕ). ran (codes_of (take w.commands t)) (written d k (take w.commands t) s).steps) (sym budget)
          ∙ ap (ran (codes_of (take w.commands t))) (sym (run_steps b r s' g))
