-- `deck::run::run_chain` meets its contract: a refusal is told by its number, an accepted chain by its codes and steps.
use Prim.Native.Nat.{ℕ, ◌≤◌, min}
use native.Mathlib.Omega.{arith}
use mathlib.Core.Path.{◌≡◌, refl, ap, ◌∙◌, subst}
use mathlib.Core.List.{List, []}
use lib.ListN.{take}
use Rattle.std.specs.Prelude.{Result, Ok, Err}
use Rattle.meaning.specs.declared.Record.{Record}
use Rattle.meaning.specs.declared.refusals.Refusal.{Refusal}
use Rattle.meaning.specs.Store.{lent, images}
use Rattle.meaning.specs.Drives.{drives_of}
use Rattle.meaning.specs.State.{state_of, most_commands}
use Rattle.meaning.specs.Walk.{WalkGives}
use Rattle.meaning.specs.Run.{chain_steps}
use Rattle.meaning.specs.Bench.{no_records}
use Rattle.meaning.proofs.Told.{number_not_0}
use Rattle.chain.specs.Found.{walked_of}
use Rattle.deck.proofs.Running.{refused_outcome, few_commands, ran_outcome}
use Rattle.deck.proofs.Outcomes.{reports_refused, reports_ran}
use Rattle.deck.proofs.run.run_chain.Goals as goal
use Rattle.deck.proofs.run.run_chain.Goals.{After-walk_into}

-- the walk over a table that holds no command
gives : (c : After-walk_into) → (r : Result ℕ Refusal) → c.walk_into.result ≡ r
    → let a = c.args in WalkGives (drives_of a.l) 0 (state_of a.memory.now (images a.image.now [] [] []) no_records) (walked_of r) c.walk_into.new.table
gives c r is =
    let a = c.args in
    let s : List Record → Result ℕ Refusal → Type 0 =
    λ t x. WalkGives (drives_of a.l) 0 (state_of a.memory.now (images a.image.now [] [] []) t) (walked_of x) c.walk_into.new.table in
    subst (λ (x : Result ℕ Refusal). s no_records x) is (subst (λ (t : List Record). s t c.walk_into.result) c.no_records-table.ensures c.walk_into.ensures)

pub returns-in-Err : goal.returns-in-Err
returns-in-Err c =
    let a = c.args in
    let r = c.in-Err.refusal in
    reports_refused _ r
    (refused_outcome (drives_of a.l) (lent a.memory.now (images a.image.now [] [] [])) _ c.walk_into.new.table (gives (goal.at.returns-in-Err c).After-walk_into (Err r) c.in-Err.is) (number_not_0 r))

-- the number of commands of an accepted walk
few : (c : After-walk_into) → (n : ℕ) → c.walk_into.result ≡ Ok n → n ≤ 32
few c n is =
    let a = c.args in
    few_commands (drives_of a.l) (lent a.memory.now (images a.image.now [] [] [])) _ c.walk_into.new.table (gives c (Ok n) is) refl

pub codes_of-codes-requires : goal.codes_of-codes-requires
codes_of-codes-requires c = few (goal.at.codes_of-codes-requires c).After-walk_into c.in-Ok.commands c.in-Ok.is

pub returns : goal.returns
returns c =
    let a = c.args in
    let n = c.in-Ok.commands in
    let t = c.walk_into.new.table in
    let run = c.run_written-ran in
    let budget = c.chain_steps-budget in
    let walked = (goal.at.returns c).After-walk_into in
    let in_use = few walked n c.in-Ok.is in
    let all : min n most_commands ≡ n = omega arith in
    let told =
    ran_outcome (drives_of a.l) (lent a.memory.now (images a.image.now [] [] [])) _ t (gives walked (Ok n) c.in-Ok.is) refl
    budget.result run.result _ (budget.ensures ∙ ap (chain_steps t) all) run.ensures.gives
    in
    reports_ran _ (take n t) n run.result.steps c.codes_of-codes.result in_use c.codes_of-codes.ensures.codes c.codes_of-codes.ensures.rest told
