-- What a report of a deck means, case by case.
use Rattle.std.specs.Prelude.{◌≡◌, ℕ, ◌-◌, ◌≤◌, List, map, take, drop, replicate, Result, Ok, Err}
use Rattle.meaning.specs.declared.Record.{Record}
use Rattle.meaning.specs.Refusals.{number_of}
use Rattle.meaning.specs.Store.{Store}
use Rattle.meaning.specs.Drives.{Drives}
use Rattle.meaning.specs.State.{most_commands}
use Rattle.meaning.specs.Walk.{chain_at}
use Rattle.meaning.specs.Bench.{no_deck, no_chain, ran, run_chain, no_records}
use Rattle.meaning.specs.Bench as bench
use Rattle.deck.specs.declared.RanChain.{RanChain}
use Rattle.deck.specs.declared.Refused.{Refused}
use Rattle.deck.specs.declared.Refused.TheVariants.{NoDeck, NoChain}

-- a chain that ran, or why none did
abbrev pub Report : Type 0
Report = Result RanChain Refused

-- the outcome for each case
unfoldable pub meant : Report → bench.Outcome
meant (Ok x) = ran (take x.commands x.codes) x.steps
meant (Err NoDeck) = no_deck
meant (Err (NoChain r)) = no_chain (number_of r)

-- the codes of commands
abbrev pub codes_of : List Record → List ℕ
codes_of rs = map (λ (r : Record). r.code) rs

-- what comes of the chain at 0 in memory
abbrev pub chain_outcome : Drives → Store → bench.Outcome
chain_outcome d s = run_chain d s (chain_at d 0 (record { table = no_records; store = s }))

-- how many codes a case has
abbrev pub commands_in : Report → ℕ
commands_in (Ok x) = x.commands
commands_in (Err e) = 0

-- how many steps
abbrev pub steps_in : Report → ℕ
steps_in (Ok x) = x.steps
steps_in (Err e) = 0

-- the codes, in front of zeros; where nothing ran, zeros
abbrev pub codes_in : Report → List ℕ
codes_in (Ok x) = x.codes
codes_in (Err e) = replicate most_commands 0

-- r reports the outcome o: it means it, and its codes past the last command are 0
pub record Reports (o : bench.Outcome) (r : Report) : Type 0 where
  pub means : meant r ≡ o
  pub few : commands_in r ≤ most_commands
  pub rest : drop (commands_in r) (codes_in r) ≡ replicate (most_commands - commands_in r) 0
