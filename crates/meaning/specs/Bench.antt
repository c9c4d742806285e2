-- What comes of a deck: the chain starts at 0 and runs as written (Bench 7).
use Rattle.std.specs.Prelude.{ℕ, cond, List, [], map, length, replicate}
use Rattle.meaning.specs.Drives.{Drives, drives_of}
use Rattle.meaning.specs.declared.Record.{Record}
use Rattle.meaning.specs.Store.{Store, images}
use Rattle.meaning.specs.State.{State, most_commands, state_of}
use Rattle.meaning.specs.Walk.{Chain, refused, accepted, chain_at}
use Rattle.meaning.specs.Command.{blank_record}
use Rattle.meaning.specs.Run.{written, chain_steps}
use Rattle.meaning.specs.Deck.{is_deck, bench_drive, bench_drives, bench_memory, bench_image}

pub data Outcome : Type 0 where
  -- no deck
  no_deck : Outcome
  -- the walk refuses, with this number
  no_chain : ℕ → Outcome
  -- the codes of the commands, and the steps
  ran : List ℕ → ℕ → Outcome

-- a table that holds no command yet
abbrev pub no_records : List Record
no_records = replicate most_commands blank_record

abbrev pub bench_state : List ℕ → State
bench_state b = state_of (bench_memory b) (images bench_image [] [] []) no_records

-- an accepted chain, run as written to its end
unfoldable pub run_chain : Drives → Store → Chain → Outcome
unfolding written chain_steps
run_chain d s (refused n) = no_chain n
run_chain d s (accepted rs) = ran (map (λ r. r.code) rs) (written d (chain_steps rs (length rs)) rs s).steps

unfoldable pub outcome_of : List ℕ → Outcome
unfolding run_chain is_deck chain_at bench_memory bench_image bench_drive
outcome_of b =
    let d = drives_of (bench_drives b) in
    let o = run_chain d (bench_state b).store (chain_at d 0 (bench_state b)) in
    cond (is_deck b) o no_deck
