-- How many steps a deck's chain can have: the bench's drives have 32 sectors at most, so a transfer has at most as many, and 32 commands
-- have at most 1,024 steps.
use mathlib.Core.Path.{◌≡◌, refl, sym, ap, ◌∙◌}
use Prim.Native.Nat.{ℕ, zero, suc, ◌*◌, ◌≤◌}
use native.Mathlib.Omega.{arith}
use mathlib.Core.Bool.{Bool, true, false, cond}
use mathlib.Core.List.{List, [], ◌∷◌}
use lib.ListN.{length, get_or, take, drop}
use lib.Seq.{take-append_seam, take-length}
use lib.Dec.{lit≤, ltb}
use borrow.Author.Tests.{le-ltb}
use Rattle.std.proofs.lemmas.Bool.{or_parts}
use Rattle.meaning.specs.declared.Record.{Record}
use Rattle.meaning.specs.Each.{some_of, sum_of}
use Rattle.meaning.specs.Sectors.{per_cylinder, sector_count}
use Rattle.meaning.specs.Drives.{Drives, most_units, no_drive, there, drive_of, drives_of}
use Rattle.meaning.specs.State.{State, most_commands}
use Rattle.meaning.specs.Walk.{Chain, refused, accepted, filled, chain_at}
use Rattle.meaning.specs.Command.{transfers, steps_of}
use Rattle.meaning.specs.Pick.{bad_record, spoiled}
use Rattle.meaning.specs.Run.{chain_steps, written}
use Rattle.meaning.specs.Deck.{is_deck, bench_drive, bench_drives}
use Rattle.meaning.specs.Bench.{ran, run_chain, bench_state, outcome_of}
use Rattle.meaning.proofs.Conditions.{good}
use Rattle.meaning.proofs.Walks.{chain_most, chain_is_sound}
use Rattle.meaning.proofs.Counts.{smaller}
use Rattle.std.specs.Prelude.{Ok, Err}
use Rattle.deck.specs.Meant.{Report, meant, steps_in, Reports}
use Rattle.deck.proofs.Outcomes.{no_deck_lem, deck_outcome}

-- ---- no unit of the bench has over 32 sectors: unit 0 has as many, and any other is absent

unit_sectors : (b : List ℕ) (u : ℕ) → sector_count (drive_of (bench_drives b) u) ≤ 32
unfolding sector_count per_cylinder drive_of bench_drive
unit_sectors b zero = lit≤ tt
unit_sectors b (suc zero) = lit≤ tt
unit_sectors b (suc (suc zero)) = lit≤ tt
unit_sectors b (suc (suc (suc zero))) = lit≤ tt
unit_sectors b (suc (suc (suc (suc u)))) =
    let v = suc (suc (suc (suc u))) in
    let absent : sector_count (drive_of (bench_drives b) v) ≡ 1 =
    ap (λ (t : Bool). sector_count (cond t (there (get_or (bench_drives b).units v no_drive)) no_drive)) (le-ltb v most_units (omega arith))
    in
    omega (arith, absent)

-- ---- the steps of a chain on such drives

module _ (d : Drives) (s : State) (few : (u : ℕ) → sector_count (d.on u) ≤ 32) where
  command_steps : (r : Record) → bad_record d s.store r ≡ false → steps_of r ≤ 32
  unfolding steps_of
  command_steps r sound = go (transfers r) refl
    where
      go : (b : Bool) → transfers r ≡ b → cond b r.count 1 ≤ 32
      go true t = let h = (good d s.store r sound).sectors_in t in omega (arith, few r.unit)
      go false t = omega arith

  all_steps : (rs : List Record) → some_of (bad_record d s.store) rs ≡ false → sum_of steps_of rs ≤ 32 * length rs
  all_steps [] e = omega arith
  all_steps (r ∷ rs) e =
      let parts = or_parts (bad_record d s.store r) (some_of (bad_record d s.store) rs) e in
      omega (arith, command_steps r parts.0, all_steps rs parts.1)

  -- none of the chain's commands is bad
  none_bad_in : (rs : List Record) → chain_at d 0 s ≡ accepted rs → some_of (bad_record d s.store) rs ≡ false
  unfolding spoiled
  none_bad_in rs e =
      let t = filled (accepted rs) s.table in
      let sound = (chain_is_sound d 0 s rs e).passed.sound in
      ap (some_of (bad_record d s.store)) (sym (take-append_seam rs (drop (length rs) s.table)))
      ∙ (or_parts (ltb most_commands (length rs)) (some_of (bad_record d s.store) (take (length rs) t)) sound).1

  chain_steps_lem : (rs : List Record) → chain_at d 0 s ≡ accepted rs → chain_steps rs (length rs) ≤ 1_024
  unfolding chain_steps
  chain_steps_lem rs e =
      omega (arith, chain_most d 0 s rs e, all_steps rs (none_bad_in rs e), ap (sum_of steps_of) (take-length rs))

  outcome_steps : (c : Chain) (cs : List ℕ) (n : ℕ) → chain_at d 0 s ≡ c → run_chain d s.store c ≡ ran cs n → n ≤ 1_024
  unfolding run_chain
  outcome_steps (refused k) cs n e told = let z : ◌≡◌ {A = ℕ} 0 1 = cc in omega arith
  outcome_steps (accepted rs) cs n e told =
      let steps : (written d (chain_steps rs (length rs)) rs s.store).steps ≡ n = cc in
      omega (arith, steps, smaller d (chain_steps rs (length rs)) rs s.store, chain_steps_lem rs e)

deck_steps : (b cs : List ℕ) (n : ℕ) → outcome_of b ≡ ran cs n → n ≤ 1_024
deck_steps b cs n e = go (is_deck b) refl
  where
    go : (t : Bool) → is_deck b ≡ t → n ≤ 1_024
    go true t = outcome_steps (drives_of (bench_drives b)) (bench_state b) (unit_sectors b) _ cs n refl (sym (deck_outcome b t) ∙ e)
    go false t = let no = no_deck_lem b t in let z : ◌≡◌ {A = ℕ} 0 1 = cc in omega arith

pub report_steps : (b : List ℕ) (x : Report) → Reports (outcome_of b) x → steps_in x ≤ 1_024
unfolding meant
report_steps b (Ok x) told = deck_steps b _ x.steps (sym told.means)
report_steps b (Err e) told = omega arith
