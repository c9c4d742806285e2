-- Unit 0 alone agrees with the board as it was, and its protect marks are the same but for those of absent units where drive 0 is protected.
use mathlib.Core.Path.{◌≡◌, refl, sym, ap, ◌∙◌}
use mathlib.Core.Logic.{◌↔◌, ◌≢◌, ◌⊎◌, inl, inr}
use Prim.Native.Nat.{ℕ, zero, suc}
use native.Mathlib.Omega.{arith}
use mathlib.Core.Bool.{true, false, true≢false}
use mathlib.Core.List.{List, ◌++◌}
use lib.ListN.{take, drop}
use lib.Dec.{eqb}
use borrow.Author.Tests.{le-ltb, ne_eqb}
use Rattle.meaning.specs.declared.Drive.{Drive}
use Rattle.meaning.specs.declared.Record.{Record}
use Rattle.meaning.specs.declared.Ran.{Ran}
use Rattle.meaning.specs.Drives.{most_units, no_drive, drive_of}
use Rattle.meaning.specs.State.{State}
use Rattle.meaning.specs.Step.{closing}
use Rattle.meaning.specs.Pick.{PickGives}
use Rattle.meaning.specs.Run.{Tally, at_start, by_picks, as_written, RunGives}
use Rattle.meaning.specs.Conditions.{Present}
use Rattle.meaning.proofs.Still.{step_keeps_lengths}
use Rattle.promises.specs.AsBefore.{marked, base, today, SameReplies, SameRun, SameRuns, SameBytes, SameButByteTwo, AloneAsBefore}
use Rattle.promises.proofs.ByteTwo.{closing_same, step_same, closing_others, step_but_third}
use Rattle.promises.proofs.Agree.{Agree, sizes_same, spoiled_same, pick_same, run_same, look_same, part_same, looked_same, pick_table_same, walk_same, leaves_same}
use Rattle.promises.proofs.AgreeRuns.{Counts, picked_same, picks_same, as_written_same, ran_same, counts_reply, ran_counts, picks_counts, written_counts}

module _ (d : Drive) (present : d.present ≡ true) where
  today_0 : (today d).on 0 ≡ d
  unfolding drive_of
  today_0 = rw present

  today_away : (u : ℕ) → u ≢ 0 → (today d).on u ≡ no_drive
  unfolding drive_of
  today_away zero n = absurd (n refl)
  today_away (suc zero) n = refl
  today_away (suc (suc zero)) n = refl
  today_away (suc (suc (suc zero))) n = refl
  today_away (suc (suc (suc (suc u)))) n = rw (le-ltb (suc (suc (suc (suc u)))) most_units (omega arith))

  base_0 : (base d).on 0 ≡ d
  base_0 = λ j. marked (sym present j) d

  agree : Agree (today d) (base d)
  agree = record { present = same; drives = same_drive }
    where
      same : (u : ℕ) → ((today d).on u).present ≡ eqb u 0
      same zero = ap (λ (v : Drive). v.present) today_0 ∙ present
      same (suc u) = ap (λ (v : Drive). v.present) (today_away (suc u) (λ e. omega arith)) ∙ sym (ne_eqb (suc u) 0 (λ e. omega arith))

      same_drive : (u : ℕ) → Present (today d) u → (today d).on u ≡ (base d).on u
      same_drive zero h = today_0 ∙ sym base_0
      same_drive (suc u) h = absurd (true≢false (sym h ∙ ap (λ (v : Drive). v.present) (today_away (suc u) (λ e. omega arith))))

  zero_there : Present (today d) 0
  zero_there = ap (λ (v : Drive). v.present) today_0 ∙ present

  -- the protect mark of a unit: an absent one counts as open now
  today_mark : (u : ℕ) → u ≢ 0 → ((today d).on u).protected ≡ false
  today_mark u n = ap (λ (v : Drive). v.protected) (today_away u n)

  same_mark : (u : ℕ) → (u ≡ 0) ⊎ (d.protected ≡ false) → ((today d).on u).protected ≡ ((base d).on u).protected
  same_mark u (inl e) = rw e (ap (λ (v : Drive). v.protected) today_0)
  same_mark zero (inr o) = ap (λ (v : Drive). v.protected) today_0
  same_mark (suc u) (inr o) = today_mark (suc u) (λ e. omega arith) ∙ sym o

  same_replies : SameReplies d
  same_replies =
      record {
        sizes = sizes_same (today d) (base d) agree;
        spoils = spoiled_same (today d) (base d) agree;
        look_number_lem = look_same (today d) (base d) agree;
        look_part_lem = part_same (today d) (base d) agree;
        looked_part_lem = looked_same (today d) (base d) agree;
        walk = walk_same (today d) (base d) agree zero_there;
        records = leaves_same (today d) (base d) agree zero_there;
        pick = pick_same (today d) (base d) agree;
        pick_table_lem = pick_table_same (today d) (base d) agree;
        run = run_same (today d) (base d) agree;
      }

  same_run : (n : ℕ) (go go' : State → Tally) (s : State) → Counts (go s) (go' s) → SameRun d n go go' s
  same_run n go go' s c =
      let h = ran_counts (today d) (base d) agree n go go' s c in
      record { reply = counts_reply (today d) (base d) agree n go go' s h; table = h.table }

  same_runs : SameRuns d
  unfolding by_picks as_written
  same_runs =
      record {
        by_picks_lem = λ n ps s.
            same_run n (by_picks (today d) n ps) (by_picks (base d) n ps) s
            (picks_counts (today d) (base d) agree n ps (at_start s) (at_start s) (record { steps = refl; refused = refl; table = refl }) (λ q. refl));
        as_written_lem = λ n b s.
            let c = written_counts (today d) (base d) agree b (take n s.table) s.store s.store in
            same_run n (as_written (today d) n b) (as_written (base d) n b) s
            (record { steps = c.steps; refused = c.refused; table = ap (λ (t : List Record). t ++ drop n s.table) c.table });
      }

  module _ (open_drive_lem : d.protected ≡ false) where
    marks : (u : ℕ) → ((today d).on u).protected ≡ ((base d).on u).protected
    marks u = same_mark u (inr open_drive_lem)

    run_gives : (n : ℕ) (go go' : State → Tally) (s : State) → go s ≡ go' s → (r : Ran) (s' : State) → RunGives (today d) n go s r s' ↔ RunGives (base d) n go' s r s'
    unfolding RunGives
    run_gives n go go' s h r s' =
        let y = ran_same (today d) (base d) agree marks n go go' s h in
        let a = counts_reply (today d) (base d) agree n go go' s (record { steps = λ j. (y j).steps; refused = λ j. (y j).refused; table = λ j. (y j).state.table }) in
        let b = ap (λ (z : Tally). z.state) y in
        ((λ g. (g.0 ∙ a, g.1 ∙ b)), λ g. (g.0 ∙ sym a, g.1 ∙ sym b))

    same_bytes : SameBytes d
    unfolding PickGives by_picks
    same_bytes =
        record {
          pick = λ n p s k s'.
              let a = pick_same (today d) (base d) agree n p s in
              let b = picked_same (today d) (base d) agree marks n p s in
              ((λ g. (g.0 ∙ a, g.1 ∙ b)), λ g. (g.0 ∙ sym a, g.1 ∙ sym b));
          by_picks_lem = λ n ps s. run_gives n (by_picks (today d) n ps) (by_picks (base d) n ps) s (picks_same (today d) (base d) agree marks n ps (at_start s));
          as_written_lem = λ n b s. run_gives n (as_written (today d) n b) (as_written (base d) n b) s (as_written_same (today d) (base d) agree marks n b s);
        }

  same_but_byte_two : SameButByteTwo d
  unfolding closing
  same_but_byte_two =
      record {
        of_unit_0 = λ r s e. step_same (today d) (base d) r s (same_mark r.unit (inl e));
        lengths = λ r s p. step_keeps_lengths (today d) r s p ∙ sym (step_keeps_lengths (base d) r s p);
        bytes = step_but_third (today d) (base d);
        others = closing_others (today d) (base d);
        same = λ r h. closing_same (today d) (base d) r (same_mark r.unit h);
        now_03 = λ r n. rw (today_mark r.unit n);
        before_13 = λ r e. rw e;
      }

pub alone_as_before : AloneAsBefore
alone_as_before d present =
    record {
      replies = same_replies d present;
      runs = same_runs d present;
      open_drive_lem = same_bytes d present;
      any_drive = same_but_byte_two d present;
    }
