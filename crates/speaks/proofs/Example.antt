-- The examples of `specs/Example.antt` compute.
use mathlib.Core.Path.{◌≡◌, refl, sym, ◌∙◌}
use mathlib.Core.Logic.{◌≢◌}
use Prim.Native.Nat.{ℕ, zero, suc}
use native.Mathlib.Nat.{zero-add}
use native.Mathlib.Omega.{arith}
use mathlib.Core.List.{List}
use lib.ListN.{get_or, set}
use lib.Seq.{get_or-set_other}
use Rattle.meaning.specs.Fields.{byte_of}
use Rattle.meaning.specs.Sectors.{maximum_on, per_cylinder, sector_count, sector_number, maxima_right, image_right}
use Rattle.meaning.specs.Drives.{drive_of}
use Rattle.meaning.specs.Sizes.{sizes_wrong}
use Rattle.meaning.specs.Links.{link_at, links_at}
use Rattle.meaning.specs.Code.{copied_at, link_count, links_in, code_of, fitted_of, early_code, links_read}
use Rattle.meaning.specs.Walk.{record_of, walk_reply, walk_leaves}
use Rattle.meaning.specs.Command.{steps_of, finished}
use Rattle.meaning.specs.Ranges.{crosses}
use Rattle.meaning.specs.Touch.{conflict}
use Rattle.meaning.specs.Run.{by_picks, ran_to, run_reply}
use Rattle.meaning.specs.Deck.{bench_drive, bench_memory, bench_image}
use Rattle.meaning.specs.Conditions.{Within}
use Rattle.promises.specs.OneRange.{ButSgm}
use Rattle.speaks.specs.Example.{Speaks, SpeaksOfLists, with_list, without_list, SpeaksOfOneRange, SpeaksOfEnds, SpeaksOfUnits}

pub speaks : Speaks
unfolding byte_of copied_at link_count links_in code_of early_code links_read record_of walk_reply walk_leaves sizes_wrong drive_of maxima_right image_right maximum_on per_cylinder sector_count sector_number bench_memory bench_image bench_drive steps_of finished conflict run_reply ran_to by_picks crosses
speaks =
    record {
      accepted = refl;
      codes = refl;
      refused = refl;
      counts = refl;
      before = refl;
      moved = refl;
    }

pub speaks_of_lists : SpeaksOfLists
unfolding byte_of copied_at link_at links_at link_count links_in code_of early_code links_read record_of walk_reply walk_leaves sizes_wrong drive_of maxima_right image_right maximum_on per_cylinder sector_count sector_number steps_of finished conflict run_reply ran_to by_picks crosses
speaks_of_lists =
    record {
      accepted = refl;
      moved = refl;
      stays = refl;
      closed = refl;
    }

-- the one bit in which they differ, and bytes that no store has changed
but_sgm : ButSgm 0x12 0x02
but_sgm zero l n = refl
but_sgm (suc zero) l n = refl
but_sgm (suc (suc zero)) l n = refl
but_sgm (suc (suc (suc zero))) l n = refl
but_sgm (suc (suc (suc (suc zero)))) l n = absurd (n refl)
but_sgm (suc (suc (suc (suc (suc zero))))) l n = refl
but_sgm (suc (suc (suc (suc (suc (suc zero)))))) l n = refl
but_sgm (suc (suc (suc (suc (suc (suc (suc zero))))))) l n = refl
but_sgm (suc (suc (suc (suc (suc (suc (suc (suc k)))))))) l n = absurd (omega arith)

same_elsewhere : (m : List ℕ) (k : ℕ) → k ≢ 0 → k ≢ 6 → ¬ Within k 0x10 4 → get_or m k 0 ≡ get_or (without_list m) k 0
same_elsewhere m k a b c =
    sym (get_or-set_other (set (set (set m 0 0x02) 6 0x00) 0x12 0x00) 0x13 k 0x40 0 (λ e. c (omega arith, omega arith))
    ∙ get_or-set_other (set (set m 0 0x02) 6 0x00) 0x12 k 0x00 0 (λ e. c (omega arith, omega arith))
    ∙ get_or-set_other (set m 0 0x02) 6 k 0x00 0 b
    ∙ get_or-set_other m 0 k 0x02 0 a)

pub speaks_of_one_range : SpeaksOfOneRange
unfolding byte_of copied_at link_at links_at link_count links_in code_of early_code links_read record_of drive_of maximum_on per_cylinder sector_count sector_number
speaks_of_one_range =
    record {
      byte0 = but_sgm;
      set = refl;
      clear = refl;
      others = λ k l a b c. rw zero-add (same_elsewhere with_list k a b c);
      one = refl;
      address = refl;
      listed = refl;
      plain = refl;
    }

pub speaks_of_ends : SpeaksOfEnds
unfolding byte_of copied_at link_count links_in code_of fitted_of early_code links_read record_of walk_reply walk_leaves sizes_wrong drive_of maxima_right image_right maximum_on per_cylinder sector_count sector_number steps_of finished conflict run_reply ran_to by_picks crosses
speaks_of_ends =
    record {
      accepted = refl;
      kept = refl;
      posted = refl;
      laid = refl;
    }

pub speaks_of_units : SpeaksOfUnits
unfolding byte_of copied_at link_count links_in code_of early_code links_read record_of walk_reply walk_leaves sizes_wrong drive_of maxima_right image_right maximum_on per_cylinder sector_count sector_number steps_of finished conflict run_reply ran_to by_picks crosses
speaks_of_units =
    record {
      accepted = refl;
      units = refl;
      moved = refl;
      kept = refl;
      stays = refl;
    }
