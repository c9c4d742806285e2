-- The numbers of the walk, of a pick and of a run, one by one: the one law at each number.
use Rattle.promises.specs.EachNumber.{EachWalkNumber, EachPickNumber, EachRunNumber}
use Rattle.promises.proofs.Walk.{walk_exactly_when}
use Rattle.promises.proofs.Numbers.{pick_exactly_when, run_exactly_when}

pub each_walk_number : EachWalkNumber
each_walk_number d start s w t' g =
    record {
      walk_1_exactly_when = walk_exactly_when 1 d start s w t' g;
      walk_2_exactly_when = walk_exactly_when 2 d start s w t' g;
      walk_5_exactly_when = walk_exactly_when 5 d start s w t' g;
      walk_3_exactly_when = walk_exactly_when 3 d start s w t' g;
      walk_4_exactly_when = walk_exactly_when 4 d start s w t' g;
      walk_0_exactly_when = walk_exactly_when 0 d start s w t' g;
    }

pub each_pick_number : EachPickNumber
each_pick_number d n p s k s' g =
    record {
      pick_1_exactly_when = pick_exactly_when 1 d n p s k s' g;
      pick_9_exactly_when = pick_exactly_when 9 d n p s k s' g;
      pick_8_exactly_when = pick_exactly_when 8 d n p s k s' g;
      pick_7_exactly_when = pick_exactly_when 7 d n p s k s' g;
      pick_6_exactly_when = pick_exactly_when 6 d n p s k s' g;
      pick_0_exactly_when = pick_exactly_when 0 d n p s k s' g;
    }

pub each_run_number : EachRunNumber
each_run_number d n go s r s' g =
    record {
      run_1_exactly_when = run_exactly_when 1 d n go s r s' g;
      run_9_exactly_when = run_exactly_when 9 d n go s r s' g;
      run_0_exactly_when = run_exactly_when 0 d n go s r s' g;
    }
