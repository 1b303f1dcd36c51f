use Rattle.std.proofs.Common.{[], ◌∷◌, refl, arith}
use Rattle.seg_text.specs.Boundaries.{boundary}
use Rattle.seg_machine.specs.Machine.{step, run, scan, state_at}
use Rattle.seg_machine.specs.Pick.{last_step, first_condition, pick}
use Rattle.seg_memo.specs.Configurations.{all_look_ups, different, following, is_in, look_ups, look_ups_on}
use Rattle.seg_memo.proofs.laws.small_machines_look_up.Goals as goal

pub returns : goal.returns
unfolding all_look_ups different following is_in look_ups look_ups_on pick last_step first_condition scan run step state_at
returns c = record {
  condition_at_end = (0 ∷ [], ((boundary 3 1, refl, refl), omega arith, refl), refl);
  own_name_one = (0 ∷ [], ((boundary 1 0, refl, refl), omega arith, refl), refl);
  own_name_two = (1 ∷ 0 ∷ [], ((boundary 1 0, refl, refl), omega arith, ((boundary 1 1, refl, refl), omega arith, refl)), refl);
  own_name_three = (2 ∷ 1 ∷ 0 ∷ [], ((boundary 1 0, refl, refl), omega arith, ((boundary 1 1, refl, refl), omega arith, ((boundary 1 1, refl, refl), omega arith, refl))), refl);
  two_past_end = (0 ∷ [], ((boundary 2 0, refl, refl), omega arith, refl), refl);
  from_start = ((0 ∷ [], ((boundary 1 0, refl, refl), omega arith, refl), refl), (0 ∷ [], ((boundary 3 0, refl, refl), omega arith, refl), refl));
  start = (0 ∷ [], ((boundary 3 0, refl, refl), omega arith, refl), refl);
  named_past_end = (0 ∷ [], ((boundary 2 1, refl, refl), omega arith, refl), refl);
}
