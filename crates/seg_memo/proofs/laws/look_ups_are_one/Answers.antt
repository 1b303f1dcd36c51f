use Rattle.seg_memo.proofs.Scanning.{one-count, one-start}
use Rattle.seg_memo.proofs.laws.look_ups_are_one.Goals as goal

pub returns : goal.returns
returns c = record {
  starts = λ s place one other first second. one-start s one other place first second;
  count = one-count;
}
