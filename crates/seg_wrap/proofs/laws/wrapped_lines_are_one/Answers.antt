use Rattle.seg_wrap.proofs.Greedy.{one-wrapping}
use Rattle.seg_wrap.proofs.laws.wrapped_lines_are_one.Goals as goal

pub returns : goal.returns
returns c = one-wrapping
