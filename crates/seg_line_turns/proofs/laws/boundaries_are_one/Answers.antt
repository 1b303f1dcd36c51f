use Rattle.seg_line_turns.proofs.TurnStretches.{one-list}
use Rattle.seg_line_turns.proofs.laws.boundaries_are_one.Goals as goal

pub returns : goal.returns
returns c = one-list
