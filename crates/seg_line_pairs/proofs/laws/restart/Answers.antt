use Rattle.seg_line_pairs.specs.LineBoundaries.{rules_by}
use Rattle.seg_line_pairs.proofs.LineRestarts.{line-restarts}
use Rattle.seg_line_pairs.proofs.laws.restart.Goals as goal

pub returns : goal.returns
returns c = line-restarts (rules_by c.args.pairs)
