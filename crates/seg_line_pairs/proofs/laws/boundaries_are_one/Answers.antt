use Rattle.seg_text.proofs.Stretches.{one-answer}
use Rattle.seg_line_pairs.specs.LineBoundaries.{rules_by, line_stretch}
use Rattle.seg_line_pairs.proofs.LineStretches.{line-going}
use Rattle.seg_line_pairs.proofs.laws.boundaries_are_one.Goals as goal

pub returns : goal.returns
returns c = λ cuts. one-answer (line_stretch cuts (rules_by c.args.pairs)) (line-going (rules_by c.args.pairs) cuts)
