use Rattle.seg_line_pairs.specs.LineBoundaries.{rules_by}
use Rattle.seg_line_pairs.specs.LineVerdict.{unit_verdict}
use Rattle.seg_line_pairs.proofs.UnitElements.{on-units}
use Rattle.seg_line_pairs.proofs.UnitVerdicts.{unit-forward}
use Rattle.seg_line_pairs.proofs.verdicts.LineVerdictsVerdicts.facts.Goals as goal

pub returns : goal.returns
returns c = on-units (unit_verdict (rules_by c.args.self.now.pairs)) (unit-forward (rules_by c.args.self.now.pairs))
