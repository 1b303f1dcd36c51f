use Rattle.seg_pairs.specs.Verdict.{complex_verdict}
use Rattle.seg_pairs.proofs.Forward.{complex-forward, on-classes}
use Rattle.seg_pairs.proofs.verdicts.ComplexVerdictsVerdicts.facts.Goals as goal

pub returns : goal.returns
returns c = on-classes (complex_verdict c.args.self.now.table.now) (complex-forward c.args.self.now.table.now)
