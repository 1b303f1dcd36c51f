use Rattle.seg_pairs.specs.Verdict.{verdict}
use Rattle.seg_pairs.proofs.Forward.{verdict-forward, on-classes}
use Rattle.seg_pairs.proofs.verdicts.TableVerdictsVerdicts.facts.Goals as goal

pub returns : goal.returns
returns c = on-classes (verdict c.args.self.now.table.now) (verdict-forward c.args.self.now.table.now)
