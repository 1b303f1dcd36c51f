use Rattle.seg_machine.specs.Tailored.{machine_of}
use Rattle.seg_clusters.proofs.SplitTexts.{machine-split}
use Rattle.seg_clusters.proofs.laws.engine.parts_behind_resets.Goals as goal

pub returns-in-Neo : goal.returns-in-Neo
returns-in-Neo c = rw c.in-Neo.is (machine-split (machine_of c.in-Neo.machine) c.facts.ensures c.args.code_point c.ranges.code_point.0)
