use Rattle.seg_machine.specs.Tailored.{machine_of}
use Rattle.seg_clusters.specs.Payloads.{payloads_of}
use Rattle.seg_lines.proofs.SplitLines.{clusters-split, lines-split}
use Rattle.seg_lines.proofs.laws.parts_behind_resets.Goals as goal

pub returns-in-Machine : goal.returns-in-Machine
returns-in-Machine c =
    rw c.in-Machine.is
    (λ resets. lines-split (machine_of c.in-Machine.machine) (payloads_of c.args.segmenter.payloads) c.facts-in-Machine.ensures c.facts.ensures.pieces c.args.code_point resets c.ranges.code_point.0)

pub returns-in_default : goal.returns-in_default
returns-in_default c =
    clusters-split c.args.segmenter.finder (payloads_of c.args.segmenter.payloads) c.args.code_point c.in_default.not-Machine c.ranges.code_point.0
    c.cover.ensures c.parts_behind_resets.ensures
