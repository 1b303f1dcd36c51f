use Rattle.seg_machine.specs.Tailored.{machine_of}
use Rattle.seg_clusters.specs.Payloads.{payloads_of}
use Rattle.seg_words.proofs.SplitWords.{words-split}
use Rattle.seg_words.proofs.laws.parts_behind_resets.Goals as goal

pub returns-in-Neo : goal.returns-in-Neo
returns-in-Neo c =
    rw c.in-Neo.is
    (λ resets. words-split (machine_of c.in-Neo.machine) (payloads_of c.args.segmenter.payloads) c.facts-in-Neo.ensures c.args.code_point resets c.ranges.code_point.0 c.facts.ensures.pieces)
