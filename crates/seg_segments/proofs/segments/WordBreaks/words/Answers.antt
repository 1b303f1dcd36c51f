use Rattle.std.proofs.Common.{arith}
use Rattle.seg_segments.proofs.Whole.{few-words}
use Rattle.seg_segments.proofs.segments.WordBreaks.words.Goals as goal

pub returns-clause-few : goal.returns-clause-few
returns-clause-few g c = omega (arith, few-words c.marked_segments.result, c.marked_segments.ensures.few)
