use Rattle.seg_segments.proofs.Beginnings.{begins-latin1}
use Rattle.seg_segments.proofs.segments.source.Latin1IndicesSource.of.Goals as goal

pub returns-clause-start : goal.returns-clause-start
returns-clause-start c = begins-latin1 _
