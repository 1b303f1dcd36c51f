use Rattle.seg_segments.proofs.Beginnings.{begins-utf8}
use Rattle.seg_segments.proofs.segments.source.StrCharIndicesSource.of.Goals as goal

pub returns-clause-start : goal.returns-clause-start
returns-clause-start c = begins-utf8 _
