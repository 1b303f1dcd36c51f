use Rattle.seg_segments.proofs.Beginnings.{begins-utf16}
use Rattle.seg_segments.proofs.segments.source.Utf16IndicesSource.of.Goals as goal

pub returns-clause-start : goal.returns-clause-start
returns-clause-start c = begins-utf16 _
