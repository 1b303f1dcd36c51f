use Rattle.seg_wrap.proofs.Spans.{columns-joined}
use Rattle.seg_wrap.proofs.laws.lines_are_measured.Goals as goal

pub returns : goal.returns
returns c = columns-joined
