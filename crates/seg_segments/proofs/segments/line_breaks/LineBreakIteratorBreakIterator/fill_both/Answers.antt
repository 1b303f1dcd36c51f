use Rattle.std.proofs.Common.{length, min}
use Rattle.seg_segments.proofs.Given.{left-given}
use Rattle.seg_segments.proofs.segments.line_breaks.LineBreakIteratorBreakIterator.fill_both.Goals as goal

pub returns-clause-left : goal.returns-clause-left
returns-clause-left g c = left-given (min (length c.args.places.now) (length c.args.statuses.now)) c.fill_both.result c.args.self.now.boundaries c.fill_both.new.self.boundaries c.fill_both.ensures.written.left
