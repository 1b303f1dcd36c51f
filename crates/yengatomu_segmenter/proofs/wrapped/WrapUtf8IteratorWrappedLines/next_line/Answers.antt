use Rattle.std.proofs.Common.{ap, length}
use Rattle.icu_segmenter.specs.WrappedLines.{utf8_line_in}
use Rattle.yengatomu_segmenter.proofs.wrapped.WrapUtf8IteratorWrappedLines.next_line.Goals as goal

pub returns : goal.returns
returns c = (utf8_line_in c.in_ok-line.line, (c.in_ok-line.ensures.steps, (ap length c.bytes.ensures, c.columns.ensures)))
