-- Of a whole text all segments are written.
use Rattle.segment_output.proofs.SplitText.{whole-printed}
use Rattle.segment_output.proofs.parts.Printing.print.Goals as goal

pub returns-in-Segments-clause-written : goal.returns-in-Segments-clause-written
returns-in-Segments-clause-written g c =
    rw c.in-Segments.is (whole-printed c.in-Segments.segmenter c.in-Segments.style c.in-Segments.file c.args.before c.args.text.now _ _ c.print_part.result c.print_part.ensures.written)
