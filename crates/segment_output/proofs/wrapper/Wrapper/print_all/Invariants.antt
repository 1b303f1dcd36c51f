-- What has been written so far, and then what is gathered, is the lines so far.
use Rattle.std.proofs.Common.{map}
use Rattle.icu_segmenter.specs.WrappedLines.{utf8_line_in}
use Rattle.segment_output.specs.Wrapped.{shown_lines}
use Rattle.segment_output.specs.Wrapper.{wrapping_of}
use Rattle.segment_output.specs.Gathered.{AreGathered}
use Rattle.segment_output.proofs.wrapper.Wrapper.print_all.Given as goal

abbrev pub invariant-loop-line : goal.invariant-loop-line
invariant-loop-line g l =
    AreGathered (g.O.Write.contents l.fn.out) (g.O.Write.contents l.out) l.gathered.items (shown_lines (wrapping_of l.self) (map utf8_line_in l.yielded))
