-- What was there, and then the lines so far.
use Rattle.std.proofs.Common.{◌≡◌, ◌++◌, map}
use Rattle.icu_segmenter.specs.WrappedLines.{utf8_line_in}
use Rattle.segment_output.specs.Wrapped.{printed_lines}
use Rattle.segment_output.specs.Wrapper.{wrapping_of}
use Rattle.segment_output.proofs.wrapper.Wrapper.push_parts.Given as goal

abbrev pub invariant-loop-part : goal.invariant-loop-part
invariant-loop-part l = l.gathered.items ≡ l.fn.gathered.items ++ printed_lines (wrapping_of l.self).indents l.is_first (map utf8_line_in l.yielded)
