-- What was there, and then the lines so far.
use Rattle.std.proofs.Common.{◌≡◌, ◌++◌, take}
use Rattle.segment_output.specs.Paragraphs.{shown_spans}
use Rattle.segment_output.specs.Wrapper.{wrapping_of}
use Rattle.segment_output.proofs.wrapper.Wrapper.push_spans.Given as goal

abbrev pub invariant-spans : goal.invariant-spans
invariant-spans l = l.gathered.items ≡ l.fn.gathered.items ++ shown_spans (wrapping_of l.self) l.text (take l.span-index l.spans)
