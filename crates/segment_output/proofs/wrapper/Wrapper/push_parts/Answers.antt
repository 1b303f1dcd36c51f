-- One line more is added.
use Rattle.std.specs.Prelude.{◌&&◌}
use Rattle.icu_segmenter.specs.Wrapping.{TextLine}
use Rattle.icu_segmenter.specs.WrappedLines.{utf8_line_in}
use Rattle.segment_output.specs.Wrapped.{Indents, indented_line}
use Rattle.segment_output.specs.Wrapper.{wrapping_of}
use Rattle.segment_output.proofs.ShownLines.{added-more}
use Rattle.segment_output.proofs.ShownWide.{part-added}
use Rattle.segment_output.proofs.wrapper.Wrapper.push_parts.Goals as goal

pub loop-part-preserved : goal.loop-part-preserved
loop-part-preserved c =
    let indents : Indents = (wrapping_of c.args.self.now).indents in
    added-more (λ (line : TextLine). indented_line indents (line.is_first && c.args.is_first) line.units) utf8_line_in c.loop-part.yielded c.in-Some.part _ _ _
    c.loop-part.invariant
    (part-added indents c.args.is_first _ _ _ _ _ _ (utf8_line_in c.in-Some.part) c.in_ok-push_line.ensures c.indent-indent.ensures c.is_first.ensures c.as_slice.ensures.value c.bytes.ensures)
