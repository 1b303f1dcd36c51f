-- The lines of a paragraph stay in the text.
use Rattle.std.proofs.Common.{◌≤◌, length, subst, sym}
use Rattle.std.specs.List.{All}
use Rattle.seg_wrap.specs.declared.wrap.wrapping.Span.{Span}
use Rattle.segment_output.proofs.GivenParagraphs.{spans-stay}
use Rattle.segment_output.proofs.wrapper.Wrapper.push_paragraph.Goals as goal

pub push_spans-requires : goal.push_spans-requires
push_spans-requires c =
    subst (All (λ (span : Span). (span.start ≤ span.end) × (span.end ≤ length c.args.text.now))) (sym c.as_slice.ensures.value)
    (spans-stay _ c.args.text.now _ _ _ c.in_ok-spans.ensures.given c.requires)
