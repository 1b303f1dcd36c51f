use Rattle.std.proofs.Common.{Global, Vec}
use Rattle.std.proofs.lemmas.Result.{IfOk-weaker}
use Rattle.seg_wrap.specs.declared.wrap.wrapping.Span.{Span}
use Rattle.seg_wrap.proofs.Spans.{lines-end, lines-given}
use Rattle.seg_wrap.proofs.wrap.paragraphs.lines.Goals as goal

pub spans-requires : goal.spans-requires
spans-requires c = rw c.as_slice-2.ensures.value (lines-end _ _ _ _ _ _ c.in_ok-segments.ensures c.as_slice.ensures.value c.in_ok-lines.ensures)

pub returns : goal.returns
returns c =
    IfOk-weaker {X = Vec Span Global} c.spans.result _ _
    (λ spans are. lines-given _ _ _ _ _ _ _ _ spans.items c.in_ok-segments.ensures c.as_slice.ensures.value c.as_slice-2.ensures.value c.in_ok-lines.ensures are)
    c.spans.ensures
