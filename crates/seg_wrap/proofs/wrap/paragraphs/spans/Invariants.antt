use Rattle.std.proofs.Common.{◌≡◌, ◌++◌, true, drop}
use Rattle.seg_wrap.specs.Pieces.{spans_at}
use Rattle.seg_wrap.proofs.wrap.paragraphs.spans.Given as goal

abbrev pub invariant-lines : goal.invariant-lines
invariant-lines l = spans_at true l.fn.start l.parts l.lines ≡ l.spans.items ++ spans_at l.is_first l.start l.parts (drop l.line-index l.lines)
