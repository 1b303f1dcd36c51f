use Rattle.std.proofs.Common.{rules}
use Rattle.seg_wrap.proofs.Spans.{spans-end, spans-next}
use Rattle.seg_wrap.proofs.wrap.paragraphs.spans.Goals as goal

pub lines-preserved : goal.lines-preserved
lines-preserved c = spans-next _ _ _ _ _ _ _ _ _ _ c.lines.invariant c.lines-test.true c.in_ok-push.ensures.items

pub returns : goal.returns
returns c = spans-end _ _ _ _ _ _ _ _ c.lines.invariant (search rules)
