use Rattle.std.proofs.Common.{sym, ◌∙◌}
use Rattle.seg_segments.specs.TextSegments.{marked}
use Rattle.seg_text.proofs.Filling.{went-on, at-end, behind}
use Rattle.seg_segments.proofs.Given.{offsets-next, offsets-none}
use Rattle.seg_segments.proofs.segments.BreakIterator.fill.Goals as goal

pub returns-in-None-clause-filled : goal.returns-in-None-clause-filled
returns-in-None-clause-filled g c =
    at-end _ _ _ _ _ _ c.loop-index.invariant.filling (offsets-none g.Self.BreakIterator.mark g.Self.BreakIterator.left _ _ c.in-None.ensures) c.loop-index-test.true

pub loop-index-preserved : goal.loop-index-preserved
loop-index-preserved g c = record {
  filling = went-on _ _ _ _ _ _ _ c.loop-index.invariant.filling (offsets-next g.Self.BreakIterator.mark g.Self.BreakIterator.left _ _ _ c.in-Some.ensures) c.loop-index-test.true;
  left = sym (behind (marked g.Self.BreakIterator.mark (g.Self.BreakIterator.left c.args.self.now)) c.loop-index.index _ _ (sym c.loop-index.invariant.left ∙ c.in-Some.ensures));
}
