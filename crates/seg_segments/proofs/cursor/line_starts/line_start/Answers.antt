use Rattle.std.proofs.Common.{arith, eqb-true, sym, ◌∙◌}
use Rattle.seg_segments.proofs.Parts.{feed-before}
use Rattle.seg_segments.proofs.cursor.line_starts.line_start.Goals as goal

pub returns-then-has_line_feed_at-clause-begins : goal.returns-then-has_line_feed_at-clause-begins
returns-then-has_line_feed_at-clause-begins g c =
    feed-before _ _ 0 (omega (arith, c.loop-start-test.true)) (omega (arith, c.loop-start.invariant, c.requires))
    (eqb-true _ _ (sym c.has_line_feed_at.ensures ∙ c.if-has_line_feed_at.true))
