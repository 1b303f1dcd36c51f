use Rattle.std.proofs.Common.{ℕ, List, arith}
use Rattle.std.proofs.lemmas.List.Elements.{All-map}
use Rattle.seg_segments.specs.TextSegments.{IsPlace}
use Rattle.seg_segments.proofs.Whole.{few-indices}
use Rattle.seg_segments.proofs.segments.BreakIterator.segment_indices.Goals as goal

pub returns-clause-places : goal.returns-clause-places
returns-clause-places g c = All-map (λ (segment : ℕ × List ℕ). IsPlace (g.Self.BreakIterator.decode (g.Self.BreakIterator.whole c.args.self)) segment.0) _ _ c.marked_segments.ensures.whole.places

pub returns-clause-few : goal.returns-clause-few
returns-clause-few g c = omega (arith, few-indices c.marked_segments.result, c.marked_segments.ensures.few)
