use Rattle.std.proofs.Common.{length, ap, arith}
use Rattle.seg_segments.specs.TextSegments.{AreSegments, IsPlace}
use Rattle.seg_segments.proofs.Cutting.{after-start}
use Rattle.seg_segments.proofs.Whole.{few, whole}
use Rattle.seg_segments.proofs.segments.BreakIterator.marked_segments.Goals as goal

pub invariant_of-result : goal.invariant_of-result
invariant_of-result g c =
    rw c.text-text.ensures ((after-start _ g.Self.BreakIterator.mark _ (g.Self.BreakIterator.find c.args.self) _ _ _ _
    (λ place is. g.met.Self.BreakIterator.places c.text-text.result place (rw c.text-text.ensures is)) c.requires.found c.requires.cover (rw c.new-breaks.ensures at c.next-start.ensures.steps)).1)

pub returns-clause-whole : goal.returns-clause-whole
returns-clause-whole g c =
    rw c.text-text.ensures (whole _ _ _ (after-start (IsPlace (g.Self.BreakIterator.decode (g.Self.BreakIterator.whole c.args.self))) g.Self.BreakIterator.mark _
    (g.Self.BreakIterator.find c.args.self) _ _ _ _ (λ _ place. place) c.requires.found c.requires.cover (rw c.new-breaks.ensures at c.next-start.ensures.steps)).1)

pub returns-clause-few : goal.returns-clause-few
returns-clause-few g c =
    let all : AreSegments _ (g.Self.BreakIterator.whole c.args.self) _ = returns-clause-whole g c in
    omega (arith, few _ all.some, ap length all.joined)
