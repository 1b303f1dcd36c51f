use Rattle.std.proofs.Common.{ℕ, ◌<◌, List, length, ◌∙◌, arith}
use Rattle.std.proofs.lemmas.List.Elements.{All-map}
use Rattle.seg_segments.proofs.Whole.{few-units, joined-units}
use Rattle.seg_segments.proofs.segments.BreakIterator.segments.Goals as goal

pub returns-clause-joined : goal.returns-clause-joined
returns-clause-joined g c = joined-units c.marked_segments.result ∙ c.marked_segments.ensures.whole.joined

pub returns-clause-some : goal.returns-clause-some
returns-clause-some g c = All-map (λ (units : List ℕ). 0 < length units) _ _ c.marked_segments.ensures.whole.some

pub returns-clause-few : goal.returns-clause-few
returns-clause-few g c = omega (arith, few-units c.marked_segments.result, c.marked_segments.ensures.few)
