-- The cursor's places are those of the text's boundaries.
use Rattle.std.proofs.Common.{ℕ, List, subst}
use Rattle.icu_segmenter.specs.NearBoundaries.{IsNearestAbove, IsNearestBelow}
use Rattle.callers.proofs.clusters.caret_moves.Goals as goal

pub returns-clause-left : goal.returns-clause-left
returns-clause-left g c =
    subst (λ (places : List ℕ). IsNearestBelow places c.args.caret c.previous_boundary.result) c.over-cursor.ensures c.previous_boundary.ensures

pub returns-clause-right : goal.returns-clause-right
returns-clause-right g c =
    subst (λ (places : List ℕ). IsNearestAbove places c.args.caret c.next_boundary.result) c.over-cursor.ensures c.next_boundary.ensures
