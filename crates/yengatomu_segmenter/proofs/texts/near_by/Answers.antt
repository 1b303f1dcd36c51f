use Rattle.std.proofs.Common.{ℕ, List, subst}
use Rattle.icu_segmenter.specs.NearBoundaries.{IsNearestAbove, IsNearestBelow}
use Rattle.yengatomu_segmenter.proofs.texts.near_by.Goals as goal

pub returns-then-is_above : goal.returns-then-is_above
returns-then-is_above g c =
    rw c.if-is_above.true
    (subst (λ (places : List ℕ). IsNearestAbove places c.args.place c.next_boundary.result) c.over-cursor.ensures c.next_boundary.ensures)

pub returns : goal.returns
returns g c =
    rw c.if-is_above.false
    (subst (λ (places : List ℕ). IsNearestBelow places c.args.place c.previous_boundary.result) c.over-cursor.ensures c.previous_boundary.ensures)
