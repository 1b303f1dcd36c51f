use Rattle.seg_text.proofs.Filling.{ahead-behind}
use Rattle.seg_text.proofs.reach.HintedBoundaries.fill.Goals as goal

pub invariant_of-self : goal.invariant_of-self
invariant_of-self g c =
    rw c.fill-count.ensures.left
    (ahead-behind _ _ c.go_to.new.self _ _ _ _ c.self.invariant c.fill-count.ensures.places c.if-count-gt0.true c.go_to.ensures.end.0 c.go_to.ensures.end.1 c.go_to.ensures.end.2)
