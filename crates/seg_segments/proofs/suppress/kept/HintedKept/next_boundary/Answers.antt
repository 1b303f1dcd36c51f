use Rattle.std.proofs.Common.{List, subst, sym, ◌∙◌}
use Rattle.seg_text.specs.declared.boundary.Boundary.{Boundary}
use Rattle.seg_text.specs.Boundaries.{AreAhead}
use Rattle.seg_segments.proofs.suppress.kept.HintedKept.next_boundary.Goals as goal

-- none is given where none is left
pub invariant_of-self : goal.invariant_of-self
invariant_of-self g c =
    subst (λ (boundaries : List Boundary). AreAhead c.self.inside.reach boundaries) (c.in_err-found.ensures.0 ∙ sym c.in_err-found.ensures.1) c.self.invariant

pub invariant_of-self-2 : goal.invariant_of-self-2
invariant_of-self-2 g c =
    c.go_to.ensures.next c.in_ok-found.found.status c.next_boundary.new.self
    (subst (λ (boundaries : List Boundary). AreAhead c.self.inside.reach boundaries) c.in_ok-found.ensures c.self.invariant)
