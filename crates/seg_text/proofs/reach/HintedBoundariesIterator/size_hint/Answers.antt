use Rattle.seg_text.proofs.Hints.{hint-lower, hint-upper}
use Rattle.seg_text.proofs.reach.HintedBoundariesIterator.size_hint.Goals as goal

pub returns-clause-lower : goal.returns-clause-lower
returns-clause-lower g c =
    rw (← c.self.view_is) (hint-lower (g.B.BoundarySource.remainder c.self.inside.source) _ (c.size_hint.ensures.lower _ c.self.invariant))

pub returns-clause-upper : goal.returns-clause-upper
returns-clause-upper g c =
    rw (← c.self.view_is) (hint-upper (g.B.BoundarySource.remainder c.self.inside.source) _ (c.size_hint.ensures.upper _ c.self.invariant))
