use Rattle.seg_clusters.proofs.CutHints.{later-lower, later-upper}
use Rattle.seg_clusters.proofs.later.LaterCutsIterator.size_hint.Goals as goal

pub returns-clause-lower : goal.returns-clause-lower
returns-clause-lower g c =
    rw (← c.self.view_is) (later-lower c.self.inside.offset c.self.inside.cuts c.size_hint.result.0 c.size_hint.ensures.lower)

pub returns-clause-upper : goal.returns-clause-upper
returns-clause-upper g c =
    rw (← c.self.view_is) (later-upper c.self.inside.offset c.self.inside.cuts c.size_hint.result.1 c.size_hint.ensures.upper)
