use Rattle.std.proofs.Common.{ap}
use Rattle.seg_text.specs.Boundaries.{offsets}
use Rattle.seg_segments.proofs.suppress.SuppressedBreaksIterator.next.Goals as goal

pub returns-clause-steps : goal.returns-clause-steps
returns-clause-steps g c = ap offsets c.in_ok-found.ensures
