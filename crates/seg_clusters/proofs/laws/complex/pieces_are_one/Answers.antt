use Rattle.seg_clusters.proofs.Pieces.{pieces-are, pieces-only}
use Rattle.seg_clusters.proofs.laws.complex.pieces_are_one.Goals as goal

pub returns-clause-are : goal.returns-clause-are
returns-clause-are c = pieces-are

pub returns-clause-only : goal.returns-clause-only
returns-clause-only c = pieces-only
