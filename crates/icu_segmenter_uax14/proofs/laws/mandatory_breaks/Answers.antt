use Rattle.icu_segmenter_uax14.proofs.Neighbours.{ends-with, must-where}
use Rattle.icu_segmenter_uax14.proofs.NeighbourTests.{may-or-may-not, must-break, must-break-after-returns, not-within-line-ends}
use Rattle.icu_segmenter_uax14.proofs.laws.mandatory_breaks.Goals as goal

pub returns-clause-within : goal.returns-clause-within
returns-clause-within c = must-where c.row_fits_by_patterns.ensures c.boundary_is_verdict.ensures must-break must-break-after-returns may-or-may-not not-within-line-ends

pub returns-clause-end : goal.returns-clause-end
returns-clause-end c = ends-with c.row_fits_by_patterns.ensures c.boundary_is_verdict.ensures
