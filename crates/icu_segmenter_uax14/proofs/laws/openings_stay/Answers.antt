use Rattle.icu_segmenter_uax14.specs.LineClasses.{every, OP}
use Rattle.icu_segmenter_uax14.proofs.Neighbours.{stay-together}
use Rattle.icu_segmenter_uax14.proofs.NeighbourTests.{openings-join}
use Rattle.icu_segmenter_uax14.proofs.Openings.{openings-over-spaces}
use Rattle.icu_segmenter_uax14.proofs.laws.openings_stay.Goals as goal

pub returns-clause-next : goal.returns-clause-next
returns-clause-next c = stay-together c.row_fits_by_patterns.ensures c.boundary_is_verdict.ensures OP every openings-join

pub returns-clause-over_spaces : goal.returns-clause-over_spaces
returns-clause-over_spaces c = openings-over-spaces c.row_fits_by_patterns.ensures c.boundary_is_verdict.ensures
