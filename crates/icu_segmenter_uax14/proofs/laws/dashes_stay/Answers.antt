use Rattle.icu_segmenter_uax14.proofs.Openings.{closings-over-spaces, dashes-over-spaces}
use Rattle.icu_segmenter_uax14.proofs.laws.dashes_stay.Goals as goal

pub returns-clause-non_starters : goal.returns-clause-non_starters
returns-clause-non_starters c = closings-over-spaces c.row_fits_by_patterns.ensures c.boundary_is_verdict.ensures

pub returns-clause-dashes : goal.returns-clause-dashes
returns-clause-dashes c = dashes-over-spaces c.row_fits_by_patterns.ensures c.boundary_is_verdict.ensures
