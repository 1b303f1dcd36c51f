use Rattle.icu_segmenter_uax14.proofs.Numbers.{brackets-stay, closed-numbers-stay, infixes-stay, points-stay}
use Rattle.icu_segmenter_uax14.proofs.laws.long_numbers_stay.Goals as goal

pub returns-clause-infixes : goal.returns-clause-infixes
returns-clause-infixes c = infixes-stay c.row_fits_by_patterns.ensures c.boundary_is_verdict.ensures

pub returns-clause-closings : goal.returns-clause-closings
returns-clause-closings c = closed-numbers-stay c.row_fits_by_patterns.ensures c.boundary_is_verdict.ensures

pub returns-clause-brackets : goal.returns-clause-brackets
returns-clause-brackets c tailoring = brackets-stay tailoring c.row_fits_by_patterns.ensures c.boundary_is_verdict.ensures

pub returns-clause-points : goal.returns-clause-points
returns-clause-points c tailoring = points-stay tailoring c.row_fits_by_patterns.ensures c.boundary_is_verdict.ensures
