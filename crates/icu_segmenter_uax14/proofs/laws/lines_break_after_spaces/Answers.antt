use Rattle.icu_segmenter_uax14.proofs.Spaces.{spaces-break}
use Rattle.icu_segmenter_uax14.proofs.laws.lines_break_after_spaces.Goals as goal

pub returns : goal.returns
returns c tailoring = spaces-break tailoring c.row_fits_by_patterns.ensures c.boundary_is_verdict.ensures
