use Rattle.icu_segmenter_uax14.proofs.Marks.{marks-nothing}
use Rattle.icu_segmenter_uax14.proofs.laws.marks_change_nothing.Goals as goal

pub returns : goal.returns
returns c tailoring = marks-nothing tailoring c.row_fits_by_patterns.ensures c.boundary_is_verdict.ensures
