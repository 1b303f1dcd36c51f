use Rattle.seg_rules.specs.Classes.{◌or◌, no}
use Rattle.icu_segmenter_uax14.specs.LineClasses.{BK, CM, CR, LF, NL, SP, ZW, ZWJ}
use Rattle.icu_segmenter_uax14.proofs.Neighbours.{stay-together}
use Rattle.icu_segmenter_uax14.proofs.NeighbourTests.{marks-join}
use Rattle.icu_segmenter_uax14.proofs.laws.marks_stay.Goals as goal

pub returns : goal.returns
returns c = stay-together c.row_fits_by_patterns.ensures c.boundary_is_verdict.ensures (no (BK or CR or LF or NL or SP or ZW)) (CM or ZWJ) marks-join
