use Rattle.seg_rules.specs.Classes.{◌or◌, no}
use Rattle.icu_segmenter_uax14.specs.LineClasses.{BK, CL, CP, CR, EX, IS, LF, NL, SP, SY, ZW}
use Rattle.icu_segmenter_uax14.proofs.Neighbours.{stay-together}
use Rattle.icu_segmenter_uax14.proofs.NeighbourTests.{closings-join}
use Rattle.icu_segmenter_uax14.proofs.Sequences.{closings-stay}
use Rattle.icu_segmenter_uax14.proofs.laws.closings_stay.Goals as goal

pub returns-clause-characters : goal.returns-clause-characters
returns-clause-characters c = stay-together c.row_fits_by_patterns.ensures c.boundary_is_verdict.ensures (no (BK or CR or LF or NL or SP or ZW)) (CL or CP or EX or SY or IS) closings-join

pub returns-clause-after_spaces : goal.returns-clause-after_spaces
returns-clause-after_spaces c = closings-stay c.row_fits_by_patterns.ensures c.boundary_is_verdict.ensures
