use Rattle.seg_rules.specs.Classes.{◌or◌, no}
use Rattle.icu_segmenter_uax14.specs.LineClasses.{every, BK, CR, LF, NL, SP, ZW, QU_PF, QU_PI, QU_PLAIN}
use Rattle.icu_segmenter_uax14.proofs.Neighbours.{stay-together}
use Rattle.icu_segmenter_uax14.proofs.NeighbourTests.{after-quotations-join, before-quotations-join}
use Rattle.icu_segmenter_uax14.proofs.laws.quotations_stay.Goals as goal

pub returns-clause-before : goal.returns-clause-before
returns-clause-before c = stay-together c.row_fits_by_patterns.ensures c.boundary_is_verdict.ensures (no (BK or CR or LF or NL or SP or ZW)) (QU_PLAIN or QU_PF) before-quotations-join

pub returns-clause-after : goal.returns-clause-after
returns-clause-after c = stay-together c.row_fits_by_patterns.ensures c.boundary_is_verdict.ensures (QU_PLAIN or QU_PI) every after-quotations-join
