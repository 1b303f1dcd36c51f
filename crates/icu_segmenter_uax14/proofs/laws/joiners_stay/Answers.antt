use Rattle.seg_rules.specs.Classes.{◌or◌, no}
use Rattle.icu_segmenter_uax14.specs.LineClasses.{every, BK, CR, GL, LF, NL, SP, WJ, ZW, ZWJ}
use Rattle.icu_segmenter_uax14.proofs.Neighbours.{stay-together}
use Rattle.icu_segmenter_uax14.proofs.NeighbourTests.{before-joiners-join, joiners-join}
use Rattle.icu_segmenter_uax14.proofs.laws.joiners_stay.Goals as goal

pub returns-clause-after : goal.returns-clause-after
returns-clause-after c = stay-together c.row_fits_by_patterns.ensures c.boundary_is_verdict.ensures (ZWJ or WJ or GL) every joiners-join

pub returns-clause-before : goal.returns-clause-before
returns-clause-before c = stay-together c.row_fits_by_patterns.ensures c.boundary_is_verdict.ensures (no (BK or CR or LF or NL or SP or ZW)) WJ before-joiners-join
