use Rattle.seg_rules.specs.Classes.{◌or◌, no}
use Rattle.icu_segmenter_uax14.specs.LineClasses.{BK, CR, LF, NL, SP, ZW}
use Rattle.icu_segmenter_uax14.proofs.Neighbours.{stay-together}
use Rattle.icu_segmenter_uax14.proofs.NeighbourTests.{returns-join, spaces-join}
use Rattle.icu_segmenter_uax14.proofs.laws.spaces_stay.Goals as goal

pub returns-clause-spaces : goal.returns-clause-spaces
returns-clause-spaces c = stay-together c.row_fits_by_patterns.ensures c.boundary_is_verdict.ensures (no (BK or CR or LF or NL)) (SP or ZW or BK or CR or LF or NL) spaces-join

pub returns-clause-line_ends : goal.returns-clause-line_ends
returns-clause-line_ends c = stay-together c.row_fits_by_patterns.ensures c.boundary_is_verdict.ensures CR LF returns-join
