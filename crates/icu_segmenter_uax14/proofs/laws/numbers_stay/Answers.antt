use Rattle.seg_rules.specs.Classes.{◌or◌, ◌but◌}
use Rattle.icu_segmenter_uax14.specs.LineClasses.{HY, IS, NU, PO, PR, SY, CP_NARROW, OP_NARROW, LOOSE}
use Rattle.icu_segmenter_uax14.proofs.Neighbours.{stay-together}
use Rattle.icu_segmenter_uax14.proofs.NeighbourTests.{digits-join, from-digits-join, to-digits-join}
use Rattle.icu_segmenter_uax14.proofs.laws.numbers_stay.Goals as goal

pub returns-clause-within : goal.returns-clause-within
returns-clause-within c = stay-together c.row_fits_by_patterns.ensures c.boundary_is_verdict.ensures NU (NU or IS or SY) digits-join

pub returns-clause-before : goal.returns-clause-before
returns-clause-before c = stay-together c.row_fits_by_patterns.ensures c.boundary_is_verdict.ensures (HY or IS or PO or PR but LOOSE or CP_NARROW) NU to-digits-join

pub returns-clause-after : goal.returns-clause-after
returns-clause-after c = stay-together c.row_fits_by_patterns.ensures c.boundary_is_verdict.ensures NU (PR or PO but LOOSE or OP_NARROW) from-digits-join
