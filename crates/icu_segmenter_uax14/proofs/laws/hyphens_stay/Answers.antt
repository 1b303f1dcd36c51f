use Rattle.seg_rules.specs.Classes.{◌or◌, ◌but◌, no}
use Rattle.icu_segmenter_uax14.specs.LineClasses.{BA, BB, BK, CB, CM, CR, HH, HY, IN, LF, NL, NS, SP, ZW, LOOSE}
use Rattle.icu_segmenter_uax14.proofs.Neighbours.{stay-together}
use Rattle.icu_segmenter_uax14.proofs.NeighbourTests.{after-bb-joins, hyphens-join}
use Rattle.icu_segmenter_uax14.proofs.laws.hyphens_stay.Goals as goal

pub returns-clause-before : goal.returns-clause-before
returns-clause-before c = stay-together c.row_fits_by_patterns.ensures c.boundary_is_verdict.ensures (no (BK or CR or LF or NL or SP or ZW or CB or CM)) (BA but LOOSE or HH but LOOSE or HY or NS or IN but LOOSE) hyphens-join

pub returns-clause-after : goal.returns-clause-after
returns-clause-after c = stay-together c.row_fits_by_patterns.ensures c.boundary_is_verdict.ensures BB (no CB) after-bb-joins
