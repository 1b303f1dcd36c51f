use Rattle.seg_rules.specs.Classes.{◌or◌, ◌but◌}
use Rattle.icu_segmenter_uax14.specs.LineClasses.{AL, BA, BB, HL, ID, NU, KEPT}
use Rattle.icu_segmenter_uax14.proofs.Neighbours.{come-apart}
use Rattle.icu_segmenter_uax14.proofs.NeighbourTests.{after-parts, before-parts, ideographs-part}
use Rattle.icu_segmenter_uax14.proofs.laws.lines_break_between.Goals as goal

pub returns-clause-ideographs : goal.returns-clause-ideographs
returns-clause-ideographs c = come-apart c.row_fits_by_patterns.ensures c.boundary_is_verdict.ensures (ID but KEPT) (ID but KEPT) ideographs-part

pub returns-clause-after : goal.returns-clause-after
returns-clause-after c = come-apart c.row_fits_by_patterns.ensures c.boundary_is_verdict.ensures BA (AL or HL or NU or ID) after-parts

pub returns-clause-before : goal.returns-clause-before
returns-clause-before c = come-apart c.row_fits_by_patterns.ensures c.boundary_is_verdict.ensures (AL or HL or NU or ID) BB before-parts
