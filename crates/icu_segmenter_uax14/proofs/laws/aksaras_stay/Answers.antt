use Rattle.seg_rules.specs.Classes.{◌or◌}
use Rattle.icu_segmenter_uax14.specs.LineClasses.{AK, AP, AS, VF, VI, DOTTED}
use Rattle.icu_segmenter_uax14.proofs.Neighbours.{stay-together}
use Rattle.icu_segmenter_uax14.proofs.NeighbourTests.{aksaras-join, viramas-join}
use Rattle.icu_segmenter_uax14.proofs.laws.aksaras_stay.Goals as goal

pub returns-clause-before : goal.returns-clause-before
returns-clause-before c = stay-together c.row_fits_by_patterns.ensures c.boundary_is_verdict.ensures AP (AK or DOTTED or AS) aksaras-join

pub returns-clause-viramas : goal.returns-clause-viramas
returns-clause-viramas c = stay-together c.row_fits_by_patterns.ensures c.boundary_is_verdict.ensures (AK or DOTTED or AS) (VF or VI) viramas-join
