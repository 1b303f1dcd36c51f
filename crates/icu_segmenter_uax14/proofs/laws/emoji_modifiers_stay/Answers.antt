use Rattle.seg_rules.specs.Classes.{◌or◌}
use Rattle.icu_segmenter_uax14.specs.LineClasses.{EB, EM, PICTOGRAPH}
use Rattle.icu_segmenter_uax14.proofs.Neighbours.{stay-together}
use Rattle.icu_segmenter_uax14.proofs.NeighbourTests.{modifiers-join}
use Rattle.icu_segmenter_uax14.proofs.laws.emoji_modifiers_stay.Goals as goal

pub returns : goal.returns
returns c = stay-together c.row_fits_by_patterns.ensures c.boundary_is_verdict.ensures (EB or PICTOGRAPH) EM modifiers-join
