use Rattle.seg_rules.specs.Classes.{◌or◌}
use Rattle.icu_segmenter_uax14.specs.LineClasses.{AL, HL, NU}
use Rattle.icu_segmenter_uax14.proofs.Neighbours.{stay-together}
use Rattle.icu_segmenter_uax14.proofs.NeighbourTests.{letters-join}
use Rattle.icu_segmenter_uax14.proofs.laws.letters_and_digits_stay.Goals as goal

pub returns : goal.returns
returns c = stay-together c.row_fits_by_patterns.ensures c.boundary_is_verdict.ensures (AL or HL or NU) (AL or HL or NU) letters-join
