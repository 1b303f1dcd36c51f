use Rattle.seg_rules.specs.Classes.{◌or◌, ◌but◌}
use Rattle.icu_segmenter_uax14.specs.LineClasses.{H2, H3, JL, JT, JV, PO, PR, LOOSE}
use Rattle.icu_segmenter_uax14.proofs.Neighbours.{stay-together}
use Rattle.icu_segmenter_uax14.proofs.NeighbourTests.{leading-join, prefixes-join, suffixes-join, trailing-join, vowels-join}
use Rattle.icu_segmenter_uax14.proofs.laws.hangul_syllables_stay.Goals as goal

pub returns-clause-leading : goal.returns-clause-leading
returns-clause-leading c = stay-together c.row_fits_by_patterns.ensures c.boundary_is_verdict.ensures JL (JL or JV or H2 or H3) leading-join

pub returns-clause-vowels : goal.returns-clause-vowels
returns-clause-vowels c = stay-together c.row_fits_by_patterns.ensures c.boundary_is_verdict.ensures (JV or H2) (JV or JT) vowels-join

pub returns-clause-trailing : goal.returns-clause-trailing
returns-clause-trailing c = stay-together c.row_fits_by_patterns.ensures c.boundary_is_verdict.ensures (JT or H3) JT trailing-join

pub returns-clause-suffixes : goal.returns-clause-suffixes
returns-clause-suffixes c = stay-together c.row_fits_by_patterns.ensures c.boundary_is_verdict.ensures (JL or JV or JT or H2 or H3) (PO but LOOSE) suffixes-join

pub returns-clause-prefixes : goal.returns-clause-prefixes
returns-clause-prefixes c = stay-together c.row_fits_by_patterns.ensures c.boundary_is_verdict.ensures (PR but LOOSE) (JL or JV or JT or H2 or H3) prefixes-join
