use Rattle.seg_hyphens.proofs.CharacterPoints.{of-point, to-point}
use Rattle.seg_hyphens.proofs.laws.points_are_of_characters.Goals as goal

pub returns : goal.returns
returns c = λ hyphenation word whole place. (of-point hyphenation word whole place, λ p. to-point hyphenation word whole place p.0 p.1.0 p.1.1)
