use Rattle.seg_rules.proofs.Law.{checked-law}
use Rattle.seg_rules.proofs.laws.boundaries_are_places.Goals as goal

pub returns : goal.returns
returns c = checked-law
