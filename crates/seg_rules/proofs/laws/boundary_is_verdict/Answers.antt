use Rattle.seg_rules.proofs.Reader.{one-place}
use Rattle.seg_rules.proofs.laws.boundary_is_verdict.Goals as goal

pub returns : goal.returns
returns c = one-place
