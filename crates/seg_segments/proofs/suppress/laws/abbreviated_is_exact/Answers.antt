use Rattle.seg_segments.proofs.Exact.{exact}
use Rattle.seg_segments.proofs.suppress.laws.abbreviated_is_exact.Goals as goal

pub returns : goal.returns
returns c = exact
