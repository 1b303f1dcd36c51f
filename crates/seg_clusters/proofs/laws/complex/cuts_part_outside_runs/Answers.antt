use Rattle.seg_clusters.proofs.SplitSpans.{cuts-split}
use Rattle.seg_clusters.proofs.laws.complex.cuts_part_outside_runs.Goals as goal

pub returns : goal.returns
returns c = cuts-split
