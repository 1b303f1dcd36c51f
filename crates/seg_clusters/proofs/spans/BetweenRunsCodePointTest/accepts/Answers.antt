use Rattle.seg_clusters.proofs.RunsAhead.{between-is}
use Rattle.seg_clusters.proofs.spans.BetweenRunsCodePointTest.accepts.Goals as goal

pub returns : goal.returns
returns c = between-is _ _ c.args.code_point _ c.is_outside_runs.ensures
