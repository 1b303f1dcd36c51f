use Rattle.seg_clusters.proofs.EqualWords.{same-cuts, same-run-cuts}
use Rattle.seg_clusters.proofs.laws.complex.equal_words.Goals as goal

pub returns-clause-pieces : goal.returns-clause-pieces
returns-clause-pieces c = same-cuts

pub returns-clause-runs : goal.returns-clause-runs
returns-clause-runs c = same-run-cuts
