use Rattle.seg_text.proofs.Stretches.{one-answer}
use Rattle.seg_clusters.proofs.ByRules.{going}
use Rattle.seg_clusters.proofs.laws.engine.boundaries_are_one.Goals as goal

pub returns : goal.returns
returns c = one-answer _ (going _)
