use Rattle.icu_segmenter_uax29.proofs.RuleLaws.{cluster-follows}
use Rattle.icu_segmenter_uax29.proofs.laws.clusters_follow_rules.Goals as goal

pub returns : goal.returns
returns c = cluster-follows
