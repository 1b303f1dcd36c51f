use Rattle.icu_segmenter_uax29.proofs.RuleLaws.{sentence-follows}
use Rattle.icu_segmenter_uax29.proofs.laws.sentences_follow_rules.Goals as goal

pub returns : goal.returns
returns c = sentence-follows
