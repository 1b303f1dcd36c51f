use Rattle.icu_segmenter_uax29.proofs.RuleLaws.{word-follows}
use Rattle.icu_segmenter_uax29.proofs.laws.words_follow_rules.Goals as goal

pub returns : goal.returns
returns c = word-follows
