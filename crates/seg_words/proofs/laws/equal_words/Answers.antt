use Rattle.seg_words.proofs.ByRules.{equal-words}
use Rattle.seg_words.proofs.laws.equal_words.Goals as goal

pub returns : goal.returns
returns c = equal-words
