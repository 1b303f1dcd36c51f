use Rattle.seg_words.proofs.ByRules.{one-by}
use Rattle.seg_words.proofs.laws.boundaries_are_one.Goals as goal

pub returns : goal.returns
returns c = one-by _
