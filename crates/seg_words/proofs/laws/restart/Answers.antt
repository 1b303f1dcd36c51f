use Rattle.seg_words.proofs.ByRules.{restarts-by}
use Rattle.seg_words.proofs.laws.restart.Goals as goal

pub returns : goal.returns
returns c = restarts-by _
