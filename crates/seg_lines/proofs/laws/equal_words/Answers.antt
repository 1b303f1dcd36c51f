use Rattle.seg_lines.proofs.LineLaws.{equal-words}
use Rattle.seg_lines.proofs.laws.equal_words.Goals as goal

pub returns : goal.returns
returns c = equal-words
