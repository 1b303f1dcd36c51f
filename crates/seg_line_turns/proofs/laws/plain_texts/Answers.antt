use Rattle.seg_line_turns.proofs.PlainTurns.{plain-agreement}
use Rattle.seg_line_turns.proofs.laws.plain_texts.Goals as goal

pub returns : goal.returns
returns c = λ cuts rules. plain-agreement rules cuts
