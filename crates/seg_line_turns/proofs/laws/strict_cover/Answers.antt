use Rattle.seg_line_pairs.specs.LineBoundaries.{inside}
use Rattle.seg_line_pairs.proofs.Inside.{inside-stand}
use Rattle.seg_line_turns.proofs.TurnStretches.{turns-cover}
use Rattle.seg_line_turns.proofs.laws.strict_cover.Goals as goal

pub returns : goal.returns
returns c = λ cuts rules cover. turns-cover (inside cuts) (inside-stand cuts cover) rules
