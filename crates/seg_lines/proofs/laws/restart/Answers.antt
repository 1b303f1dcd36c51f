use Rattle.seg_lines.specs.Lines.{line_rules}
use Rattle.seg_lines.proofs.LineLaws.{restarts-without}
use Rattle.seg_lines.proofs.laws.restart.Goals as goal

pub returns : goal.returns
returns c = restarts-without (line_rules c.args.segmenter)
