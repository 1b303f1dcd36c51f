use Rattle.seg_lines.specs.Lines.{line_rules}
use Rattle.seg_lines.proofs.NoMandatoryBreak.{no-mandatory}
use Rattle.seg_lines.proofs.laws.no_mandatory_break.Goals as goal

pub returns : goal.returns
returns c = λ by code_points. no-mandatory (line_rules c.args.segmenter).finder (line_rules c.args.segmenter).payloads by code_points
