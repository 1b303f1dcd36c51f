use Rattle.seg_text.proofs.Covers.{covers-list}
use Rattle.seg_line_pairs.specs.LineBoundaries.{rules_by, inside, line_stretch}
use Rattle.seg_line_pairs.proofs.Inside.{inside-stand}
use Rattle.seg_line_pairs.proofs.LineStretches.{line-within}
use Rattle.seg_line_pairs.proofs.laws.strict_cover.Goals as goal

pub returns : goal.returns
returns c = λ cuts cover.
    covers-list (line_stretch (inside cuts) (rules_by c.args.pairs)) (line-within (rules_by c.args.pairs) (inside cuts) (inside-stand cuts cover))
