use Rattle.seg_line_pairs.specs.LineBoundaries.{rules_by, inside}
use Rattle.seg_line_pairs.proofs.Inside.{inside-stand}
use Rattle.seg_line_pairs.proofs.MarkLaw.{line-keeps}
use Rattle.seg_line_pairs.proofs.Marks.{unnamed-apart}
use Rattle.seg_line_pairs.proofs.laws.mark_law.Goals as goal

pub returns : goal.returns
returns c = λ cuts cover.
    line-keeps (rules_by c.args.pairs) (inside cuts) (inside-stand cuts cover) (unnamed-apart (rules_by c.args.pairs).table.complex_property c.args.pairs.complex_apart)
