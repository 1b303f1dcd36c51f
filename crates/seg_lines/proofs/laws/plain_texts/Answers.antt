use Rattle.std.proofs.Common.{ap, ◌∙◌}
use Rattle.seg_clusters.specs.Payloads.{payloads_of, run_cuts_by}
use Rattle.seg_line_pairs.specs.LineBoundaries.{inside}
use Rattle.seg_lines.specs.LineBreaks.{LineFinder, boundaries_with}
use Rattle.seg_lines.proofs.laws.plain_texts.Goals as goal

pub returns : goal.returns
returns c = λ rules is code_points plain none.
    let payloads = payloads_of c.args.segmenter.payloads in
    ap (λ (finder : LineFinder). boundaries_with finder payloads code_points) is
    ∙ c.plain_texts.ensures (inside (run_cuts_by payloads)) rules code_points plain none
