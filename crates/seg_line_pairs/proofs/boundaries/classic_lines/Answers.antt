use Rattle.std.proofs.Common.{◌∙◌}
use Rattle.seg_clusters.specs.Payloads.{payloads_of, run_cuts_by}
use Rattle.seg_line_pairs.specs.LineBoundaries.{inside, rules_by}
use Rattle.seg_line_pairs.proofs.LinesLeft.{lines-cover, starts-at}
use Rattle.seg_line_pairs.proofs.boundaries.classic_lines.Goals as goal

pub returns-clause-boundaries : goal.returns-clause-boundaries
returns-clause-boundaries g c =
    c.new-2.ensures.boundaries
    ∙ starts-at (inside (run_cuts_by (payloads_of c.args.payloads))) (rules_by c.args.pairs) (g.I.Cursor.text c.args.text) _ c.new.ensures

pub returns-clause-cover : goal.returns-clause-cover
returns-clause-cover g c =
    let cuts = run_cuts_by (payloads_of c.args.payloads) in
    let text = g.I.Cursor.text c.args.text in
    lines-cover cuts c.facts.ensures.runs (rules_by c.args.pairs) text _
    (c.new-2.ensures.boundaries ∙ starts-at (inside cuts) (rules_by c.args.pairs) text _ c.new.ensures)
    (g.met.I.Cursor.rises c.args.text)
