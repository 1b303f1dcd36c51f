use Rattle.std.proofs.Common.{sym, ap, ◌∙◌, subst}
use Rattle.seg_clusters.specs.Payloads.{payloads_of, run_cuts_by}
use Rattle.seg_line_pairs.specs.LineBoundaries.{rules_by, KeepsMarks}
use Rattle.seg_lines.specs.declared.finder.Finder.{Finder}
use Rattle.seg_lines.specs.LineBreaks.{boundaries_with}
use Rattle.seg_lines.specs.Lines.{finder_of}
use Rattle.seg_lines.proofs.LineLaws.{marks-by-table, no-table}
use Rattle.seg_lines.proofs.laws.mark_law.Goals as goal

pub returns-in-Table : goal.returns-in-Table
returns-in-Table c = λ rules is code_points.
    let payloads = payloads_of c.args.segmenter.payloads in
    subst (λ (finder : Finder). KeepsMarks rules code_points (boundaries_with (finder_of finder) payloads code_points)) (sym c.in-Table.is)
    (marks-by-table (rules_by c.in-Table.pairs) rules payloads code_points (sym (ap finder_of c.in-Table.is) ∙ is) (c.mark_law.ensures (run_cuts_by payloads) c.facts.ensures.runs code_points))

pub returns-in_default : goal.returns-in_default
returns-in_default c = λ rules is. absurd (no-table c.args.segmenter.finder rules c.in_default.not-Table is)
