use Rattle.std.proofs.Common.{sym, ap, ◌∙◌, subst}
use Rattle.seg_clusters.specs.Payloads.{payloads_of, run_cuts_by}
use Rattle.seg_line_pairs.specs.LineBoundaries.{rules_by, KeepsMarks}
use Rattle.seg_lines.specs.declared.finder.Finder.{Finder}
use Rattle.seg_lines.specs.LineBreaks.{boundaries_with}
use Rattle.seg_lines.specs.Lines.{finder_of}
use Rattle.seg_lines.proofs.LineLaws.{marks-by-turns, no-turns}
use Rattle.seg_lines.proofs.laws.mark_law_17.Goals as goal

pub returns-in-Turns : goal.returns-in-Turns
returns-in-Turns c = λ rules is bear code_points.
    let payloads = payloads_of c.args.segmenter.payloads in
    subst (λ (finder : Finder). KeepsMarks rules code_points (boundaries_with (finder_of finder) payloads code_points)) (sym c.in-Turns.is)
    (marks-by-turns (rules_by c.in-Turns.pairs) rules payloads code_points (sym (ap finder_of c.in-Turns.is) ∙ is)
    (λ own_bear. c.mark_law.ensures (run_cuts_by payloads) c.facts.ensures.runs own_bear code_points) bear)

pub returns-in_default : goal.returns-in_default
returns-in_default c = λ rules is. absurd (no-turns c.args.segmenter.finder rules c.in_default.not-Turns is)
