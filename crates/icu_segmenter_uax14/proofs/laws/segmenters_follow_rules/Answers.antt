use Rattle.std.proofs.Common.{◌∙◌, ap, List}
use Rattle.seg_text.specs.declared.boundary.Boundary.{Boundary}
use Rattle.seg_clusters.specs.Spans.{inner_cuts}
use Rattle.seg_lines.specs.LineBreaks.{LineFinder, boundaries_with, joined}
use Rattle.seg_lines.proofs.LineLaws.{without-cuts}
use Rattle.icu_segmenter_uax14.specs.Tailored.{machine_by}
use Rattle.icu_segmenter_uax14.proofs.laws.segmenters_follow_rules.Goals as goal

pub returns : goal.returns
returns c rules tailoring is = record {
  with_words = λ cs.
      ap (λ (finder : LineFinder). boundaries_with finder rules.payloads cs) is
      ∙ ap (λ (boundaries : List Boundary). joined boundaries (inner_cuts (machine_by tailoring) rules.payloads cs)) (c.lines_follow_rules.ensures tailoring cs);
  without_words = λ none cs.
      ap (λ (finder : LineFinder). boundaries_with finder rules.payloads cs) is
      ∙ without-cuts (machine_by tailoring) rules.payloads cs none
      ∙ c.lines_follow_rules.ensures tailoring cs;
}
