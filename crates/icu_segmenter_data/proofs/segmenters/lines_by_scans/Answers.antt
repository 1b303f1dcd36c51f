use Rattle.seg_data.specs.Faults.{IsFaultless}
use Rattle.icu_segmenter.specs.Lines.{HasLineFault}
use Rattle.icu_segmenter.specs.Options.{machine_choice}
use Rattle.icu_segmenter_data.proofs.ChosenLines.{are-lines}
use Rattle.icu_segmenter_data.proofs.Refused.{lines-memory-alone}
use Rattle.icu_segmenter_data.proofs.segmenters.lines_by_scans.Goals as goal

pub returns-clause-lines : goal.returns-clause-lines
returns-clause-lines c =
    let m = c.in_ok-line_machine.field-0 in
    let tailorings = c.in_ok-line_tailorings.field-0 in
    are-lines _ m c.in_ok-cluster_machine.field-0 tailorings c.args.options (λ lines. IsFaultless (HasLineFault m tailorings (machine_choice c.args.options)))
    c.in_ok-line_machine.ensures.made c.in_ok-line_tailorings.ensures.made c.segmenters_follow_rules.ensures
    c.try_new_neo_for_non_complex_scripts.ensures.accepted

pub returns-clause-rejected : goal.returns-clause-rejected
returns-clause-rejected c =
    lines-memory-alone c.try_new_neo_for_non_complex_scripts.result c.in_ok-line_machine.field-0 c.in_ok-line_tailorings.field-0 c.args.options
    c.in_ok-line_machine.ensures.made c.in_ok-line_tailorings.ensures.made c.try_new_neo_for_non_complex_scripts.ensures.rejected
