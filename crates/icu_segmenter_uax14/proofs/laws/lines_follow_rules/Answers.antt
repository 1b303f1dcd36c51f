use Rattle.icu_segmenter_uax14.specs.LineRules.{line_rules}
use Rattle.icu_segmenter_uax14.specs.Tailored.{machine_by}
use Rattle.icu_segmenter_uax14.proofs.LineTables.{plan, relation, tables}
use Rattle.icu_segmenter_uax14.proofs.Tailorings.{are-checked, pass}
use Rattle.icu_segmenter_uax14.proofs.laws.lines_follow_rules.Goals as goal

pub returns : goal.returns
returns c tailoring =
    c.boundaries_are_places.ensures line_rules 72 tables plan relation (machine_by tailoring) (pass tailoring) (are-checked tailoring)
