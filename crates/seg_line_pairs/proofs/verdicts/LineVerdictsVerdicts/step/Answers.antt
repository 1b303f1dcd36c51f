use Rattle.std.proofs.Common.{◌∙◌, refl, sym}
use Rattle.seg_line_pairs.specs.LineBoundaries.{rules_by}
use Rattle.seg_line_pairs.proofs.UnitLandings.{unit-last, unit-case, unit-table}
use Rattle.seg_line_pairs.proofs.verdicts.LineVerdictsVerdicts.step.Goals as goal

pub returns-in_default-clause-lands : goal.returns-in_default-clause-lands
returns-in_default-clause-lands g c = unit-last (rules_by c.args.self.now.pairs) _ _ _ c.in_default.ensures.gives.0 c.in_default.ensures.gives.1

pub returns-in-Run-clause-lands : goal.returns-in-Run-clause-lands
returns-in-Run-clause-lands g c = unit-case (rules_by c.args.self.now.pairs) _ _ _ _ _ _ _ c.in-Some.ensures.gives (sym c.in-Run.is ∙ c.case_of.ensures) refl

pub returns-in-Together-clause-lands : goal.returns-in-Together-clause-lands
returns-in-Together-clause-lands g c = unit-case (rules_by c.args.self.now.pairs) _ _ _ _ _ _ _ c.in-Some.ensures.gives (sym c.in-Together.is ∙ c.case_of.ensures) refl

pub returns-in-Apart-clause-lands : goal.returns-in-Apart-clause-lands
returns-in-Apart-clause-lands g c = unit-case (rules_by c.args.self.now.pairs) _ _ _ _ _ _ _ c.in-Some.ensures.gives (sym c.in-Apart.is ∙ c.case_of.ensures) (refl, refl)

pub returns-in-Table-clause-lands : goal.returns-in-Table-clause-lands
returns-in-Table-clause-lands g c =
    unit-table (rules_by c.args.self.now.pairs) c.table.result.now c.args.left c.in-Some.right _ _ _ _ c.in-Some.ensures.gives (sym c.in-Table.is ∙ c.case_of.ensures)
    c.table.ensures.value (c.table_step.ensures.lands _)
