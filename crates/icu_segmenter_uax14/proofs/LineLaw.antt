-- The machine of lines, by any tailoring, passes the tests of the law.
use Rattle.std.proofs.Common.{◌≡◌, ℕ, true, List, refl, sym, subst}
use Rattle.seg_data.specs.declared.provider.ComplexScript.{ComplexScript}
use Rattle.seg_machine.specs.Machine.{Replacement}
use Rattle.seg_rules.specs.RowRules.{once_number}
use Rattle.seg_rules.specs.Check.{get, scans_hold, tables_hold}
use Rattle.seg_rules.specs.Places.{Passes, plan_holds, states_hold, column, columns, same_numbers, nexts_below, all_nexts_below}
use Rattle.icu_segmenter_uax14.specs.LineRules.{line_rules}
use Rattle.icu_segmenter_uax14.specs.Lines.{line_machine, tailored_machine}
use Rattle.icu_segmenter_uax14.proofs.LineTables.{accepts, nexts, plan, relation, rules-are, scans-hold, tables, tables-hold}

plan-holds : (map : List (ℕ × ComplexScript)) (replaced : List Replacement) → plan_holds (tailored_machine map replaced) 72 plan ≡ true
unfolding line_machine accepts nexts plan once_number get states_hold column columns same_numbers nexts_below all_nexts_below
plan-holds map replaced = refl

pub line-passes : (map : List (ℕ × ComplexScript)) (replaced : List Replacement) → Passes line_rules 72 tables relation plan (tailored_machine map replaced)
line-passes map replaced = record {
  tables = subst (λ rules. tables_hold rules 72 tables ≡ true) (sym rules-are) tables-hold;
  scans = subst (λ rules. scans_hold rules tables plan relation ≡ true) (sym rules-are) scans-hold;
  machine = plan-holds map replaced;
}
