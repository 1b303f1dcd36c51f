-- The machine of lines and its tailorings, of just the arrays that stand in the code.
use Rattle.std.specs.Prelude.{ℕ, Some, List, []}
use Rattle.seg_data.specs.Table.{table}
use Rattle.seg_data.specs.declared.provider.ComplexScript.{ComplexScript}
use Rattle.seg_machine.specs.Machine.{Machine, Replacement, machine, tailoring, with_tailoring}
use Rattle.seg_lines.specs.Options.{MachineTailorings}
use Rattle.icu_segmenter_uax14.specs.declared.states.TheConstants.{STATES, TRANSITIONS}
use Rattle.icu_segmenter_uax14.specs.declared.data.TheConstants.{RANGES, OTHER, SHIFT, MAP, BREAK_ALL, BREAK_ALL_REPLACED, KEEP_ALL, KEEP_ALL_REPLACED, JA_LOOSE, LOOSE, JA_NORMAL, NORMAL, JA}

unfoldable pub line_machine : Machine
line_machine = machine (table RANGES OTHER) STATES TRANSITIONS 1 SHIFT MAP

-- the machine by a tailoring of these parts
abbrev pub tailored_machine : List (ℕ × ComplexScript) → List Replacement → Machine
tailored_machine map replacements = with_tailoring line_machine (Some (tailoring map replacements))

unfoldable pub line_tailorings : MachineTailorings
line_tailorings = record {
  breakall = Some (tailoring BREAK_ALL BREAK_ALL_REPLACED);
  keepall = Some (tailoring KEEP_ALL KEEP_ALL_REPLACED);
  ja_loose = Some (tailoring JA_LOOSE []);
  loose = Some (tailoring LOOSE []);
  ja_normal = Some (tailoring JA_NORMAL []);
  normal = Some (tailoring NORMAL []);
  ja = Some (tailoring JA []);
}
