-- The machine of lines, and the machine by each tailoring, have no fault and are checked.
use Rattle.std.proofs.Common.{ℕ, refl, arith, List, []}
use Rattle.ucd_table.proofs.TrieCheck.{all_below}
use Rattle.seg_data.specs.declared.provider.ComplexScript.{ComplexScript}
use Rattle.seg_machine.specs.Machine.{Replacement, state_at, step, symbol_and_script, symbol_count, tailoring}
use Rattle.seg_machine.specs.MachineFaults.{HasTextSymbols, IsChecked}
use Rattle.seg_machine.proofs.Bare.{checked-tailored}
use Rattle.icu_segmenter_uax14.specs.Characters.{LineStyle, HasStyle, strict}
use Rattle.icu_segmenter_uax14.specs.Lines.{line_machine, tailored_machine}
use Rattle.icu_segmenter_uax14.specs.declared.data.TheConstants.{MAP}
use Rattle.icu_segmenter_uax29.proofs.Cells.{cells}
use Rattle.icu_segmenter_uax14.proofs.LineTables.{waits}
use Rattle.icu_segmenter_uax14.proofs.LineSymbols.{strict-given}
use Rattle.icu_segmenter_uax29.proofs.MachineTests.{IsSound, is-checked}

pub line-machine-is-sound : IsSound line_machine 126 72 waits
unfolding line_machine all_below state_at step symbol_count cells waits
line-machine-is-sound =
    record {
      ranges_are = refl;
      ranges_rise = refl;
      values_are = refl;
      entries_are = refl;
      nothing_replaced = refl;
      nexts_are = refl;
      states_are = refl;
      state_count = refl;
      some_states = omega arith;
      few_states = omega arith;
      size = refl;
      few_symbols = omega arith;
      symbols_are = refl;
      few_lookaheads = omega arith;
      goes = refl;
      ends_are = refl;
    }

-- what means properties is a symbol of a text
text-symbols : (map : List (ℕ × ComplexScript)) (replacements : List Replacement) (tailored : LineStyle)
    → ((c : ℕ) → HasStyle tailored c (symbol_and_script (tailored_machine map replacements) c).0) → HasTextSymbols (tailored_machine map replacements)
unfolding line_machine symbol_count
text-symbols map replacements tailored stands c = ((stands c).some, (stands c).below)

pub line-machine-is-checked : IsChecked line_machine
unfolding line_machine
line-machine-is-checked = is-checked line_machine 126 72 waits line-machine-is-sound (text-symbols MAP [] strict strict-given.symbols)

pub tailored-is-checked : (map : List (ℕ × ComplexScript)) (replacements : List Replacement) (tailored : LineStyle)
    → ((c : ℕ) → HasStyle tailored c (symbol_and_script (tailored_machine map replacements) c).0) → IsChecked (tailored_machine map replacements)
tailored-is-checked map replacements tailored stands =
    checked-tailored line_machine (tailoring map replacements) line-machine-is-checked (text-symbols map replacements tailored stands)
