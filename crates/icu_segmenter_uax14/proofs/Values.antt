-- The symbol of a code point, by the value of its range.
use Rattle.std.proofs.Common.{◌≡◌, ℕ, ◌-◌, cond, nat_lt, List, [], ◌∷◌, find, Some, refl, sym, ap, ◌∙◌}
use Rattle.std.specs.Prelude.{if◌then◌else◌, slice_index_or}
use Rattle.std.specs.Option.{option_map_or}
use Rattle.std.proofs.lemmas.Bool.{cond_both, cond-true, cond-false}
use Rattle.ucd_table.specs.Rows.{value_in}
use Rattle.seg_data.specs.declared.provider.ComplexScript.{ComplexScript}
use Rattle.seg_data.specs.declared.provider.ComplexScript.TheVariants.{None as NoScript}
use Rattle.seg_data.specs.Table.{holds, value_of}
use Rattle.seg_machine.specs.Machine.{Replacement, replaced, symbol_and_script}
use Rattle.icu_segmenter_uax14.specs.Lines.{line_machine, tailored_machine}
use Rattle.icu_segmenter_uax14.specs.declared.data.TheConstants.{RANGES, OTHER, SHIFT}

find-value-in : (ranges : List (ℕ × ℕ × ℕ)) (default c : ℕ) → option_map_or (λ range. range.2) (find (holds c) ranges) default ≡ value_in default ranges c
unfolding value_in
find-value-in [] default c = refl
find-value-in (range ∷ ranges) default c =
    cond_both (holds c range) (Some range) (find (holds c) ranges)
    (λ found. option_map_or (λ range. range.2) found default ≡ cond (holds c range) range.2 (value_in default ranges c))
    (λ here. sym (cond-true _ _ _ here))
    (λ other. find-value-in ranges default c ∙ sym (cond-false _ _ _ other))

abbrev pub value : ℕ → ℕ
value = value_in OTHER RANGES

-- what a tailoring makes of a value
abbrev pub symbol_by : List (ℕ × ComplexScript) → List Replacement → ℕ → ℕ × ComplexScript
symbol_by map replacements v = if nat_lt v SHIFT then replaced replacements v else slice_index_or map (v - SHIFT) (0, NoScript)

pub symbol-is : (map : List (ℕ × ComplexScript)) (replacements : List Replacement) (c : ℕ)
    → symbol_and_script (tailored_machine map replacements) c ≡ symbol_by map replacements (value c)
unfolding symbol_and_script value_of line_machine
symbol-is map replacements c = ap (symbol_by map replacements) (find-value-in RANGES OTHER c)
