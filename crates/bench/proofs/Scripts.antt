-- No code point below U+0100 has a script in the bench machines of lines and of words, or is complex in the pair tables of words and of lines, of either engine.
use Rattle.std.proofs.Common.{◌≡◌, ℕ, Bool, true, false, not, ◌==◌, None, refl, sym, ap, ◌∙◌, eq-eqb}
use Rattle.std.proofs.lemmas.Bool.{false≢true}
use Rattle.seg_data.specs.declared.provider.ComplexScript.{ComplexScript}
use Rattle.seg_data.specs.declared.provider.ComplexScript.TheVariants.{None as NoScript}
use Rattle.seg_data.specs.declared.provider.DataError.TheVariants.{ComplexBelow0100}
use Rattle.seg_data.specs.Table.{value_of}
use Rattle.seg_machine.specs.Machine.{Machine, replaced, symbol_and_script}
use Rattle.seg_machine.specs.MachineFaults.{HasComplexBelow0100}
use Rattle.seg_pairs.specs.PairData.{HasComplexClassBelow0100}
use Rattle.seg_pairs.specs.PairTable.{PairTable, class_of}
use Rattle.icu_segmenter.specs.LineEngine.{LineEngine}
use Rattle.icu_segmenter.specs.LineEngine.TheVariants.{Classic, Seventeen}
use Rattle.icu_segmenter.specs.LineRules.{HasOwnLineFault, is_complex_by, is_complex_context}
use Rattle.bench.specs.Lines.{line_machine}
use Rattle.bench.specs.LineTables.{line_table}
use Rattle.bench.specs.PairTables.{word_table}
use Rattle.bench.specs.TurnTables.{turn_table}
use Rattle.bench.specs.Words.{word_machine}
use Rattle.bench.proofs.Faultless.{all_below, all_below-at}

is_no_script : ComplexScript → Bool
is_no_script NoScript = true
is_no_script _ = false

no-script : (script : ComplexScript) → is_no_script script ≡ true → script ≡ NoScript
unfolding is_no_script
no-script NoScript is = refl
no-script _ is = cc

has_no_script : Machine → ℕ → Bool
has_no_script m code_point = is_no_script (symbol_and_script m code_point).1

pub lines-not_complex : HasComplexBelow0100 line_machine → ⊥
unfolding all_below has_no_script is_no_script symbol_and_script replaced value_of
lines-not_complex (code_point, below, script) =
    script (no-script _ (all_below-at (has_no_script line_machine) 0x100 code_point refl below))

pub words-not_complex : HasComplexBelow0100 word_machine → ⊥
unfolding all_below has_no_script is_no_script symbol_and_script replaced value_of
words-not_complex (code_point, below, script) =
    script (no-script _ (all_below-at (has_no_script word_machine) 0x100 code_point refl below))

is_not_complex : PairTable → ℕ → Bool
is_not_complex t code_point = not (class_of t None code_point == t.complex_property)

no-complex : (t : PairTable) (code_point : ℕ) → is_not_complex t code_point ≡ true → class_of t None code_point ≡ t.complex_property → ⊥
unfolding is_not_complex
no-complex t code_point passed is = false≢true (ap not (sym (eq-eqb _ _ is)) ∙ passed)

pub word_table-not_complex : HasComplexClassBelow0100 word_table None → ⊥
unfolding all_below is_not_complex class_of value_of
word_table-not_complex (code_point, below, complex) =
    no-complex word_table code_point (all_below-at (is_not_complex word_table) 0x100 code_point refl below) complex

is_simple : LineEngine → PairTable → ℕ → Bool
is_simple engine t code_point = not (is_complex_by engine t (class_of t None code_point))

simple : (engine : LineEngine) (t : PairTable) (code_point : ℕ) → is_simple engine t code_point ≡ true
    → is_complex_by engine t (class_of t None code_point) ≡ true → ⊥
unfolding is_simple
simple engine t code_point passed complex = false≢true (ap not (sym complex) ∙ passed)

pub line_table-not_complex : HasOwnLineFault Classic line_table ComplexBelow0100 → ⊥
unfolding all_below is_simple class_of value_of
line_table-not_complex (code_point, below, complex) =
    simple Classic line_table code_point (all_below-at (is_simple Classic line_table) 0x100 code_point refl below) complex

pub turn_table-not_complex : HasOwnLineFault Seventeen turn_table ComplexBelow0100 → ⊥
unfolding all_below is_simple is_complex_context class_of value_of
turn_table-not_complex (code_point, below, complex) =
    simple Seventeen turn_table code_point (all_below-at (is_simple Seventeen turn_table) 0x100 code_point refl below) complex
