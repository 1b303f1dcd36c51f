-- By default options the bench data of lines have no fault.
use Rattle.std.proofs.Common.{◌≡◌, Some, None, inl, inr, refl}
use Rattle.icu_segmenter.specs.declared.provider.DataError.{DataError}
use Rattle.icu_segmenter.specs.Options.{MachineTailorings, machine_choice}
use Rattle.icu_segmenter.specs.declared.options.LineBreakOptions.{LineBreakOptions}
use Rattle.icu_segmenter.specs.Machine.{Machine}
use Rattle.icu_segmenter.specs.Lines.{HasFaultWith, HasLineFault, chosen_rules, without_ja}
use Rattle.icu_segmenter.specs.LineBreaks.{machine_lines, table_lines, turn_lines}
use Rattle.icu_segmenter.specs.ScriptWords.{ScriptWords, AreSameWords, no_words}
use Rattle.icu_segmenter.specs.declared.provider.ComplexScript.TheVariants.{None as NoScript, Myanmar, ChineseOrJapanese, Khmer, Lao, Thai}
use Rattle.icu_segmenter.specs.LineRules.{default_rules, style_of}
use Rattle.icu_segmenter.specs.PairTable.{PairTable}
use Rattle.bench.specs.Lines.{line_machine}
use Rattle.bench.proofs.Scripts.{lines-not_complex}

none : (fault : DataError) → HasFaultWith line_machine (Some None) fault → ⊥
none fault (inl has) = has
none fault (inr has) = lines-not_complex has.1

-- the default options
abbrev pub IsDefault : LineBreakOptions → Type 0
IsDefault options = (options.strictness ≡ None) × ((options.word_option ≡ None) × (options.content_locale ≡ None))

-- by a pair table with the default options
pub table-default : (options : LineBreakOptions) → IsDefault options → (table clusters : PairTable) (words : ScriptWords)
    → table_lines (record { table = table; style = style_of options }) clusters words ≡ table_lines (default_rules table) clusters words
table-default options default table clusters words = rw (default.0, default.1.0, default.1.1) refl

pub turns-default : (options : LineBreakOptions) → IsDefault options → (table clusters : PairTable) (words : ScriptWords)
    → turn_lines (record { table = table; style = style_of options }) clusters words ≡ turn_lines (default_rules table) clusters words
turns-default options default table clusters words = rw (default.0, default.1.0, default.1.1) refl

module _ (machine : Machine) (tailorings : MachineTailorings) (options : LineBreakOptions) (default : IsDefault options) where
  pub no-fault : (fault : DataError) → machine ≡ line_machine → HasLineFault machine tailorings (machine_choice options) fault → ⊥
  no-fault fault is has = none fault (rw (default.0, default.1.0, default.1.1, is) at has)

  -- the machine of lines finds the breaks as it is
  pub chosen-plain : (clusters : Machine) → chosen_rules machine tailorings clusters (machine_choice options) ≡ machine_lines machine clusters no_words
  chosen-plain clusters = rw (default.0, default.1.0, default.1.1) refl

-- scripts that have equal words have them but for Chinese and Japanese too
pub same-without_ja : (words others : ScriptWords) → AreSameWords words others → AreSameWords (without_ja words) (without_ja others)
same-without_ja words others same NoScript = tt
same-without_ja words others same Myanmar = same Myanmar
same-without_ja words others same ChineseOrJapanese = tt
same-without_ja words others same Khmer = same Khmer
same-without_ja words others same Lao = same Lao
same-without_ja words others same Thai = same Thai
