-- Unicode's data have no fault that a segmenter looks for: computations, and what follows for segmenters by them.
use Rattle.std.proofs.Common.{◌≡◌, Bool, true, false, None, refl}
use Rattle.std.specs.Prelude.{Result, IfErr}
use Rattle.ucd_table.proofs.TrieCheck.{all_below}
use Rattle.seg_data.specs.declared.provider.DataError.{DataError}
use Rattle.seg_data.specs.declared.provider.DataError.TheVariants.{Memory}
use Rattle.seg_data.specs.Faults.{IsLowestFault}
use Rattle.seg_data.specs.Table.{value_of}
use Rattle.seg_line_pairs.specs.declared.engines.LineEngine.TheVariants.{Classic, Seventeen}
use Rattle.seg_line_pairs.specs.declared.options.LineBreakOptions.{LineBreakOptions}
use Rattle.seg_line_pairs.specs.declared.options.LineBreakStrictness.{LineBreakStrictness}
use Rattle.seg_line_pairs.specs.declared.options.LineBreakStrictness.TheVariants as strictness
use Rattle.seg_line_pairs.specs.declared.options.LineBreakWordOption.{LineBreakWordOption}
use Rattle.seg_line_pairs.specs.declared.options.LineBreakWordOption.TheVariants as word_option
use Rattle.seg_line_pairs.specs.LineRules.{HasLineTableFault, is_complex_context, style_of}
use Rattle.seg_lines.specs.Lines.{HasLineFault}
use Rattle.seg_lines.specs.Options.{MachineTailorings, machine_choice, machine_for}
use Rattle.seg_machine.specs.Machine.{Machine, replaced, symbol_and_script, symbol_count, with_tailoring}
use Rattle.seg_machine.specs.MachineFaults.{HasTailoringFault}
use Rattle.seg_pairs.specs.PairData.{HasPairDataFault}
use Rattle.seg_pairs.specs.PairTable.{PairTable, class_of, entry_of}
use Rattle.seg_words.specs.Words.{HasWordMachineFault, HasWordTableFault}
use Rattle.icu_segmenter_uax14.specs.Lines.{line_machine, line_tailorings}
use Rattle.icu_segmenter_uax29.specs.TypedWords.{typed_word_machine}
use Rattle.icu_segmenter_data.specs.Unicode.{cluster_table, line_17_table, line_table, sentence_table, word_table}
use Rattle.icu_segmenter_data.proofs.Refusals.{is_latin_plain, memory-only, no-line-table-fault, no-pair-data-fault, no-tailored-fault, no-untailored-fault, no-word-machine-fault, no-word-table-fault, IsLineTable, IsPlain, IsTailored, IsWordTable}

clusters-are-plain : IsPlain cluster_table 20
unfolding all_below entry_of
clusters-are-plain = record { started = record { classes_are = refl; starts_are = refl }; plain_are = refl }

sentences-are-plain : IsPlain sentence_table 16
unfolding all_below entry_of
sentences-are-plain = record { started = record { classes_are = refl; starts_are = refl }; plain_are = refl }

words-are-words : IsWordTable word_table 24
unfolding all_below entry_of class_of value_of
words-are-words = record { started = record { classes_are = refl; starts_are = refl }; latin_is = refl }

lines-are-lines : IsLineTable Classic line_table
unfolding all_below class_of value_of
lines-are-lines = record { id_is = refl; latin_is = refl; complex_is = refl }

lines-17-are-lines : IsLineTable Seventeen line_17_table
unfolding is_complex_context all_below class_of value_of
lines-17-are-lines = record { id_is = refl; latin_is = refl; complex_is = refl }

typed-words-are-plain : all_below (is_latin_plain typed_word_machine) 0x100 ≡ true
unfolding typed_word_machine all_below symbol_and_script value_of replaced
typed-words-are-plain = refl

line-machine-is-plain : all_below (is_latin_plain line_machine) 0x100 ≡ true
unfolding line_machine all_below symbol_and_script value_of replaced
line-machine-is-plain = refl

break-all-is-tailored : IsTailored (with_tailoring line_machine line_tailorings.breakall) 73
unfolding line_machine line_tailorings all_below symbol_and_script symbol_count value_of replaced
break-all-is-tailored = record { symbols_are = refl; values_are = refl; entries_are = refl; replaced_are = refl; latin_is = refl }

keep-all-is-tailored : IsTailored (with_tailoring line_machine line_tailorings.keepall) 73
unfolding line_machine line_tailorings all_below symbol_and_script symbol_count value_of replaced
keep-all-is-tailored = record { symbols_are = refl; values_are = refl; entries_are = refl; replaced_are = refl; latin_is = refl }

ja-loose-is-tailored : IsTailored (with_tailoring line_machine line_tailorings.ja_loose) 73
unfolding line_machine line_tailorings all_below symbol_and_script symbol_count value_of replaced
ja-loose-is-tailored = record { symbols_are = refl; values_are = refl; entries_are = refl; replaced_are = refl; latin_is = refl }

loose-is-tailored : IsTailored (with_tailoring line_machine line_tailorings.loose) 73
unfolding line_machine line_tailorings all_below symbol_and_script symbol_count value_of replaced
loose-is-tailored = record { symbols_are = refl; values_are = refl; entries_are = refl; replaced_are = refl; latin_is = refl }

ja-normal-is-tailored : IsTailored (with_tailoring line_machine line_tailorings.ja_normal) 73
unfolding line_machine line_tailorings all_below symbol_and_script symbol_count value_of replaced
ja-normal-is-tailored = record { symbols_are = refl; values_are = refl; entries_are = refl; replaced_are = refl; latin_is = refl }

normal-is-tailored : IsTailored (with_tailoring line_machine line_tailorings.normal) 73
unfolding line_machine line_tailorings all_below symbol_and_script symbol_count value_of replaced
normal-is-tailored = record { symbols_are = refl; values_are = refl; entries_are = refl; replaced_are = refl; latin_is = refl }

ja-is-tailored : IsTailored (with_tailoring line_machine line_tailorings.ja) 73
unfolding line_machine line_tailorings all_below symbol_and_script symbol_count value_of replaced
ja-is-tailored = record { symbols_are = refl; values_are = refl; entries_are = refl; replaced_are = refl; latin_is = refl }

-- ---- segmenters

pub clusters-memory-alone : {X : Type 0} (made : Result X DataError) (t : PairTable) → t ≡ cluster_table
    → IfErr made (IsLowestFault (HasPairDataFault t None)) → IfErr made (λ fault. fault ≡ Memory)
clusters-memory-alone made t is rejected =
    memory-only made (HasPairDataFault cluster_table None) (no-pair-data-fault cluster_table 20 clusters-are-plain) (rw is at rejected)

pub sentences-memory-alone : {X : Type 0} (made : Result X DataError) (t : PairTable) → t ≡ sentence_table
    → IfErr made (IsLowestFault (HasPairDataFault t None)) → IfErr made (λ fault. fault ≡ Memory)
sentences-memory-alone made t is rejected =
    memory-only made (HasPairDataFault sentence_table None) (no-pair-data-fault sentence_table 16 sentences-are-plain) (rw is at rejected)

pub word-table-memory-alone : {X : Type 0} (made : Result X DataError) (t clusters : PairTable) → t ≡ word_table → clusters ≡ cluster_table
    → IfErr made (IsLowestFault (HasWordTableFault t None clusters)) → IfErr made (λ fault. fault ≡ Memory)
word-table-memory-alone made t clusters is by rejected =
    memory-only made (HasWordTableFault word_table None cluster_table) (no-word-table-fault word_table cluster_table 24 20 words-are-words clusters-are-plain)
    (rw (is, by) at rejected)

pub line-table-memory-alone : {X : Type 0} (made : Result X DataError) (t clusters : PairTable) → t ≡ line_table → clusters ≡ cluster_table
    → IfErr made (IsLowestFault (HasLineTableFault Classic t clusters)) → IfErr made (λ fault. fault ≡ Memory)
line-table-memory-alone made t clusters is by rejected =
    memory-only made (HasLineTableFault Classic line_table cluster_table) (no-line-table-fault Classic line_table cluster_table 20 lines-are-lines clusters-are-plain)
    (rw (is, by) at rejected)

pub line-17-table-memory-alone : {X : Type 0} (made : Result X DataError) (t clusters : PairTable) → t ≡ line_17_table → clusters ≡ cluster_table
    → IfErr made (IsLowestFault (HasLineTableFault Seventeen t clusters)) → IfErr made (λ fault. fault ≡ Memory)
line-17-table-memory-alone made t clusters is by rejected =
    memory-only made (HasLineTableFault Seventeen line_17_table cluster_table)
    (no-line-table-fault Seventeen line_17_table cluster_table 20 lines-17-are-lines clusters-are-plain) (rw (is, by) at rejected)

pub words-memory-alone : {X : Type 0} (made : Result X DataError) (m : Machine) (clusters : PairTable) → m ≡ typed_word_machine → clusters ≡ cluster_table
    → IfErr made (IsLowestFault (HasWordMachineFault m clusters)) → IfErr made (λ fault. fault ≡ Memory)
words-memory-alone made m clusters is by rejected =
    memory-only made (HasWordMachineFault typed_word_machine cluster_table)
    (no-word-machine-fault typed_word_machine cluster_table 20 typed-words-are-plain clusters-are-plain) (rw (is, by) at rejected)

-- a machine without a tailoring has no fault with one
pub machine-memory-alone : {X : Type 0} (made : Result X DataError) (m : Machine) → IfErr made (IsLowestFault (HasTailoringFault m None))
    → IfErr made (λ fault. fault ≡ Memory)
machine-memory-alone made m rejected = memory-only made (HasTailoringFault m None) (λ fault has. has) rejected

no-line-fault : (word : LineBreakWordOption) (style : LineBreakStrictness) (is_ja : Bool) (fault : DataError)
    → HasLineFault line_machine line_tailorings (machine_for word style is_ja) fault → ⊥
unfolding line_tailorings
no-line-fault word_option.BreakAll style is_ja fault has = no-tailored-fault line_machine _ 73 break-all-is-tailored fault has
no-line-fault word_option.KeepAll style is_ja fault has = no-tailored-fault line_machine _ 73 keep-all-is-tailored fault has
no-line-fault word_option.Normal strictness.Anywhere is_ja fault has = has
no-line-fault word_option.Normal strictness.Loose true fault has = no-tailored-fault line_machine _ 73 ja-loose-is-tailored fault has
no-line-fault word_option.Normal strictness.Loose false fault has = no-tailored-fault line_machine _ 73 loose-is-tailored fault has
no-line-fault word_option.Normal strictness.Normal true fault has = no-tailored-fault line_machine _ 73 ja-normal-is-tailored fault has
no-line-fault word_option.Normal strictness.Normal false fault has = no-tailored-fault line_machine _ 73 normal-is-tailored fault has
no-line-fault word_option.Normal strictness.Strict true fault has = no-tailored-fault line_machine _ 73 ja-is-tailored fault has
no-line-fault word_option.Normal strictness.Strict false fault has = no-untailored-fault line_machine line-machine-is-plain fault has

pub lines-memory-alone : {X : Type 0} (made : Result X DataError) (m : Machine) (tailorings : MachineTailorings) (options : LineBreakOptions) → m ≡ line_machine
    → tailorings ≡ line_tailorings → IfErr made (IsLowestFault (HasLineFault m tailorings (machine_choice options))) → IfErr made (λ fault. fault ≡ Memory)
lines-memory-alone made m tailorings options is tailored rejected =
    let style = style_of options in
    memory-only made (HasLineFault line_machine line_tailorings (machine_choice options)) (no-line-fault style.word_option style.strictness style.is_ja_or_zh)
    (rw (is, tailored) at rejected)
