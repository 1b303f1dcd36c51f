-- What the boundaries of lines are found by: options, classes as they are read, and the faults of data.
use Rattle.std.specs.Prelude.{ℕ, Bool, true, false, ◌||◌, List, codes, ◌==◌, ◌&&◌, if◌then◌else◌, None, [], ◌∷◌, ◌≡◌, nat_le, not, ◌<◌, ◌≤◌, ◌⊎◌, map}
use Rattle.std.specs.Option.{option_map_or, unwrap_or}
use Rattle.std.specs.Str.{bytes_eq}
use Rattle.seg_data.specs.declared.provider.DataError.{DataError}
use Rattle.seg_data.specs.declared.provider.DataError.TheVariants.{ClassOutOfRange, ComplexBelow0100, ComplexClassNamed}
use Rattle.seg_pairs.specs.PairTable.{PairTable, class_of}
use Rattle.seg_pairs.specs.PairData.{HasPairDataFault}
use Rattle.seg_line_pairs.specs.declared.options.LineBreakOptions.{LineBreakOptions}
use Rattle.seg_line_pairs.specs.declared.options.LineBreakStrictness.{LineBreakStrictness}
use Rattle.seg_line_pairs.specs.declared.options.LineBreakStrictness.TheVariants as strictness
use Rattle.seg_line_pairs.specs.declared.options.LineBreakWordOption.{LineBreakWordOption}
use Rattle.seg_line_pairs.specs.declared.options.LineBreakWordOption.TheVariants as word_option
use Rattle.seg_line_pairs.specs.declared.options.LineStyle.{LineStyle}
use Rattle.seg_line_pairs.specs.declared.engines.LineEngine.{LineEngine}
use Rattle.seg_line_pairs.specs.LineClasses.{LineClass, class_number}
use Rattle.seg_line_pairs.specs.LineClasses.LineClass.{AL, AL_DOTTED_CIRCLE, AL_EASTASIAN, CJ, ID, NU, SA, SA_MC_MN}
use Rattle.seg_line_pairs.specs.declared.engines.LineEngine.TheVariants.{Classic, Seventeen}

-- What options say of lines, where those that aren't given have their defaults.

-- a language is Japanese or Chinese
abbrev pub is_ja_or_zh : List ℕ → Bool
is_ja_or_zh language = bytes_eq language (codes "ja") || bytes_eq language (codes "zh")

-- without a word option it is Normal, without a strictness Strict
abbrev pub style_of : LineBreakOptions → LineStyle
style_of options = record {
  strictness = unwrap_or options.strictness strictness.Strict;
  word_option = unwrap_or options.word_option word_option.Normal;
  is_ja_or_zh = option_map_or (λ locale. is_ja_or_zh locale.now) options.content_locale false;
}

abbrev pub is_break_all : LineBreakWordOption → Bool
is_break_all word_option.BreakAll = true
is_break_all word_option.KeepAll = false
is_break_all word_option.Normal = false

abbrev pub is_keep_all : LineBreakWordOption → Bool
is_keep_all word_option.KeepAll = true
is_keep_all word_option.BreakAll = false
is_keep_all word_option.Normal = false

abbrev pub is_loose_or_normal : LineBreakStrictness → Bool
is_loose_or_normal strictness.Loose = true
is_loose_or_normal strictness.Normal = true
is_loose_or_normal strictness.Strict = false
is_loose_or_normal strictness.Anywhere = false

-- What the boundaries of lines are found by, and the classes that code points have by it.

-- a pair table of an engine, and what options say
pub record TableRules (engine : LineEngine) : Type 0 where
  pub table : PairTable
  pub style : LineStyle

-- the table, and what the default options say
abbrev pub default_rules : {engine : LineEngine} → PairTable → TableRules engine
default_rules table = record {
  table = table;
  style = record { strictness = strictness.Strict; word_option = word_option.Normal; is_ja_or_zh = false };
}

-- the number is one of these
abbrev pub is_among : List ℕ → ℕ → Bool
is_among [] number = false
is_among (one ∷ others) number = number == one || is_among others number

-- .. or that of one of these classes
abbrev pub is_one_of : LineEngine → List LineClass → ℕ → Bool
is_one_of engine classes class = is_among (map (class_number engine) classes) class

-- the classes of letters that have no other: the engine 17 tells the wide ones and the dotted circle apart
abbrev pub alphabetic : LineEngine → List LineClass
alphabetic Classic = AL ∷ []
alphabetic Seventeen = AL ∷ AL_DOTTED_CIRCLE ∷ AL_EASTASIAN ∷ []

-- a class that the options read as ID: CJ under BreakAll, Loose or Normal; complex, digits and letters under BreakAll
abbrev pub is_read_as_id : LineEngine → LineStyle → ℕ → ℕ → Bool
is_read_as_id engine style complex class =
    (is_one_of engine (CJ ∷ []) class && (is_break_all style.word_option || is_loose_or_normal style.strictness))
    || (is_among (complex ∷ map (class_number engine) (NU ∷ alphabetic engine)) class && is_break_all style.word_option)

abbrev pub class_read : LineEngine → LineStyle → ℕ → ℕ → ℕ
class_read engine style complex class = if is_read_as_id engine style complex class then class_number engine ID else class

-- the class of a code point, as the options read it
unfoldable pub line_class : {engine : LineEngine} → TableRules engine → ℕ → ℕ
line_class {engine} rules code_point = class_read engine rules.style rules.table.complex_property (class_of rules.table None code_point)

-- SA, Complex_Context, and its marks
unfoldable pub is_complex_context : ℕ → Bool
is_complex_context class = is_one_of Seventeen (SA ∷ SA_MC_MN ∷ []) class

-- the class is complex, and so is the code point: the table names one, the engine 17 has these two
abbrev pub is_complex_by : LineEngine → PairTable → ℕ → Bool
is_complex_by Classic t class = class == t.complex_property
is_complex_by Seventeen t class = is_complex_context class

abbrev pub is_complex_class : {engine : LineEngine} → TableRules engine → ℕ → Bool
is_complex_class {engine} rules class = is_complex_by engine rules.table class

abbrev pub is_complex_point : {engine : LineEngine} → TableRules engine → ℕ → Bool
is_complex_point rules code_point = is_complex_class rules (line_class rules code_point)

-- The faults of the data of lines.

-- the number of a class of the classic engine that has a name: all from AI to ZWJ but 46
abbrev pub is_named_class : ℕ → Bool
is_named_class class = (nat_le 1 class && nat_le class 45) || (nat_le 47 class && nat_le class 54)

-- a table can't name this class as its complex one: one that has a name, of the engine 17 any but SA
abbrev pub is_never_complex : LineEngine → ℕ → Bool
is_never_complex Classic class = is_named_class class
is_never_complex Seventeen class = not (class == class_number Seventeen SA)

-- the faults of a pair table of lines: it has no class ID; a code point of Latin-1 is complex, before the options read its class; or its complex
-- class is one that it can't name
abbrev pub HasOwnLineFault : LineEngine → PairTable → DataError → Type 0
HasOwnLineFault engine t ClassOutOfRange = t.property_count ≤ class_number engine ID
HasOwnLineFault engine t ComplexBelow0100 = (code_point : ℕ) × (code_point < 0x100) × (is_complex_by engine t (class_of t None code_point) ≡ true)
HasOwnLineFault engine t ComplexClassNamed = is_never_complex engine t.complex_property ≡ true
HasOwnLineFault engine t _ = ⊥

-- .. and those of the pair table of clusters
abbrev pub HasLineTableFault : LineEngine → PairTable → PairTable → DataError → Type 0
HasLineTableFault engine t clusters fault = HasOwnLineFault engine t fault ⊎ HasPairDataFault clusters None fault
