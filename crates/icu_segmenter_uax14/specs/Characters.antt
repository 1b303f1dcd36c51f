-- What the rules of lines ask of a code point: LB1, and what CSS Text 3 tailors.
use Rattle.std.specs.Prelude.{ℕ, Bool, false, not, ◌&&◌, ◌||◌, ◌==◌, if◌then◌else◌, List, [], ◌∷◌}
use Rattle.ucd_table.specs.Rows.{Row, value_in}
use Rattle.ucd_breaks.specs.declared.LineBreak.{LineBreak}
use Rattle.ucd_breaks.specs.declared.LineBreak.TheVariants.{Ambiguous, Aksara, Alphabetic, AksaraPrebase, AksaraStart, ConditionalJapaneseStarter, CombiningMark, H2, H3, HebrewLetter, Ideographic, Inseparable, Jl, Jt, Jv, Nonstarter, Numeric, PostfixNumeric, PrefixNumeric, Quotation, ComplexContext, Surrogate, ViramaFinal, Virama, Unknown}
use Rattle.ucd_breaks.specs.LineBreak.{line_break, line_break_eq}
use Rattle.ucd_category.specs.declared.GeneralCategory.{GeneralCategory}
use Rattle.ucd_category.specs.declared.GeneralCategory.TheVariants.{NonspacingMark, SpacingMark, InitialPunctuation, FinalPunctuation, Unassigned as NotAssigned}
use Rattle.ucd_category.specs.GeneralCategory.{general_category, general_category_eq}
use Rattle.ucd_east_asian.specs.declared.EastAsianWidth.{EastAsianWidth}
use Rattle.ucd_east_asian.specs.declared.EastAsianWidth.TheVariants.{Ambiguous as AmbiguousWidth, Fullwidth, Halfwidth, Wide}
use Rattle.ucd_east_asian.specs.EastAsianWidth.{east_asian_width, east_asian_width_eq}
use Rattle.ucd_emoji.specs.Binary.{is_extended_pictographic}
use Rattle.ucd_script.specs.declared.Script.{Script}
use Rattle.ucd_script.specs.Script.{script}
use Rattle.seg_data.specs.declared.provider.ComplexScript.{ComplexScript}
use Rattle.seg_data.specs.declared.provider.ComplexScript.TheVariants as complex
use Rattle.icu_segmenter_uax29.specs.WordTypes.{dictionary_script}
use Rattle.icu_segmenter_uax14.specs.LineValues.{LineProperties, Trait, Usual, Opening, Closing, Unassigned, Dotted, Loose, Kept, StandsFor}

-- the code points that UAX #14 and CSS Text 3 name
pub data Sign : Type 0 where
  NoSign : Sign
  DottedCircle : Sign
  -- ‐ –
  HyphenSign : Sign
  -- 々〻ゝゞヽヾ
  IterationMark : Sign
  -- 〜゠
  WaveDash : Sign
  -- ・：；･‼⁇⁈⁉！？
  CentredSign : Sign

abbrev pub sign_number : Sign → ℕ
sign_number NoSign = 0
sign_number DottedCircle = 1
sign_number HyphenSign = 2
sign_number IterationMark = 3
sign_number WaveDash = 4
sign_number CentredSign = 5

abbrev pub sign_rows : List (Row Sign)
sign_rows =
    (0x2010, 0x2010, HyphenSign)
    ∷ (0x2013, 0x2013, HyphenSign)
    ∷ (0x203C, 0x203C, CentredSign)
    ∷ (0x2047, 0x2049, CentredSign)
    ∷ (0x25CC, 0x25CC, DottedCircle)
    ∷ (0x3005, 0x3005, IterationMark)
    ∷ (0x301C, 0x301C, WaveDash)
    ∷ (0x303B, 0x303B, IterationMark)
    ∷ (0x309D, 0x309E, IterationMark)
    ∷ (0x30A0, 0x30A0, WaveDash)
    ∷ (0x30FB, 0x30FB, CentredSign)
    ∷ (0x30FD, 0x30FE, IterationMark)
    ∷ (0xFF01, 0xFF01, CentredSign)
    ∷ (0xFF1A, 0xFF1B, CentredSign)
    ∷ (0xFF1F, 0xFF1F, CentredSign)
    ∷ (0xFF65, 0xFF65, CentredSign)
    ∷ []

-- what is known of a code point
pub record Character : Type 0 where
  pub line_break : LineBreak
  pub category : GeneralCategory
  pub width : EastAsianWidth
  pub is_pictograph : Bool
  pub sign : Sign
  pub script : Script

abbrev pub character : ℕ → Character
character c = record {
  line_break = line_break c;
  category = general_category c;
  width = east_asian_width c;
  is_pictograph = is_extended_pictographic c;
  sign = value_in NoSign sign_rows c;
  script = script c;
}

-- one of some classes
abbrev pub is_among : List LineBreak → LineBreak → Bool
is_among [] class = false
is_among (one ∷ others) class = line_break_eq one class || is_among others class

abbrev pub is_sign : Sign → Character → Bool
is_sign sign c = sign_number c.sign == sign_number sign

-- LB1: ambiguous, surrogate and unknown code points are letters, those of complex context marks or letters, and small kana non-starters
abbrev pub resolved : LineBreak → Bool → LineBreak
resolved Ambiguous mark = Alphabetic
resolved Surrogate mark = Alphabetic
resolved Unknown mark = Alphabetic
resolved ComplexContext mark = if mark then CombiningMark else Alphabetic
resolved ConditionalJapaneseStarter mark = Nonstarter
resolved class mark = class

abbrev pub class_of : Character → LineBreak
class_of c = resolved c.line_break (general_category_eq c.category NonspacingMark || general_category_eq c.category SpacingMark)

-- fullwidth, wide and halfwidth; by LB10 a mark that is read alone is a narrow letter
abbrev pub is_east_asian : Character → Bool
is_east_asian c =
    not (line_break_eq (class_of c) CombiningMark)
    && (east_asian_width_eq c.width Fullwidth || (east_asian_width_eq c.width Wide || east_asian_width_eq c.width Halfwidth))

abbrev pub trait_of : Character → Trait
trait_of c =
    if line_break_eq (class_of c) Quotation
    then (if general_category_eq c.category InitialPunctuation
    then Opening
    else (if general_category_eq c.category FinalPunctuation then Closing else Usual))
    else (if general_category_eq c.category NotAssigned && c.is_pictograph
    then Unassigned
    else (if is_sign DottedCircle c then Dotted else Usual))

-- the style that nothing is tailored in
abbrev pub strict : Character → LineProperties
strict c = (class_of c, is_east_asian c, trait_of c)

-- Styles of lines, each of the properties that a character has.

abbrev pub LineStyle : Type 0
LineStyle = Character → LineProperties

abbrev pub is_small_kana : Character → Bool
is_small_kana c = line_break_eq c.line_break ConditionalJapaneseStarter

-- ideographs; hyphens and others that are broken more loosely
abbrev pub with_ideographs : (Character → Bool) → LineStyle → LineStyle
with_ideographs are tailored c = if are c then (Ideographic, is_east_asian c, Usual) else tailored c

abbrev pub with_loose : (Character → Bool) → LineStyle → LineStyle
with_loose are tailored c = if are c then ((tailored c).0, (tailored c).1, Loose) else tailored c

-- line-break: normal, where small kana are ideographs; in Chinese and Japanese, wave dashes too
abbrev pub normal : LineStyle
normal = with_ideographs is_small_kana strict

abbrev pub ja_normal : LineStyle
ja_normal = with_ideographs (is_sign WaveDash) normal

-- line-break: loose, where iteration marks are too; in Chinese and Japanese, wave dashes and centred signs, and prefixes and suffixes break
abbrev pub is_loose : Character → Bool
is_loose c = is_sign HyphenSign c || line_break_eq (class_of c) Inseparable

abbrev pub is_affix : Character → Bool
is_affix c =
    is_among (PostfixNumeric ∷ PrefixNumeric ∷ []) (class_of c)
    && (east_asian_width_eq c.width Fullwidth || (east_asian_width_eq c.width Wide || east_asian_width_eq c.width AmbiguousWidth))

abbrev pub loose : LineStyle
loose = with_loose is_loose (with_ideographs (is_sign IterationMark) normal)

abbrev pub ja_loose : LineStyle
ja_loose = with_loose is_affix (with_ideographs (is_sign CentredSign) (with_ideographs (is_sign WaveDash) loose))

-- the viramas of aksaras that are tailored are marks
abbrev pub without_viramas : LineStyle → LineStyle
without_viramas tailored c =
    if is_among (Virama ∷ ViramaFinal ∷ []) (class_of c) then (CombiningMark, false, Usual) else tailored c

abbrev pub if_unassigned : Trait → Trait
if_unassigned Unassigned = Unassigned
if_unassigned other = Usual

abbrev pub is_aksara : Character → Bool
is_aksara c = is_among (Aksara ∷ AksaraPrebase ∷ AksaraStart ∷ []) (class_of c)

-- word-break: break-all, where letters and digits are ideographs
abbrev pub break_all : LineStyle
break_all = without_viramas (λ c.
    if is_aksara c || (is_small_kana c || is_among (Alphabetic ∷ HebrewLetter ∷ Numeric ∷ []) (class_of c))
    then (Ideographic, is_east_asian c, if_unassigned (trait_of c))
    else strict c)

-- word-break: keep-all, where ideographs, Hangul and small kana are kept together, and with letters
abbrev pub is_kept : Character → Bool
is_kept c = is_among (Ideographic ∷ H2 ∷ H3 ∷ Jl ∷ Jv ∷ Jt ∷ []) (class_of c) && not (general_category_eq c.category NotAssigned && c.is_pictograph)

abbrev pub keep_all : LineStyle
keep_all = without_viramas (λ c.
    if is_small_kana c
    then (Nonstarter, is_east_asian c, Kept)
    else (if is_kept c
    then (Ideographic, is_east_asian c, Kept)
    else (if is_aksara c then (Alphabetic, is_east_asian c, Usual) else strict c)))

-- the symbol means the properties of the code point by a style
abbrev pub HasStyle : LineStyle → ℕ → ℕ → Type 0
HasStyle style code_point symbol = StandsFor (style (character code_point)) symbol

-- the script by which a dictionary may cut: that of what has complex context
abbrev pub complex_script : Character → ComplexScript
complex_script c = if line_break_eq c.line_break ComplexContext then dictionary_script c.script else complex.None

abbrev pub no_script : Character → ComplexScript
no_script c = complex.None
