-- Types and scripts of words, by the kit's properties of their code points.
use Rattle.std.specs.Prelude.{◌≡◌, ℕ, ◌+◌, ◌<◌, Bool, not, ◌&&◌, ◌||◌, ◌==◌, if◌then◌else◌, List, [], ◌∷◌, length}
use Rattle.ucd_breaks.specs.declared.LineBreak.{LineBreak}
use Rattle.ucd_breaks.specs.declared.LineBreak.TheVariants.{ComplexContext}
use Rattle.ucd_breaks.specs.LineBreak.{line_break, line_break_eq}
use Rattle.ucd_breaks.specs.declared.WordBreak.{WordBreak}
use Rattle.ucd_breaks.specs.declared.WordBreak.TheVariants.{ALetter, Extend, ExtendNumLet, Format, HebrewLetter, Katakana, Numeric, Other, Zwj}
use Rattle.ucd_breaks.specs.WordBreak.{word_break, word_break_eq}
use Rattle.ucd_emoji.specs.Binary.{is_extended_pictographic}
use Rattle.ucd_script.specs.declared.Script.{Script}
use Rattle.ucd_script.specs.declared.Script.TheVariants.{Han, Hiragana, Khmer, Lao, Myanmar, Thai}
use Rattle.ucd_script.specs.Script.{script, script_eq}
use Rattle.seg_data.specs.declared.provider.ComplexScript.{ComplexScript}
use Rattle.seg_data.specs.declared.provider.ComplexScript.TheVariants as complex
use Rattle.seg_text.specs.declared.boundary.Boundary.{Boundary}
use Rattle.seg_text.specs.Boundaries.{boundary}
use Rattle.icu_segmenter_uax29.specs.WordValues.{HasWordBreak}

-- what is known of a code point
pub record Character : Type 0 where
  pub word_break : WordBreak
  pub is_pictograph : Bool
  pub line_break : LineBreak
  pub script : Script

abbrev pub character : ℕ → Character
character c = record {
  word_break = word_break c;
  is_pictograph = is_extended_pictographic c;
  line_break = line_break c;
  script = script c;
}

abbrev pub is_complex : Character → Bool
is_complex c = line_break_eq c.line_break ComplexContext

abbrev pub is_han_or_hiragana : Character → Bool
is_han_or_hiragana c = script_eq c.script Han || script_eq c.script Hiragana

-- a letter that the rules of words know nothing of, which dictionaries may put into words: an ideograph, Hiragana, of complex context
abbrev pub is_unruled : Character → Bool
is_unruled c = (word_break_eq c.word_break Other && not c.is_pictograph) && (is_complex c || is_han_or_hiragana c)

-- The type of a word: 1 where what ends it is a digit, 2 where it is a letter, marks and ExtendNumLet aside, and 0 otherwise.

-- the type of a word after one more code point, by its Word_Break and whether it is a letter that the rules know nothing of
abbrev pub changed : WordBreak → Bool → ℕ → ℕ
changed Numeric unruled type = 1
changed ALetter unruled type = 2
changed HebrewLetter unruled type = 2
changed Katakana unruled type = 2
changed ExtendNumLet unruled type = type
changed Extend unruled type = type
changed Format unruled type = type
changed Zwj unruled type = type
changed value unruled type = if unruled then 2 else 0

abbrev pub type_after : ℕ → ℕ → ℕ
type_after type c = changed (word_break c) (is_unruled (character c)) type

unfoldable pub type_from : ℕ → List ℕ → ℕ
type_from type [] = type
type_from type (c ∷ cs) = type_from (type_after type c) cs

abbrev pub word_type : List ℕ → ℕ
word_type word = type_from 0 word

-- where words end of which each follows the one before, each with its type
unfoldable pub typed_ends : ℕ → List (List ℕ) → List Boundary
typed_ends from [] = []
typed_ends from (word ∷ words) = boundary (from + length word) (word_type word) ∷ typed_ends (from + length word) words

-- the script by which a dictionary may cut what has complex context
abbrev pub dictionary_script : Script → ComplexScript
dictionary_script Khmer = complex.Khmer
dictionary_script Lao = complex.Lao
dictionary_script Myanmar = complex.Myanmar
dictionary_script Thai = complex.Thai
dictionary_script _ = complex.None

-- the script by which words are cut: Thai, Lao, Khmer and Myanmar of complex context, and Chinese or Japanese
abbrev pub word_script : Character → ComplexScript
word_script c =
    if is_complex c
    then dictionary_script c.script
    else (if is_han_or_hiragana c || word_break_eq c.word_break Katakana then complex.ChineseOrJapanese else complex.None)

-- The symbols are those of the machine of words, and one more, of letters that the rules know nothing of, else as `OTHER`.

abbrev pub unruled_symbol : ℕ
unruled_symbol = 22

abbrev pub plain_symbol : ℕ → ℕ
plain_symbol symbol = if symbol == unruled_symbol then 1 else symbol

-- the symbol, which is one of a text, means the properties of the code point
pub record HasTypedWordBreak (code_point symbol : ℕ) : Type 0 where
  pub plain : HasWordBreak code_point (plain_symbol symbol)
  pub unruled : is_unruled (character code_point) ≡ (symbol == unruled_symbol)
  pub some : 0 < symbol
  pub below : symbol < 23
