-- What the symbols of the machine of words say of a code point.
use Rattle.std.specs.Prelude.{◌≡◌, ℕ, ◌<◌, Bool, true, false, List, [], ◌∷◌, slice_index_or}
use Rattle.ucd_breaks.specs.WordBreak.{word_break}
use Rattle.ucd_breaks.specs.declared.WordBreak.{WordBreak}
use Rattle.ucd_breaks.specs.declared.WordBreak.TheVariants.{Cr, DoubleQuote, ExtendNumLet, Extend, Format, HebrewLetter, Katakana, ALetter, Lf, MidNumLet, MidLetter, MidNum, Newline, Numeric, RegionalIndicator, SingleQuote, WSegSpace, Other, Zwj}
use Rattle.ucd_emoji.specs.Binary.{is_extended_pictographic}

-- the properties Word_Break and Extended_Pictographic that each symbol means; that of the end of the text means none
abbrev pub word_symbol_properties : List (WordBreak × Bool)
word_symbol_properties =
    (Other, false)
    ∷ (Other, false)
    ∷ (Cr, false)
    ∷ (Lf, false)
    ∷ (Newline, false)
    ∷ (Extend, false)
    ∷ (Zwj, false)
    ∷ (Format, false)
    ∷ (RegionalIndicator, false)
    ∷ (Katakana, false)
    ∷ (HebrewLetter, false)
    ∷ (ALetter, false)
    ∷ (SingleQuote, false)
    ∷ (DoubleQuote, false)
    ∷ (MidNumLet, false)
    ∷ (MidLetter, false)
    ∷ (MidNum, false)
    ∷ (Numeric, false)
    ∷ (ExtendNumLet, false)
    ∷ (WSegSpace, false)
    ∷ (Other, true)
    ∷ (ALetter, true)
    ∷ []

abbrev pub word_break_of : ℕ → WordBreak
word_break_of symbol = (slice_index_or word_symbol_properties symbol (Other, false)).0

abbrev pub is_pictograph_of : ℕ → Bool
is_pictograph_of symbol = (slice_index_or word_symbol_properties symbol (Other, false)).1

-- the symbol, which is one of a text, means the properties of the code point
pub record HasWordBreak (code_point symbol : ℕ) : Type 0 where
  pub value : word_break code_point ≡ word_break_of symbol
  pub pictograph : is_extended_pictographic code_point ≡ is_pictograph_of symbol
  pub some : 0 < symbol
  pub below : symbol < 22
