-- What the symbols of the machine of sentences say of a code point.
use Rattle.std.specs.Prelude.{◌≡◌, ℕ, ◌<◌, List, [], ◌∷◌, slice_index_or}
use Rattle.ucd_breaks.specs.SentenceBreak.{sentence_break}
use Rattle.ucd_breaks.specs.declared.SentenceBreak.{SentenceBreak}
use Rattle.ucd_breaks.specs.declared.SentenceBreak.TheVariants.{ATerm, Close, Cr, Extend, Format, OLetter, Lf, Lower, Numeric, SContinue, Sep, Sp, STerm, Upper, Other}

-- the value of Sentence_Break that each symbol means; that of the end of the text means none
abbrev pub symbol_values : List SentenceBreak
symbol_values =
    Other
    ∷ Other
    ∷ Cr
    ∷ Lf
    ∷ Sep
    ∷ Extend
    ∷ Format
    ∷ Sp
    ∷ Lower
    ∷ Upper
    ∷ OLetter
    ∷ Numeric
    ∷ ATerm
    ∷ STerm
    ∷ Close
    ∷ SContinue
    ∷ []

abbrev pub value_of_symbol : ℕ → SentenceBreak
value_of_symbol symbol = slice_index_or symbol_values symbol Other

-- the symbol, which is one of a text, means the value of the code point
pub record HasSentenceBreak (code_point symbol : ℕ) : Type 0 where
  pub value : sentence_break code_point ≡ value_of_symbol symbol
  pub some : 0 < symbol
  pub below : symbol < 16
