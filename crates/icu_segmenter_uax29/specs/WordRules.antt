-- The rules of words, WB3 to WB999 of UAX #29, as rows. The first row whose left side fits what ends at a place and whose right side fits
-- what begins there decides it. The start and the end of a text are those of WB1 and WB2.
use Rattle.std.specs.Prelude.{Bool, true, List, [], ◌∷◌}
use Rattle.ucd_breaks.specs.declared.WordBreak.{WordBreak}
use Rattle.ucd_breaks.specs.declared.WordBreak.TheVariants as Wb
use Rattle.ucd_breaks.specs.WordBreak.{word_break_eq}
use Rattle.seg_rules.specs.RowRules.{RowRules}
use Rattle.seg_rules.specs.Classes.{Class, ClassRow, those, sot, no, ◌or◌, one, pairs, joins, breaks, row, bits, rows_of, tail}
use Rattle.icu_segmenter_uax29.specs.WordValues.{word_symbol_properties}

-- Word_Break, and whether it is Extended_Pictographic
abbrev pub Properties : Type 0
Properties = WordBreak × Bool

-- what the values of the properties are called in the standard

abbrev pub value : WordBreak → Class Properties
value v = those (λ p. word_break_eq p.0 v)

abbrev pub CR : Class Properties
CR = value Wb.Cr

abbrev pub LF : Class Properties
LF = value Wb.Lf

abbrev pub Newline : Class Properties
Newline = value Wb.Newline

abbrev pub Extend : Class Properties
Extend = value Wb.Extend

abbrev pub ZWJ : Class Properties
ZWJ = value Wb.Zwj

abbrev pub Format : Class Properties
Format = value Wb.Format

abbrev pub RI : Class Properties
RI = value Wb.RegionalIndicator

abbrev pub Katakana : Class Properties
Katakana = value Wb.Katakana

abbrev pub Hebrew_Letter : Class Properties
Hebrew_Letter = value Wb.HebrewLetter

abbrev pub ALetter : Class Properties
ALetter = value Wb.ALetter

abbrev pub Single_Quote : Class Properties
Single_Quote = value Wb.SingleQuote

abbrev pub Double_Quote : Class Properties
Double_Quote = value Wb.DoubleQuote

abbrev pub MidNumLet : Class Properties
MidNumLet = value Wb.MidNumLet

abbrev pub MidLetter : Class Properties
MidLetter = value Wb.MidLetter

abbrev pub MidNum : Class Properties
MidNum = value Wb.MidNum

abbrev pub Numeric : Class Properties
Numeric = value Wb.Numeric

abbrev pub ExtendNumLet : Class Properties
ExtendNumLet = value Wb.ExtendNumLet

abbrev pub WSegSpace : Class Properties
WSegSpace = value Wb.WSegSpace

-- Extended_Pictographic
abbrev pub ExtPict : Class Properties
ExtPict = those (λ p. p.1)

-- the macros of the standard
abbrev pub AHLetter : Class Properties
AHLetter = ALetter or Hebrew_Letter

abbrev pub MidNumLetQ : Class Properties
MidNumLetQ = MidNumLet or Single_Quote

-- the rows that read each symbol
unfoldable pub word_rows_above_marks : List (ClassRow Properties)
word_rows_above_marks =
    -- WB3
    row (one CR ∷ []) joins (one LF ∷ [])
    -- WB3a
    ∷ row (one (Newline or CR or LF) ∷ []) breaks []
    -- WB3b
    ∷ row [] breaks (one (Newline or CR or LF) ∷ [])
    -- WB3c
    ∷ row (one ZWJ ∷ []) joins (one ExtPict ∷ [])
    -- WB3d
    ∷ row (one WSegSpace ∷ []) joins (one WSegSpace ∷ [])
    ∷ []

-- the rows below WB4, which read a symbol with its marks as one
unfoldable pub word_rows_below_marks : List (ClassRow Properties)
word_rows_below_marks =
    -- WB5
    row (one AHLetter ∷ []) joins (one AHLetter ∷ [])
    -- WB6
    ∷ row (one AHLetter ∷ []) joins (one (MidLetter or MidNumLetQ) ∷ one AHLetter ∷ [])
    -- WB7
    ∷ row (one AHLetter ∷ one (MidLetter or MidNumLetQ) ∷ []) joins (one AHLetter ∷ [])
    -- WB7a
    ∷ row (one Hebrew_Letter ∷ []) joins (one Single_Quote ∷ [])
    -- WB7b
    ∷ row (one Hebrew_Letter ∷ []) joins (one Double_Quote ∷ one Hebrew_Letter ∷ [])
    -- WB7c
    ∷ row (one Hebrew_Letter ∷ one Double_Quote ∷ []) joins (one Hebrew_Letter ∷ [])
    -- WB8
    ∷ row (one Numeric ∷ []) joins (one Numeric ∷ [])
    -- WB9
    ∷ row (one AHLetter ∷ []) joins (one Numeric ∷ [])
    -- WB10
    ∷ row (one Numeric ∷ []) joins (one AHLetter ∷ [])
    -- WB11
    ∷ row (one Numeric ∷ one (MidNum or MidNumLetQ) ∷ []) joins (one Numeric ∷ [])
    -- WB12
    ∷ row (one Numeric ∷ []) joins (one (MidNum or MidNumLetQ) ∷ one Numeric ∷ [])
    -- WB13
    ∷ row (one Katakana ∷ []) joins (one Katakana ∷ [])
    -- WB13a
    ∷ row (one (AHLetter or Numeric or Katakana or ExtendNumLet) ∷ []) joins (one ExtendNumLet ∷ [])
    -- WB13b
    ∷ row (one ExtendNumLet ∷ []) joins (one (AHLetter or Numeric or Katakana) ∷ [])
    -- WB15
    ∷ row (one sot ∷ pairs RI ∷ one RI ∷ []) joins (one RI ∷ [])
    -- WB16
    ∷ row (one (no RI) ∷ pairs RI ∷ one RI ∷ []) joins (one RI ∷ [])
    -- WB999
    ∷ row [] breaks []
    ∷ []

-- WB4: a mark is one with what it follows, but for ends of lines; another one is read as a symbol that no row names
unfoldable pub word_rules : RowRules
word_rules = record {
  above = rows_of (tail word_symbol_properties) word_rows_above_marks;
  below = rows_of (tail word_symbol_properties) word_rows_below_marks;
  has_marks = true;
  marks = bits (tail word_symbol_properties) (Extend or Format or ZWJ);
  bare = bits (tail word_symbol_properties) (CR or LF or Newline);
  alone = 1;
  at_end = 0;
}
