-- The rules of sentences, SB3 to SB998 of UAX #29, as rows. The first row whose left side fits what ends at a place and whose right side
-- fits what begins there decides it. The start and the end of a text are those of SB1 and SB2.
use Rattle.std.specs.Prelude.{true, List, [], ◌∷◌}
use Rattle.ucd_breaks.specs.declared.SentenceBreak.{SentenceBreak}
use Rattle.ucd_breaks.specs.declared.SentenceBreak.TheVariants as Sb
use Rattle.ucd_breaks.specs.SentenceBreak.{sentence_break_eq}
use Rattle.seg_rules.specs.RowRules.{RowRules}
use Rattle.seg_rules.specs.Classes.{Class, ClassRow, those, no, ◌or◌, one, maybe, many, joins, breaks, row, bits, rows_of, tail}
use Rattle.icu_segmenter_uax29.specs.SentenceValues.{symbol_values}

-- what the values of Sentence_Break are called in the standard

abbrev pub value : SentenceBreak → Class SentenceBreak
value v = those (λ p. sentence_break_eq p v)

abbrev pub CR : Class SentenceBreak
CR = value Sb.Cr

abbrev pub LF : Class SentenceBreak
LF = value Sb.Lf

abbrev pub Sep : Class SentenceBreak
Sep = value Sb.Sep

abbrev pub Extend : Class SentenceBreak
Extend = value Sb.Extend

abbrev pub Format : Class SentenceBreak
Format = value Sb.Format

abbrev pub Sp : Class SentenceBreak
Sp = value Sb.Sp

abbrev pub Lower : Class SentenceBreak
Lower = value Sb.Lower

abbrev pub Upper : Class SentenceBreak
Upper = value Sb.Upper

abbrev pub OLetter : Class SentenceBreak
OLetter = value Sb.OLetter

abbrev pub Numeric : Class SentenceBreak
Numeric = value Sb.Numeric

abbrev pub ATerm : Class SentenceBreak
ATerm = value Sb.ATerm

abbrev pub STerm : Class SentenceBreak
STerm = value Sb.STerm

abbrev pub Close : Class SentenceBreak
Close = value Sb.Close

abbrev pub SContinue : Class SentenceBreak
SContinue = value Sb.SContinue

-- the macros of the standard
abbrev pub ParaSep : Class SentenceBreak
ParaSep = Sep or CR or LF

abbrev pub SATerm : Class SentenceBreak
SATerm = STerm or ATerm

-- the rows that read each symbol
unfoldable pub sentence_rows_above_marks : List (ClassRow SentenceBreak)
sentence_rows_above_marks =
    -- SB3
    row (one CR ∷ []) joins (one LF ∷ [])
    -- SB4
    ∷ row (one ParaSep ∷ []) breaks []
    ∷ []

-- the rows below SB5, which read a symbol with its marks as one
unfoldable pub sentence_rows_below_marks : List (ClassRow SentenceBreak)
sentence_rows_below_marks =
    -- SB6
    row (one ATerm ∷ []) joins (one Numeric ∷ [])
    -- SB7
    ∷ row (one (Upper or Lower) ∷ one ATerm ∷ []) joins (one Upper ∷ [])
    -- SB8
    ∷ row (one ATerm ∷ many Close ∷ many Sp ∷ []) joins (many (no (OLetter or Upper or Lower or ParaSep or SATerm)) ∷ one Lower ∷ [])
    -- SB8a
    ∷ row (one SATerm ∷ many Close ∷ many Sp ∷ []) joins (one (SContinue or SATerm) ∷ [])
    -- SB9
    ∷ row (one SATerm ∷ many Close ∷ []) joins (one (Close or Sp or ParaSep) ∷ [])
    -- SB10
    ∷ row (one SATerm ∷ many Close ∷ many Sp ∷ []) joins (one (Sp or ParaSep) ∷ [])
    -- SB11
    ∷ row (one SATerm ∷ many Close ∷ many Sp ∷ maybe ParaSep ∷ []) breaks []
    -- SB998
    ∷ row [] joins []
    ∷ []

-- SB5: a mark is one with what it follows, but for ends of lines; another one is read as a symbol that no row names
unfoldable pub sentence_rules : RowRules
sentence_rules = record {
  above = rows_of (tail symbol_values) sentence_rows_above_marks;
  below = rows_of (tail symbol_values) sentence_rows_below_marks;
  has_marks = true;
  marks = bits (tail symbol_values) (Extend or Format);
  bare = bits (tail symbol_values) ParaSep;
  alone = 1;
  at_end = 0;
}
