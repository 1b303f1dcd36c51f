-- The rules of lines: UAX #14, in the form of revision 55, and what CSS Text 3 tailors. The first row whose left side fits what ends at a
-- place and whose right side fits what begins there decides it. The start and the end of a text are those of LB2 and LB3, LB1 is in LineValues.
use Rattle.std.specs.Prelude.{true, List, [], ◌∷◌}
use Rattle.seg_rules.specs.RowRules.{RowRules}
use Rattle.seg_rules.specs.Classes.{ClassRow, ◌or◌, ◌also◌, ◌but◌, sot, eot, no, one, many, pairs, joins, breaks, must_break, row, bits, rows_of, tail}
use Rattle.icu_segmenter_uax14.specs.LineClasses.{AK, AL, AP, AS, B2, BA, BB, BK, CB, CL, CM, CP, CR, EB, EM, EX, GL, H2, H3, HH, HL, HY, ID, IN, IS, JL, JT, JV, LF, NL, NS, NU, OP, PO, PR, QU, RI, SP, SY, VF, VI, WJ, ZW, ZWJ, EA, QU_PI, QU_PF, QU_PLAIN, OP_NARROW, CP_NARROW, DOTTED, PICTOGRAPH, LOOSE, KEPT}
use Rattle.icu_segmenter_uax14.specs.LineValues.{LineProperties, symbol_properties, letter}

-- the rows that read each symbol
unfoldable pub rows_above_marks : List (ClassRow LineProperties)
rows_above_marks =
    -- LB4
    row (one BK ∷ []) must_break []
    -- LB5
    ∷ row (one CR ∷ []) joins (one LF ∷ [])
    ∷ row (one (CR or LF or NL) ∷ []) must_break []
    -- LB6
    ∷ row [] joins (one (BK or CR or LF or NL) ∷ [])
    -- LB7
    ∷ row [] joins (one (SP or ZW) ∷ [])
    -- LB8
    ∷ row (one ZW ∷ many SP ∷ []) breaks []
    -- LB8a
    ∷ row (one ZWJ ∷ []) joins []
    ∷ []

-- the rows below LB9 and LB10, which read a symbol with its marks as one
unfoldable pub rows_below_marks : List (ClassRow LineProperties)
rows_below_marks =
    -- LB11
    row [] joins (one WJ ∷ [])
    ∷ row (one WJ ∷ []) joins []
    -- LB12
    ∷ row (one GL ∷ []) joins []
    -- LB12a
    ∷ row (one (no (SP or BA or HY or HH)) ∷ []) joins (one GL ∷ [])
    -- LB13
    ∷ row [] joins (one (CL or CP or EX or SY) ∷ [])
    -- LB14
    ∷ row (one OP ∷ many SP ∷ []) joins []
    -- LB15a
    ∷ row (one (sot or BK or CR or LF or NL or OP or QU or GL or SP or ZW) ∷ one QU_PI ∷ many SP ∷ []) joins []
    -- LB15b
    ∷ row [] joins (one QU_PF ∷ one (SP or GL or WJ or CL or QU or CP or EX or IS or SY or BK or CR or LF or NL or ZW or eot) ∷ [])
    -- LB15c
    ∷ row (one SP ∷ []) breaks (one IS ∷ one NU ∷ [])
    -- LB15d
    ∷ row [] joins (one IS ∷ [])
    -- LB16
    ∷ row (one (CL or CP) ∷ many SP ∷ []) joins (one NS ∷ [])
    -- LB17
    ∷ row (one B2 ∷ many SP ∷ []) joins (one B2 ∷ [])
    -- LB18
    ∷ row (one SP ∷ []) breaks []
    -- LB19
    ∷ row [] joins (one (QU_PLAIN or QU_PF) ∷ [])
    ∷ row (one (QU_PLAIN or QU_PI) ∷ []) joins []
    -- LB19a
    ∷ row (one (no EA) ∷ []) joins (one QU ∷ [])
    ∷ row [] joins (one QU ∷ one (no EA or eot) ∷ [])
    ∷ row (one QU ∷ []) joins (one (no EA) ∷ [])
    ∷ row (one (sot or no EA) ∷ one QU ∷ []) joins []
    -- LB20
    ∷ row [] breaks (one CB ∷ [])
    ∷ row (one CB ∷ []) breaks []
    -- LB20a, but for hyphens before which CSS may break: a scan that begins there doesn't know what came before
    ∷ row (one (sot or BK or CR or LF or NL or SP or ZW or CB or GL) ∷ one (HY or HH but LOOSE) ∷ []) joins (one (AL or HL) ∷ [])
    -- CSS, line-break: loose
    ∷ row (one ID ∷ []) breaks (one ((BA or HH) also LOOSE) ∷ [])
    -- LB21
    ∷ row [] joins (one (BA or HH or HY or NS) ∷ [])
    ∷ row (one BB ∷ []) joins []
    -- LB21a
    ∷ row (one HL ∷ one (HY or HH) ∷ []) joins (one (no HL) ∷ [])
    -- LB21b
    ∷ row (one SY ∷ []) joins (one HL ∷ [])
    -- CSS, line-break: loose
    ∷ row (one (IN also LOOSE) ∷ []) breaks (one (IN also LOOSE) ∷ [])
    -- LB22
    ∷ row [] joins (one IN ∷ [])
    -- CSS, line-break: loose, in Chinese and Japanese
    ∷ row [] breaks (one (PO also LOOSE) ∷ [])
    ∷ row (one (PR also LOOSE) ∷ []) breaks []
    -- CSS, word-break: keep-all
    ∷ row (one (AL or HL or NU or ID also KEPT) ∷ []) joins (one (ID also KEPT) ∷ [])
    ∷ row (one (ID also KEPT or NS also KEPT) ∷ []) joins (one (AL or HL or NU or ID also KEPT) ∷ [])
    -- LB23
    ∷ row (one (AL or HL) ∷ []) joins (one NU ∷ [])
    ∷ row (one NU ∷ []) joins (one (AL or HL) ∷ [])
    -- LB23a
    ∷ row (one PR ∷ []) joins (one (ID or EB or EM) ∷ [])
    ∷ row (one (ID or EB or EM) ∷ []) joins (one PO ∷ [])
    -- LB24
    ∷ row (one (PR or PO) ∷ []) joins (one (AL or HL) ∷ [])
    ∷ row (one (AL or HL) ∷ []) joins (one (PR or PO) ∷ [])
    -- LB25
    ∷ row (one NU ∷ many (SY or IS) ∷ one CL ∷ []) joins (one PO ∷ [])
    ∷ row (one NU ∷ many (SY or IS) ∷ one CP ∷ []) joins (one PO ∷ [])
    ∷ row (one NU ∷ many (SY or IS) ∷ one CL ∷ []) joins (one PR ∷ [])
    ∷ row (one NU ∷ many (SY or IS) ∷ one CP ∷ []) joins (one PR ∷ [])
    ∷ row (one NU ∷ many (SY or IS) ∷ []) joins (one PO ∷ [])
    ∷ row (one NU ∷ many (SY or IS) ∷ []) joins (one PR ∷ [])
    ∷ row (one PO ∷ []) joins (one OP ∷ one NU ∷ [])
    ∷ row (one PO ∷ []) joins (one OP ∷ one IS ∷ one NU ∷ [])
    ∷ row (one PO ∷ []) joins (one NU ∷ [])
    ∷ row (one PR ∷ []) joins (one OP ∷ one NU ∷ [])
    ∷ row (one PR ∷ []) joins (one OP ∷ one IS ∷ one NU ∷ [])
    ∷ row (one PR ∷ []) joins (one NU ∷ [])
    ∷ row (one HY ∷ []) joins (one NU ∷ [])
    ∷ row (one IS ∷ []) joins (one NU ∷ [])
    ∷ row (one NU ∷ many (SY or IS) ∷ []) joins (one NU ∷ [])
    -- LB26
    ∷ row (one JL ∷ []) joins (one (JL or JV or H2 or H3) ∷ [])
    ∷ row (one (JV or H2) ∷ []) joins (one (JV or JT) ∷ [])
    ∷ row (one (JT or H3) ∷ []) joins (one JT ∷ [])
    -- LB27
    ∷ row (one (JL or JV or JT or H2 or H3) ∷ []) joins (one PO ∷ [])
    ∷ row (one PR ∷ []) joins (one (JL or JV or JT or H2 or H3) ∷ [])
    -- LB28
    ∷ row (one (AL or HL) ∷ []) joins (one (AL or HL) ∷ [])
    -- LB28a
    ∷ row (one AP ∷ []) joins (one (AK or DOTTED or AS) ∷ [])
    ∷ row (one (AK or DOTTED or AS) ∷ []) joins (one (VF or VI) ∷ [])
    ∷ row (one (AK or DOTTED or AS) ∷ one VI ∷ []) joins (one (AK or DOTTED) ∷ [])
    ∷ row (one (AK or DOTTED or AS) ∷ []) joins (one (AK or DOTTED or AS) ∷ one VF ∷ [])
    -- LB29
    ∷ row (one IS ∷ []) joins (one (AL or HL) ∷ [])
    -- LB30
    ∷ row (one (AL or HL or NU) ∷ []) joins (one OP_NARROW ∷ [])
    ∷ row (one CP_NARROW ∷ []) joins (one (AL or HL or NU) ∷ [])
    -- LB30a
    ∷ row (one sot ∷ pairs RI ∷ one RI ∷ []) joins (one RI ∷ [])
    ∷ row (one (no RI) ∷ pairs RI ∷ one RI ∷ []) joins (one RI ∷ [])
    -- LB30b
    ∷ row (one EB ∷ []) joins (one EM ∷ [])
    ∷ row (one PICTOGRAPH ∷ []) joins (one EM ∷ [])
    -- LB31
    ∷ row [] breaks []
    ∷ []

-- LB9: a mark is one with what it follows, but for spaces and ends of lines. LB10: another one is a letter. LB3: the end is mandatory.
unfoldable pub line_rules : RowRules
line_rules = record {
  above = rows_of (tail symbol_properties) rows_above_marks;
  below = rows_of (tail symbol_properties) rows_below_marks;
  has_marks = true;
  marks = bits (tail symbol_properties) (CM or ZWJ);
  bare = bits (tail symbol_properties) (BK or CR or LF or NL or SP or ZW);
  alone = letter;
  at_end = 1;
}
