-- The rules of extended grapheme clusters, GB3 to GB999 of UAX #29, as rows. The first row whose left side fits what ends at a place and
-- whose right side fits what begins there decides it. The start and the end of a text are those of GB1 and GB2.
use Rattle.std.specs.Prelude.{false, List, [], ◌∷◌}
use Rattle.ucd_breaks.specs.declared.GraphemeClusterBreak.{GraphemeClusterBreak}
use Rattle.ucd_breaks.specs.declared.GraphemeClusterBreak.TheVariants as Gcb
use Rattle.ucd_breaks.specs.GraphemeClusterBreak.{grapheme_cluster_break_eq}
use Rattle.ucd_derived.specs.declared.IndicConjunctBreak.{IndicConjunctBreak}
use Rattle.ucd_derived.specs.declared.IndicConjunctBreak.TheVariants as InCb
use Rattle.ucd_derived.specs.IndicConjunctBreak.{indic_conjunct_break_eq}
use Rattle.seg_rules.specs.RowRules.{RowRules}
use Rattle.seg_rules.specs.Classes.{Class, ClassRow, those, sot, no, ◌or◌, one, many, pairs, joins, breaks, row, rows_of, tail}
use Rattle.icu_segmenter_uax29.specs.Properties.{Properties, symbol_properties}

-- what the values of the properties are called in the standard

abbrev pub value : GraphemeClusterBreak → Class Properties
value v = those (λ p. grapheme_cluster_break_eq p.0 v)

abbrev pub conjunct : IndicConjunctBreak → Class Properties
conjunct v = those (λ p. indic_conjunct_break_eq p.1 v)

abbrev pub CR : Class Properties
CR = value Gcb.Cr

abbrev pub LF : Class Properties
LF = value Gcb.Lf

abbrev pub Control : Class Properties
Control = value Gcb.Control

abbrev pub L : Class Properties
L = value Gcb.L

abbrev pub V : Class Properties
V = value Gcb.V

abbrev pub T : Class Properties
T = value Gcb.T

abbrev pub LV : Class Properties
LV = value Gcb.Lv

abbrev pub LVT : Class Properties
LVT = value Gcb.Lvt

abbrev pub Extend : Class Properties
Extend = value Gcb.Extend

abbrev pub ZWJ : Class Properties
ZWJ = value Gcb.Zwj

abbrev pub SpacingMark : Class Properties
SpacingMark = value Gcb.SpacingMark

abbrev pub Prepend : Class Properties
Prepend = value Gcb.Prepend

abbrev pub RI : Class Properties
RI = value Gcb.RegionalIndicator

-- Indic_Conjunct_Break
abbrev pub InLinker : Class Properties
InLinker = conjunct InCb.Linker

abbrev pub InExtend : Class Properties
InExtend = conjunct InCb.Extend

abbrev pub Consonant : Class Properties
Consonant = conjunct InCb.Consonant

-- Extended_Pictographic
abbrev pub ExtPict : Class Properties
ExtPict = those (λ p. p.2)

unfoldable pub cluster_rows : List (ClassRow Properties)
cluster_rows =
    -- GB3
    row (one CR ∷ []) joins (one LF ∷ [])
    -- GB4
    ∷ row (one (Control or CR or LF) ∷ []) breaks []
    -- GB5
    ∷ row [] breaks (one (Control or CR or LF) ∷ [])
    -- GB6
    ∷ row (one L ∷ []) joins (one (L or V or LV or LVT) ∷ [])
    -- GB7
    ∷ row (one (LV or V) ∷ []) joins (one (V or T) ∷ [])
    -- GB8
    ∷ row (one (LVT or T) ∷ []) joins (one T ∷ [])
    -- GB9
    ∷ row [] joins (one (Extend or ZWJ) ∷ [])
    -- GB9a
    ∷ row [] joins (one SpacingMark ∷ [])
    -- GB9b
    ∷ row (one Prepend ∷ []) joins []
    -- GB9c of Unicode 18.0, which, unlike that of 17.0, asks for no consonant before the linker
    ∷ row (one InLinker ∷ many InExtend ∷ []) joins (one Consonant ∷ [])
    -- GB11
    ∷ row (one ExtPict ∷ many Extend ∷ one ZWJ ∷ []) joins (one ExtPict ∷ [])
    -- GB12
    ∷ row (one sot ∷ pairs RI ∷ one RI ∷ []) joins (one RI ∷ [])
    -- GB13
    ∷ row (one (no RI) ∷ pairs RI ∷ one RI ∷ []) joins (one RI ∷ [])
    -- GB999
    ∷ row [] breaks []
    ∷ []

-- there are no marks that are read as one with what they follow
unfoldable pub cluster_rules : RowRules
cluster_rules = record {
  above = rows_of (tail symbol_properties) cluster_rows;
  below = [];
  has_marks = false;
  marks = 0;
  bare = 0;
  alone = 0;
  at_end = 0;
}
