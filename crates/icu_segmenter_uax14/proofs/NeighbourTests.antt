-- The tests of the rows that laws of neighbours cite, computed.
use Rattle.std.proofs.Common.{◌≡◌, true, not, ◌==◌, refl}
use Rattle.ucd_table.proofs.TrieCheck.{all_below}
use Rattle.seg_rules.specs.Patterns.{flags}
use Rattle.seg_rules.specs.Plain.{right_fits}
use Rattle.seg_rules.specs.RowRules.{flow, is_full, no_flags, once}
use Rattle.seg_rules.specs.Classes.{◌or◌, ◌but◌, no}
use Rattle.icu_segmenter_uax14.specs.LineClasses.{LineClass, every, AK, AL, AP, AS, BA, BB, BK, CB, CL, CM, CP, CR, EB, EM, EX, GL, H2, H3, HH, HL, HY, ID, IN, IS, JL, JT, JV, LF, NL, NS, NU, OP, PO, PR, SP, SY, VF, VI, WJ, ZW, ZWJ, CP_NARROW, DOTTED, KEPT, LOOSE, OP_NARROW, QU_PF, QU_PI, QU_PLAIN, PICTOGRAPH}
use Rattle.icu_segmenter_uax14.proofs.LineTables.{numbered_above, numbered_below, numbered_rules}
use Rattle.icu_segmenter_uax14.proofs.Neighbours.{pairs_keep}
use Rattle.icu_segmenter_uax14.proofs.PlaceTests.{place_keeps}
use Rattle.icu_segmenter_uax14.proofs.RowTests.{keeps, may_begin, may_end}

-- no row that breaks can fit before one that joins surely does
abbrev Joins : LineClass → LineClass → Type 0
Joins lasts nexts = pairs_keep (λ v. v == 0) lasts nexts ≡ true

pub spaces-join : Joins (no (BK or CR or LF or NL)) (SP or ZW or BK or CR or LF or NL)
unfolding pairs_keep place_keeps keeps may_end may_begin all_below flags flow is_full no_flags once right_fits numbered_above numbered_below numbered_rules
spaces-join = refl

pub returns-join : Joins CR LF
unfolding pairs_keep place_keeps keeps may_end may_begin all_below flags flow is_full no_flags once right_fits numbered_above numbered_below numbered_rules
returns-join = refl

pub marks-join : Joins (no (BK or CR or LF or NL or SP or ZW)) (CM or ZWJ)
unfolding pairs_keep place_keeps keeps may_end may_begin all_below flags flow is_full no_flags once right_fits numbered_above numbered_below numbered_rules
marks-join = refl

pub joiners-join : Joins (ZWJ or WJ or GL) every
unfolding pairs_keep place_keeps keeps may_end may_begin all_below flags flow is_full no_flags once right_fits numbered_above numbered_below numbered_rules
joiners-join = refl

pub before-joiners-join : Joins (no (BK or CR or LF or NL or SP or ZW)) WJ
unfolding pairs_keep place_keeps keeps may_end may_begin all_below flags flow is_full no_flags once right_fits numbered_above numbered_below numbered_rules
before-joiners-join = refl

pub closings-join : Joins (no (BK or CR or LF or NL or SP or ZW)) (CL or CP or EX or SY or IS)
unfolding pairs_keep place_keeps keeps may_end may_begin all_below flags flow is_full no_flags once right_fits numbered_above numbered_below numbered_rules
closings-join = refl

pub openings-join : Joins OP every
unfolding pairs_keep place_keeps keeps may_end may_begin all_below flags flow is_full no_flags once right_fits numbered_above numbered_below numbered_rules
openings-join = refl

pub letters-join : Joins (AL or HL or NU) (AL or HL or NU)
unfolding pairs_keep place_keeps keeps may_end may_begin all_below flags flow is_full no_flags once right_fits numbered_above numbered_below numbered_rules
letters-join = refl

pub digits-join : Joins NU (NU or IS or SY)
unfolding pairs_keep place_keeps keeps may_end may_begin all_below flags flow is_full no_flags once right_fits numbered_above numbered_below numbered_rules
digits-join = refl

pub to-digits-join : Joins (HY or IS or PO or PR but LOOSE or CP_NARROW) NU
unfolding pairs_keep place_keeps keeps may_end may_begin all_below flags flow is_full no_flags once right_fits numbered_above numbered_below numbered_rules
to-digits-join = refl

pub from-digits-join : Joins NU (PR or PO but LOOSE or OP_NARROW)
unfolding pairs_keep place_keeps keeps may_end may_begin all_below flags flow is_full no_flags once right_fits numbered_above numbered_below numbered_rules
from-digits-join = refl

pub before-quotations-join : Joins (no (BK or CR or LF or NL or SP or ZW)) (QU_PLAIN or QU_PF)
unfolding pairs_keep place_keeps keeps may_end may_begin all_below flags flow is_full no_flags once right_fits numbered_above numbered_below numbered_rules
before-quotations-join = refl

pub after-quotations-join : Joins (QU_PLAIN or QU_PI) every
unfolding pairs_keep place_keeps keeps may_end may_begin all_below flags flow is_full no_flags once right_fits numbered_above numbered_below numbered_rules
after-quotations-join = refl

pub hyphens-join : Joins (no (BK or CR or LF or NL or SP or ZW or CB or CM)) (BA but LOOSE or HH but LOOSE or HY or NS or IN but LOOSE)
unfolding pairs_keep place_keeps keeps may_end may_begin all_below flags flow is_full no_flags once right_fits numbered_above numbered_below numbered_rules
hyphens-join = refl

pub after-bb-joins : Joins BB (no CB)
unfolding pairs_keep place_keeps keeps may_end may_begin all_below flags flow is_full no_flags once right_fits numbered_above numbered_below numbered_rules
after-bb-joins = refl

pub leading-join : Joins JL (JL or JV or H2 or H3)
unfolding pairs_keep place_keeps keeps may_end may_begin all_below flags flow is_full no_flags once right_fits numbered_above numbered_below numbered_rules
leading-join = refl

pub vowels-join : Joins (JV or H2) (JV or JT)
unfolding pairs_keep place_keeps keeps may_end may_begin all_below flags flow is_full no_flags once right_fits numbered_above numbered_below numbered_rules
vowels-join = refl

pub trailing-join : Joins (JT or H3) JT
unfolding pairs_keep place_keeps keeps may_end may_begin all_below flags flow is_full no_flags once right_fits numbered_above numbered_below numbered_rules
trailing-join = refl

pub suffixes-join : Joins (JL or JV or JT or H2 or H3) (PO but LOOSE)
unfolding pairs_keep place_keeps keeps may_end may_begin all_below flags flow is_full no_flags once right_fits numbered_above numbered_below numbered_rules
suffixes-join = refl

pub prefixes-join : Joins (PR but LOOSE) (JL or JV or JT or H2 or H3)
unfolding pairs_keep place_keeps keeps may_end may_begin all_below flags flow is_full no_flags once right_fits numbered_above numbered_below numbered_rules
prefixes-join = refl

pub aksaras-join : Joins AP (AK or DOTTED or AS)
unfolding pairs_keep place_keeps keeps may_end may_begin all_below flags flow is_full no_flags once right_fits numbered_above numbered_below numbered_rules
aksaras-join = refl

pub viramas-join : Joins (AK or DOTTED or AS) (VF or VI)
unfolding pairs_keep place_keeps keeps may_end may_begin all_below flags flow is_full no_flags once right_fits numbered_above numbered_below numbered_rules
viramas-join = refl

pub modifiers-join : Joins (EB or PICTOGRAPH) EM
unfolding pairs_keep place_keeps keeps may_end may_begin all_below flags flow is_full no_flags once right_fits numbered_above numbered_below numbered_rules
modifiers-join = refl

-- no row that joins, or must break, can fit before one that breaks surely does
abbrev Parts : LineClass → LineClass → Type 0
Parts lasts nexts = pairs_keep (λ v. v == 1) lasts nexts ≡ true

pub ideographs-part : Parts (ID but KEPT) (ID but KEPT)
unfolding pairs_keep place_keeps keeps may_end may_begin all_below flags flow is_full no_flags once right_fits numbered_above numbered_below numbered_rules
ideographs-part = refl

pub after-parts : Parts BA (AL or HL or NU or ID)
unfolding pairs_keep place_keeps keeps may_end may_begin all_below flags flow is_full no_flags once right_fits numbered_above numbered_below numbered_rules
after-parts = refl

pub before-parts : Parts (AL or HL or NU or ID) BB
unfolding pairs_keep place_keeps keeps may_end may_begin all_below flags flow is_full no_flags once right_fits numbered_above numbered_below numbered_rules
before-parts = refl

-- mandatory breaks

pub must-break : pairs_keep (λ v. v == 2) (BK or LF or NL) (every) ≡ true
unfolding pairs_keep place_keeps keeps may_end may_begin all_below flags flow is_full no_flags once right_fits numbered_above numbered_below numbered_rules
must-break = refl

pub must-break-after-returns : pairs_keep (λ v. v == 2) (CR) (no LF) ≡ true
unfolding pairs_keep place_keeps keeps may_end may_begin all_below flags flow is_full no_flags once right_fits numbered_above numbered_below numbered_rules
must-break-after-returns = refl

pub may-or-may-not : pairs_keep (λ v. not (v == 2)) (no CR but (BK or LF or NL)) (every) ≡ true
unfolding pairs_keep place_keeps keeps may_end may_begin all_below flags flow is_full no_flags once right_fits numbered_above numbered_below numbered_rules
may-or-may-not = refl

pub not-within-line-ends : pairs_keep (λ v. not (v == 2)) (CR) (LF) ≡ true
unfolding pairs_keep place_keeps keeps may_end may_begin all_below flags flow is_full no_flags once right_fits numbered_above numbered_below numbered_rules
not-within-line-ends = refl
