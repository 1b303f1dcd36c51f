-- Between which code points boundaries stand: of clusters, of words and of sentences.
use Rattle.std.specs.Prelude.{◌≡◌, ℕ, ◌⊎◌, false, List, [], ◌∷◌, ◌++◌, length, reverse, All, Contains}
use Rattle.ucd_breaks.specs.GraphemeClusterBreak.{grapheme_cluster_break}
use Rattle.ucd_breaks.specs.declared.GraphemeClusterBreak.{GraphemeClusterBreak}
use Rattle.ucd_breaks.specs.declared.GraphemeClusterBreak.TheVariants.{Extend, L, Lv, Lvt, Prepend, RegionalIndicator, SpacingMark, T, V, Other, Zwj}
use Rattle.ucd_breaks.specs.WordBreak.{word_break}
use Rattle.ucd_breaks.specs.declared.WordBreak.{WordBreak}
use Rattle.ucd_breaks.specs.declared.WordBreak.TheVariants as Wb
use Rattle.ucd_derived.specs.IndicConjunctBreak.{indic_conjunct_break}
use Rattle.ucd_derived.specs.declared.IndicConjunctBreak.TheVariants as InCb
use Rattle.unicode_segmentation.specs.Grapheme.{ends_in_half_flag}
use Rattle.seg_text.specs.Boundaries.{offsets}
use Rattle.seg_machine.specs.Pick.{machine_boundaries}
use Rattle.icu_segmenter_uax29.specs.Clusters.{cluster_machine}
use Rattle.icu_segmenter_uax29.specs.Sentences.{sentence_machine}
use Rattle.icu_segmenter_uax29.specs.Words.{word_machine}

-- a boundary of clusters stands between two parts of a text
abbrev pub IsBoundary : List ℕ → List ℕ → Type 0
IsBoundary before after = Contains (offsets (machine_boundaries cluster_machine (before ++ after))) (length before)

-- none does
abbrev pub IsJoined : List ℕ → List ℕ → Type 0
IsJoined before after = IsBoundary before after → ⊥

-- whatever text they stand in, none stands between a code point with one of these values and a next one with one of those
abbrev pub StayTogether : (lasts nexts : List GraphemeClusterBreak) → Type 0
StayTogether lasts nexts =
    (before after : List ℕ) (last next : ℕ) → Contains lasts (grapheme_cluster_break last) → Contains nexts (grapheme_cluster_break next)
    → IsJoined (before ++ last ∷ []) (next ∷ after)

-- all values but those of controls: CR, LF and Control
abbrev pub all_but_controls : List GraphemeClusterBreak
all_but_controls = Extend ∷ L ∷ Lv ∷ Lvt ∷ Prepend ∷ RegionalIndicator ∷ SpacingMark ∷ T ∷ V ∷ Other ∷ Zwj ∷ []

-- the text ends in an even number of regional indicators, or in none
abbrev pub EndsInWholeFlags : List ℕ → Type 0
EndsInWholeFlags before = ends_in_half_flag (reverse before) ≡ false

-- all of them extend
abbrev pub AllExtend : List ℕ → Type 0
AllExtend code_points = All (λ c. grapheme_cluster_break c ≡ Extend) code_points

-- all of them may stand within a conjunct
abbrev pub AllInConjunct : List ℕ → Type 0
AllInConjunct code_points =
    All (λ c. (indic_conjunct_break c ≡ InCb.Extend) ⊎ (indic_conjunct_break c ≡ InCb.Linker)) code_points

-- a boundary of sentences stands between two parts of a text
abbrev pub IsSentenceBoundary : List ℕ → List ℕ → Type 0
IsSentenceBoundary before after = Contains (offsets (machine_boundaries sentence_machine (before ++ after))) (length before)

-- a boundary of words stands between two parts of a text
abbrev pub IsWordBoundary : List ℕ → List ℕ → Type 0
IsWordBoundary before after = Contains (offsets (machine_boundaries word_machine (before ++ after))) (length before)

-- no boundary of words does, and none of sentences
abbrev pub IsWordJoined : List ℕ → List ℕ → Type 0
IsWordJoined before after = IsWordBoundary before after → ⊥

abbrev pub IsSentenceJoined : List ℕ → List ℕ → Type 0
IsSentenceJoined before after = IsSentenceBoundary before after → ⊥

-- whatever text they stand in, no boundary of words stands between a code point with one of these values and a next one with one of those
abbrev pub WordsStayTogether : (lasts nexts : List WordBreak) → Type 0
WordsStayTogether lasts nexts =
    (before after : List ℕ) (last next : ℕ) → Contains lasts (word_break last) → Contains nexts (word_break next)
    → IsWordJoined (before ++ last ∷ []) (next ∷ after)

-- nor between three code points with one of these values, one of those in the middle, and one of these again
abbrev pub WordsHoldTogether : (ends middles : List WordBreak) → Type 0
WordsHoldTogether ends middles =
    (before after : List ℕ) (first middle last : ℕ)
    → Contains ends (word_break first) → Contains middles (word_break middle) → Contains ends (word_break last)
    → IsWordJoined (before ++ first ∷ []) (middle ∷ last ∷ after)
    × IsWordJoined ((before ++ first ∷ []) ++ middle ∷ []) (last ∷ after)

-- all values but those of ends of lines
abbrev pub all_but_line_ends : List WordBreak
all_but_line_ends =
    Wb.DoubleQuote ∷ Wb.ExtendNumLet ∷ Wb.Extend ∷ Wb.Format ∷ Wb.HebrewLetter ∷ Wb.Katakana ∷ Wb.ALetter ∷ Wb.MidNumLet ∷ Wb.MidLetter ∷ Wb.MidNum ∷ Wb.Numeric
    ∷ Wb.RegionalIndicator ∷ Wb.SingleQuote ∷ Wb.WSegSpace ∷ Wb.Other ∷ Wb.Zwj ∷ []
