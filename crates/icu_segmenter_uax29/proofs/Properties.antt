-- The symbol of a code point says its three properties: a computation over the kit's rows.
use Rattle.std.proofs.Common.{◌≡◌, ℕ, Bool, true, ◌&&◌, ◌==◌, nat_lt, refl, eqb-true, arith}
use Rattle.std.specs.Bool.{beq}
use Rattle.std.proofs.lemmas.Bool.{and_parts, ltb-true}
use Rattle.ucd_table.specs.Rows.{value_in}
use Rattle.ucd_table.proofs.Computing.{tables}
use Rattle.ucd_table.proofs.Facts.{same_from_beq, Stepped-everywhere}
use Rattle.ucd_table.proofs.Stepped.{Stepped, of_rows, zip_stepped}
use Rattle.ucd_table.proofs.StepsLemmas.{rises_from}
use Rattle.ucd_breaks.specs.declared.GraphemeClusterBreak.{GraphemeClusterBreak}
use Rattle.ucd_breaks.specs.GraphemeClusterBreak.{grapheme_cluster_break, grapheme_cluster_break_number}
use Rattle.ucd_breaks.proofs.GraphemeClusterBreakLemmas.{grapheme_cluster_break_stepped, grapheme_cluster_break_number_injective}
use Rattle.ucd_derived.specs.declared.IndicConjunctBreak.{IndicConjunctBreak}
use Rattle.ucd_derived.specs.IndicConjunctBreak.{indic_conjunct_break, indic_conjunct_break_number}
use Rattle.ucd_derived.proofs.IndicConjunctBreakLemmas.{indic_conjunct_break_stepped, indic_conjunct_break_number_injective}
use Rattle.ucd_emoji.specs.Binary.{is_extended_pictographic}
use Rattle.ucd_emoji.proofs.BinaryLemmas.{is_extended_pictographic_stepped}
use Rattle.icu_segmenter_uax29.specs.Clusters.{cluster_machine}
use Rattle.icu_segmenter_uax29.specs.declared.ranges.TheConstants.{RANGES}
use Rattle.icu_segmenter_uax29.specs.declared.states.TheConstants.{STATES}
use Rattle.icu_segmenter_uax29.specs.declared.transitions.TheConstants.{TRANSITIONS}
use Rattle.icu_segmenter_uax29.specs.Properties.{HasProperties, gcb_of, incb_of, pict_of}
use Rattle.icu_segmenter_uax29.proofs.RangeSymbols.{symbol_in, range-symbol}

abbrev pub symbol : ℕ → ℕ
symbol = symbol_in cluster_machine

abbrev value : ℕ → ℕ
value = value_in 1 RANGES

unfoldable value_stepped : Stepped value
unfolding rises_from
value_stepped = of_rows 1 RANGES refl

-- the symbol says the three properties, and is one of a text
abbrev says : GraphemeClusterBreak × IndicConjunctBreak → Bool × ℕ → Bool
says breaks other =
    (grapheme_cluster_break_number breaks.0 == grapheme_cluster_break_number (gcb_of other.1))
    && ((indic_conjunct_break_number breaks.1 == indic_conjunct_break_number (incb_of other.1))
    && (beq other.0 (pict_of other.1) && (nat_lt 0 other.1 && nat_lt other.1 20)))

abbrev says_stepped : Stepped (λ c. says (grapheme_cluster_break c, indic_conjunct_break c) (is_extended_pictographic c, value c))
says_stepped =
    zip_stepped says (λ c. (grapheme_cluster_break c, indic_conjunct_break c)) (λ c. (is_extended_pictographic c, value c))
    (zip_stepped (λ g i. (g, i)) grapheme_cluster_break indic_conjunct_break grapheme_cluster_break_stepped indic_conjunct_break_stepped)
    (zip_stepped (λ p v. (p, v)) is_extended_pictographic value is_extended_pictographic_stepped value_stepped)

all_say : (c : ℕ) → says (grapheme_cluster_break c, indic_conjunct_break c) (is_extended_pictographic c, value c) ≡ true
unfolding tables grapheme_cluster_break_stepped indic_conjunct_break_stepped is_extended_pictographic_stepped value_stepped
all_say = Stepped-everywhere (λ c. says (grapheme_cluster_break c, indic_conjunct_break c) (is_extended_pictographic c, value c)) says_stepped refl

value-says : (c : ℕ) → HasProperties c (value c)
value-says c =
    let one = and_parts _ _ (all_say c) in
    let two = and_parts _ _ one.1 in
    let three = and_parts _ _ two.1 in
    let four = and_parts _ _ three.1 in
    record {
      breaks = grapheme_cluster_break_number_injective _ _ (eqb-true _ _ one.0);
      conjuncts = indic_conjunct_break_number_injective _ _ (eqb-true _ _ two.0);
      pictographs = same_from_beq _ _ three.0;
      some = ltb-true _ _ four.0;
      below = ltb-true _ _ four.1;
    }

symbol-value : (c : ℕ) → symbol c ≡ value c
unfolding cluster_machine
symbol-value c =
    let below = (value-says c).below in
    range-symbol RANGES STATES TRANSITIONS c (omega arith)

pub symbol-says : (c : ℕ) → HasProperties c (symbol c)
symbol-says c = rw (symbol-value c) (value-says c)
