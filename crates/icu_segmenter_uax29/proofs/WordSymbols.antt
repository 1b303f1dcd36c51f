-- The symbol of a code point says its properties for words: a computation over the kit's rows.
use Rattle.std.proofs.Common.{◌≡◌, ℕ, Bool, true, ◌&&◌, ◌==◌, nat_lt, refl, eqb-true, arith}
use Rattle.std.specs.Bool.{beq}
use Rattle.std.proofs.lemmas.Bool.{and_parts, ltb-true}
use Rattle.ucd_table.specs.Rows.{value_in}
use Rattle.ucd_table.proofs.Computing.{tables}
use Rattle.ucd_table.proofs.Facts.{same_from_beq, Stepped-everywhere}
use Rattle.ucd_table.proofs.Stepped.{Stepped, of_rows, zip_stepped}
use Rattle.ucd_table.proofs.StepsLemmas.{rises_from}
use Rattle.ucd_breaks.specs.declared.WordBreak.{WordBreak}
use Rattle.ucd_breaks.specs.WordBreak.{word_break, word_break_number}
use Rattle.ucd_breaks.proofs.WordBreakLemmas.{word_break_stepped, word_break_number_injective}
use Rattle.ucd_emoji.specs.Binary.{is_extended_pictographic}
use Rattle.ucd_emoji.proofs.BinaryLemmas.{is_extended_pictographic_stepped}
use Rattle.icu_segmenter_uax29.specs.Words.{word_machine}
use Rattle.icu_segmenter_uax29.specs.WordValues.{HasWordBreak, is_pictograph_of, word_break_of}
use Rattle.icu_segmenter_uax29.specs.declared.words.ranges.TheConstants.{RANGES}
use Rattle.icu_segmenter_uax29.specs.declared.words.states.TheConstants.{STATES}
use Rattle.icu_segmenter_uax29.specs.declared.words.transitions.TheConstants.{TRANSITIONS}
use Rattle.icu_segmenter_uax29.proofs.RangeSymbols.{symbol_in, range-symbol}

abbrev pub symbol : ℕ → ℕ
symbol = symbol_in word_machine

abbrev pub value : ℕ → ℕ
value = value_in 1 RANGES

unfoldable pub value_stepped : Stepped value
unfolding rises_from
value_stepped = of_rows 1 RANGES refl

-- the symbol says both properties, and is one of a text
abbrev says : WordBreak → Bool × ℕ → Bool
says break other =
    (word_break_number break == word_break_number (word_break_of other.1))
    && (beq other.0 (is_pictograph_of other.1) && (nat_lt 0 other.1 && nat_lt other.1 22))

all_say : (c : ℕ) → says (word_break c) (is_extended_pictographic c, value c) ≡ true
unfolding tables word_break_stepped is_extended_pictographic_stepped value_stepped
all_say =
    Stepped-everywhere (λ c. says (word_break c) (is_extended_pictographic c, value c))
    (zip_stepped says word_break (λ c. (is_extended_pictographic c, value c)) word_break_stepped
    (zip_stepped (λ p v. (p, v)) is_extended_pictographic value is_extended_pictographic_stepped value_stepped)) refl

value-says : (c : ℕ) → HasWordBreak c (value c)
value-says c =
    let one = and_parts _ _ (all_say c) in
    let two = and_parts _ _ one.1 in
    let three = and_parts _ _ two.1 in
    record {
      value = word_break_number_injective _ _ (eqb-true _ _ one.0);
      pictograph = same_from_beq _ _ two.0;
      some = ltb-true _ _ three.0;
      below = ltb-true _ _ three.1;
    }

pub symbol-value : (c : ℕ) → symbol c ≡ value c
unfolding word_machine
symbol-value c =
    let below = (value-says c).below in
    range-symbol RANGES STATES TRANSITIONS c (omega arith)

pub symbol-says : (c : ℕ) → HasWordBreak c (symbol c)
symbol-says c = rw (symbol-value c) (value-says c)
