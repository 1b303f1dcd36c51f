-- The symbol of a code point says its value of Sentence_Break: a computation over the kit's rows.
use Rattle.std.proofs.Common.{◌≡◌, ℕ, Bool, true, ◌&&◌, ◌==◌, nat_lt, refl, eqb-true, arith}
use Rattle.std.proofs.lemmas.Bool.{and_parts, ltb-true}
use Rattle.ucd_table.specs.Rows.{value_in}
use Rattle.ucd_table.proofs.Computing.{tables}
use Rattle.ucd_table.proofs.Facts.{Stepped-everywhere}
use Rattle.ucd_table.proofs.Stepped.{Stepped, of_rows, zip_stepped}
use Rattle.ucd_table.proofs.StepsLemmas.{rises_from}
use Rattle.ucd_breaks.specs.declared.SentenceBreak.{SentenceBreak}
use Rattle.ucd_breaks.specs.SentenceBreak.{sentence_break, sentence_break_number}
use Rattle.ucd_breaks.proofs.SentenceBreakLemmas.{sentence_break_stepped, sentence_break_number_injective}
use Rattle.icu_segmenter_uax29.specs.Sentences.{sentence_machine}
use Rattle.icu_segmenter_uax29.specs.SentenceValues.{HasSentenceBreak, value_of_symbol}
use Rattle.icu_segmenter_uax29.specs.declared.sentences.ranges.TheConstants.{RANGES}
use Rattle.icu_segmenter_uax29.specs.declared.sentences.states.TheConstants.{STATES}
use Rattle.icu_segmenter_uax29.specs.declared.sentences.transitions.TheConstants.{TRANSITIONS}
use Rattle.icu_segmenter_uax29.proofs.RangeSymbols.{symbol_in, range-symbol}

abbrev pub symbol : ℕ → ℕ
symbol = symbol_in sentence_machine

abbrev value : ℕ → ℕ
value = value_in 1 RANGES

unfoldable value_stepped : Stepped value
unfolding rises_from
value_stepped = of_rows 1 RANGES refl

-- the symbol says the value, and is one of a text
abbrev says : SentenceBreak → ℕ → Bool
says break symbol = (sentence_break_number break == sentence_break_number (value_of_symbol symbol)) && (nat_lt 0 symbol && nat_lt symbol 16)

all_say : (c : ℕ) → says (sentence_break c) (value c) ≡ true
unfolding tables sentence_break_stepped value_stepped
all_say = Stepped-everywhere (λ c. says (sentence_break c) (value c)) (zip_stepped says sentence_break value sentence_break_stepped value_stepped) refl

value-says : (c : ℕ) → HasSentenceBreak c (value c)
value-says c =
    let one = and_parts _ _ (all_say c) in
    let two = and_parts _ _ one.1 in
    record {
      value = sentence_break_number_injective _ _ (eqb-true _ _ one.0);
      some = ltb-true _ _ two.0;
      below = ltb-true _ _ two.1;
    }

symbol-value : (c : ℕ) → symbol c ≡ value c
unfolding sentence_machine
symbol-value c =
    let below = (value-says c).below in
    range-symbol RANGES STATES TRANSITIONS c (omega arith)

pub symbol-says : (c : ℕ) → HasSentenceBreak c (symbol c)
symbol-says c = rw (symbol-value c) (value-says c)
