-- The symbol and the script of a code point in the machine of typed words say its properties: a computation over the kit's rows.
use Rattle.std.proofs.Common.{◌≡◌, ℕ, ◌-◌, Bool, true, ◌&&◌, ◌==◌, nat_lt, if◌then◌else◌, refl, eqb-true, ap, subst, sym, ◌∙◌}
use Rattle.std.specs.Prelude.{slice_index_or}
use Rattle.std.specs.Bool.{beq}
use Rattle.std.proofs.lemmas.Bool.{and_parts, ltb-true}
use Rattle.ucd_table.specs.Rows.{value_in}
use Rattle.ucd_table.proofs.Computing.{tables}
use Rattle.ucd_table.proofs.Facts.{same_from_beq, Stepped-everywhere}
use Rattle.ucd_table.proofs.Stepped.{Stepped, of_rows, zip_stepped}
use Rattle.ucd_table.proofs.StepsLemmas.{rises_from}
use Rattle.ucd_breaks.specs.declared.LineBreak.{LineBreak}
use Rattle.ucd_breaks.specs.LineBreak.{line_break}
use Rattle.ucd_breaks.proofs.LineBreakLemmas.{line_break_stepped}
use Rattle.ucd_breaks.specs.declared.WordBreak.{WordBreak}
use Rattle.ucd_breaks.specs.WordBreak.{word_break}
use Rattle.ucd_breaks.proofs.WordBreakLemmas.{word_break_stepped}
use Rattle.ucd_emoji.specs.Binary.{is_extended_pictographic}
use Rattle.ucd_emoji.proofs.BinaryLemmas.{is_extended_pictographic_stepped}
use Rattle.ucd_script.specs.declared.Script.{Script}
use Rattle.ucd_script.specs.Script.{script}
use Rattle.ucd_script.proofs.ScriptLemmas.{script_stepped}
use Rattle.seg_data.specs.declared.provider.ComplexScript.{ComplexScript}
use Rattle.seg_data.specs.declared.provider.ComplexScript.TheVariants as complex
use Rattle.seg_data.specs.Table.{value_of}
use Rattle.seg_machine.specs.Machine.{replaced, symbol_and_script}
use Rattle.icu_segmenter_uax29.specs.TypedWords.{typed_word_machine}
use Rattle.icu_segmenter_uax29.specs.WordTypes.{Character, HasTypedWordBreak, character, is_unruled, plain_symbol, unruled_symbol, word_script}
use Rattle.icu_segmenter_uax29.specs.WordValues.{HasWordBreak}
use Rattle.icu_segmenter_uax29.specs.declared.words.typed.data.TheConstants.{MAP, RANGES, SHIFT}
use Rattle.icu_segmenter_uax29.proofs.RangeSymbols.{find-value_in, symbol_in}
use Rattle.icu_segmenter_uax29.proofs.Scripts.{complex_number, same-complex}
use Rattle.icu_segmenter_uax29.proofs.WordSymbols.{symbol, symbol-says, symbol-value}
use Rattle.icu_segmenter_uax29.proofs.WordSymbols.{value as plain_value, value_stepped as plain_value_stepped}

-- ---- the symbol and the script, by the value of a range

abbrev value : ℕ → ℕ
value = value_in 1 RANGES

abbrev symbol_by : ℕ → ℕ × ComplexScript
symbol_by v = if nat_lt v SHIFT then (v, complex.None) else slice_index_or MAP (v - SHIFT) (0, complex.None)

symbol-is : (c : ℕ) → symbol_and_script typed_word_machine c ≡ symbol_by (value c)
unfolding symbol_and_script value_of replaced typed_word_machine
symbol-is c = ap symbol_by (find-value_in RANGES 1 c)

-- ---- what is known of a code point, by steps

unfoldable value_stepped : Stepped value
unfolding rises_from
value_stepped = of_rows 1 RANGES refl

abbrev pair : {X Y : Type 0} → X → Y → X × Y
pair x y = (x, y)

abbrev known_by : WordBreak × Bool → LineBreak × Script → Character
known_by a b = record { word_break = a.0; is_pictograph = a.1; line_break = b.0; script = b.1 }

unfoldable character_stepped : Stepped character
character_stepped =
    zip_stepped known_by (λ c. (word_break c, is_extended_pictographic c)) (λ c. (line_break c, script c))
    (zip_stepped pair word_break is_extended_pictographic word_break_stepped is_extended_pictographic_stepped)
    (zip_stepped pair line_break script line_break_stepped script_stepped)

-- the symbol, beside that in the machine of words, and the script say what is known
abbrev says : Character → ℕ → ℕ × ComplexScript → Bool
says c plain (symbol, script) =
    (plain_symbol symbol == plain)
    && (beq (is_unruled c) (symbol == unruled_symbol)
    && (complex_number script == complex_number (word_script c) && (nat_lt 0 symbol && nat_lt symbol 23)))

abbrev test : ℕ → Bool
test c = says (character c) (plain_value c) (symbol_by (value c))

all-say : (c : ℕ) → test c ≡ true
unfolding tables replaced character_stepped word_break_stepped is_extended_pictographic_stepped line_break_stepped script_stepped value_stepped plain_value_stepped
all-say =
    Stepped-everywhere test
    (zip_stepped (λ c (v : ℕ × ℕ). says c v.0 (symbol_by v.1)) character (λ c. (plain_value c, value c)) character_stepped
    (zip_stepped pair plain_value value plain_value_stepped value_stepped)) refl

-- ---- the laws

pub record Said (c : ℕ) : Type 0 where
  pub plain : plain_symbol (symbol_in typed_word_machine c) ≡ symbol c
  pub typed : HasTypedWordBreak c (symbol_in typed_word_machine c)
  pub scripted : (symbol_and_script typed_word_machine c).1 ≡ word_script (character c)

said : (c : ℕ) (given : ℕ × ComplexScript) → says (character c) (plain_value c) given ≡ true → symbol_and_script typed_word_machine c ≡ given → Said c
said c (s, t) is here =
    let one = and_parts (plain_symbol s == plain_value c) _ is in
    let two = and_parts (beq (is_unruled (character c)) (s == unruled_symbol)) _ one.1 in
    let three = and_parts (complex_number t == complex_number (word_script (character c))) _ two.1 in
    let four = and_parts (nat_lt 0 s) _ three.1 in
    let symbol-here : symbol_in typed_word_machine c ≡ s = ap (λ (given : ℕ × ComplexScript). given.0) here in
    let plain : plain_symbol s ≡ symbol c = eqb-true _ _ one.0 ∙ sym (symbol-value c) in
    let typed : HasTypedWordBreak c s = record {
      plain = subst (HasWordBreak c) (sym plain) (symbol-says c);
      unruled = same_from_beq _ _ two.0;
      some = ltb-true _ _ four.0;
      below = ltb-true _ _ four.1;
    } in
    record {
      plain = ap plain_symbol symbol-here ∙ plain;
      typed = subst (HasTypedWordBreak c) (sym symbol-here) typed;
      scripted = ap (λ (given : ℕ × ComplexScript). given.1) here ∙ same-complex _ _ (eqb-true _ _ three.0);
    }

pub typed-says : (c : ℕ) → Said c
typed-says c = said c (symbol_by (value c)) (all-say c) (symbol-is c)
