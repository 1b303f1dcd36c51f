-- The symbol of a code point means its properties, by each tailoring: computations over the kit's rows.
use Rattle.std.proofs.Common.{◌≡◌, ℕ, Bool, true, ◌&&◌, ◌==◌, nat_lt, List, [], ◌∷◌, refl, eqb-true, ap, subst, sym, ◌∙◌}
use Rattle.std.specs.Prelude.{slice_index_or}
use Rattle.std.specs.Bool.{beq}
use Rattle.std.proofs.lemmas.Bool.{and_parts, ltb-true}
use Rattle.ucd_table.specs.Rows.{value_in}
use Rattle.ucd_table.proofs.Computing.{tables}
use Rattle.ucd_table.proofs.Facts.{same_from_beq, Stepped-everywhere}
use Rattle.ucd_table.proofs.Stepped.{Stepped, of_rows, zip_stepped}
use Rattle.ucd_table.proofs.StepsLemmas.{rises_from}
use Rattle.ucd_breaks.specs.declared.LineBreak.{LineBreak}
use Rattle.ucd_breaks.specs.LineBreak.{line_break, line_break_number}
use Rattle.ucd_breaks.proofs.LineBreakLemmas.{line_break_stepped, line_break_number_injective}
use Rattle.ucd_category.specs.declared.GeneralCategory.{GeneralCategory}
use Rattle.ucd_category.specs.GeneralCategory.{general_category}
use Rattle.ucd_category.proofs.GeneralCategoryLemmas.{general_category_stepped}
use Rattle.ucd_east_asian.specs.declared.EastAsianWidth.{EastAsianWidth}
use Rattle.ucd_east_asian.specs.EastAsianWidth.{east_asian_width}
use Rattle.ucd_east_asian.proofs.EastAsianWidthLemmas.{east_asian_width_stepped}
use Rattle.ucd_emoji.specs.Binary.{is_extended_pictographic}
use Rattle.ucd_emoji.proofs.BinaryLemmas.{is_extended_pictographic_stepped}
use Rattle.ucd_script.specs.declared.Script.{Script}
use Rattle.ucd_script.specs.Script.{script}
use Rattle.ucd_script.proofs.ScriptLemmas.{script_stepped}
use Rattle.seg_data.specs.declared.provider.ComplexScript.{ComplexScript}
use Rattle.seg_machine.specs.Machine.{Replacement, replaced, symbol_and_script}
use Rattle.icu_segmenter_uax14.specs.Characters.{Character, Sign, NoSign, LineStyle, HasStyle, character, complex_script, no_script, sign_rows, strict, break_all, keep_all, ja_loose, loose, ja_normal, normal}
use Rattle.icu_segmenter_uax14.specs.Lines.{tailored_machine}
use Rattle.icu_segmenter_uax14.specs.LineValues.{LineProperties, Trait, Usual, Edge, Opening, Closing, Unassigned, Dotted, Loose, Kept, StandsFor, properties_of, trait_number}
use Rattle.icu_segmenter_uax14.specs.declared.data.TheConstants as parts
use Rattle.icu_segmenter_uax29.proofs.Scripts.{complex_number, same-complex}
use Rattle.icu_segmenter_uax14.proofs.Values.{symbol_by, symbol-is, value}

abbrev trait_from : ℕ → Trait
trait_from n = slice_index_or (Usual ∷ Edge ∷ Opening ∷ Closing ∷ Unassigned ∷ Dotted ∷ Loose ∷ Kept ∷ []) n Usual

trait-back : (t : Trait) → trait_from (trait_number t) ≡ t
trait-back Usual = refl
trait-back Edge = refl
trait-back Opening = refl
trait-back Closing = refl
trait-back Unassigned = refl
trait-back Dotted = refl
trait-back Loose = refl
trait-back Kept = refl

same-trait : (s t : Trait) → trait_number s ≡ trait_number t → s ≡ t
same-trait s t same = sym (trait-back s) ∙ ap trait_from same ∙ trait-back t

-- the symbol says the properties, and is one of a text
abbrev same_properties : LineProperties → LineProperties → Bool
same_properties p q = (line_break_number p.0 == line_break_number q.0) && (beq p.1 q.1 && trait_number p.2 == trait_number q.2)

abbrev says : LineProperties → ℕ → Bool
says p symbol = same_properties p (properties_of symbol) && (nat_lt 0 symbol && nat_lt symbol 73)

said : (p : LineProperties) (symbol : ℕ) → says p symbol ≡ true → StandsFor p symbol
said p symbol is =
    let q = properties_of symbol in
    let one = and_parts (same_properties p q) _ is in
    let two = and_parts (line_break_number p.0 == line_break_number q.0) _ one.0 in
    let three = and_parts (beq p.1 q.1) _ two.1 in
    let four = and_parts (nat_lt 0 symbol) _ one.1 in
    let class = line_break_number_injective _ _ (eqb-true _ _ two.0) in
    let wide = same_from_beq _ _ three.0 in
    let trait = same-trait _ _ (eqb-true _ _ three.1) in
    record {
      value = λ i. (class i, wide i, trait i);
      some = ltb-true _ _ four.0;
      below = ltb-true _ _ four.1;
    }

-- ---- what is known of a code point, by steps

unfoldable value_stepped : Stepped value
unfolding rises_from
value_stepped = of_rows parts.OTHER parts.RANGES refl

unfoldable sign_stepped : Stepped (value_in NoSign sign_rows)
unfolding rises_from
sign_stepped = of_rows NoSign sign_rows refl

abbrev known_by : LineBreak × GeneralCategory → (EastAsianWidth × Bool) × (Sign × Script) → Character
known_by a b = record { line_break = a.0; category = a.1; width = b.0.0; is_pictograph = b.0.1; sign = b.1.0; script = b.1.1 }

abbrev pair : {X Y : Type 0} → X → Y → X × Y
pair x y = (x, y)

unfoldable character_stepped : Stepped character
character_stepped =
    zip_stepped known_by (λ c. (line_break c, general_category c)) (λ c. ((east_asian_width c, is_extended_pictographic c), (value_in NoSign sign_rows c, script c)))
    (zip_stepped pair line_break general_category line_break_stepped general_category_stepped)
    (zip_stepped pair (λ c. (east_asian_width c, is_extended_pictographic c)) (λ c. (value_in NoSign sign_rows c, script c))
    (zip_stepped pair east_asian_width is_extended_pictographic east_asian_width_stepped is_extended_pictographic_stepped)
    (zip_stepped pair (value_in NoSign sign_rows) script sign_stepped script_stepped))

abbrev Scripts : Type 0
Scripts = Character → ComplexScript

module _ (style : LineStyle) (scripts : Scripts) (map : List (ℕ × ComplexScript)) (replacements : List Replacement) where
  abbrev passes : Character → ℕ → Bool
  passes c v = says (style c) (symbol_by map replacements v).0 && complex_number (symbol_by map replacements v).1 == complex_number (scripts c)

  abbrev test : ℕ → Bool
  test c = passes (character c) (value c)

  abbrev test_stepped : Stepped test
  test_stepped = zip_stepped passes character value character_stepped value_stepped

  -- what a tailoring gives each code point: a symbol and a script
  pub record Given : Type 0 where
    pub symbols : (c : ℕ) → HasStyle style c (symbol_and_script (tailored_machine map replacements) c).0
    pub scripts_are : (c : ℕ) → (symbol_and_script (tailored_machine map replacements) c).1 ≡ scripts (character c)

  given : ((c : ℕ) → test c ≡ true) → Given
  given all = record {
    symbols = λ c.
        subst (λ s. HasStyle style c s) (ap (λ (given : ℕ × ComplexScript). given.0) (sym (symbol-is map replacements c)))
        (said (style (character c)) (symbol_by map replacements (value c)).0 (and_parts _ _ (all c)).0);
    scripts_are = λ c.
        ap (λ (given : ℕ × ComplexScript). given.1) (symbol-is map replacements c)
        ∙ same-complex _ _ (eqb-true _ _ (and_parts (says (style (character c)) (symbol_by map replacements (value c)).0) _ (all c)).1);
  }

strict-passes : (c : ℕ) → test strict complex_script parts.MAP [] c ≡ true
unfolding tables replaced character_stepped sign_stepped line_break_stepped general_category_stepped east_asian_width_stepped is_extended_pictographic_stepped script_stepped value_stepped
strict-passes = Stepped-everywhere (test strict complex_script parts.MAP []) (test_stepped strict complex_script parts.MAP []) refl

pub strict-given : Given strict complex_script parts.MAP []
strict-given = given strict complex_script parts.MAP [] strict-passes

break-all-passes : (c : ℕ) → test break_all no_script parts.BREAK_ALL parts.BREAK_ALL_REPLACED c ≡ true
unfolding tables replaced character_stepped sign_stepped line_break_stepped general_category_stepped east_asian_width_stepped is_extended_pictographic_stepped script_stepped value_stepped
break-all-passes = Stepped-everywhere (test break_all no_script parts.BREAK_ALL parts.BREAK_ALL_REPLACED) (test_stepped break_all no_script parts.BREAK_ALL parts.BREAK_ALL_REPLACED) refl

pub break-all-given : Given break_all no_script parts.BREAK_ALL parts.BREAK_ALL_REPLACED
break-all-given = given break_all no_script parts.BREAK_ALL parts.BREAK_ALL_REPLACED break-all-passes

keep-all-passes : (c : ℕ) → test keep_all complex_script parts.KEEP_ALL parts.KEEP_ALL_REPLACED c ≡ true
unfolding tables replaced character_stepped sign_stepped line_break_stepped general_category_stepped east_asian_width_stepped is_extended_pictographic_stepped script_stepped value_stepped
keep-all-passes = Stepped-everywhere (test keep_all complex_script parts.KEEP_ALL parts.KEEP_ALL_REPLACED) (test_stepped keep_all complex_script parts.KEEP_ALL parts.KEEP_ALL_REPLACED) refl

pub keep-all-given : Given keep_all complex_script parts.KEEP_ALL parts.KEEP_ALL_REPLACED
keep-all-given = given keep_all complex_script parts.KEEP_ALL parts.KEEP_ALL_REPLACED keep-all-passes

ja-loose-passes : (c : ℕ) → test ja_loose complex_script parts.JA_LOOSE [] c ≡ true
unfolding tables replaced character_stepped sign_stepped line_break_stepped general_category_stepped east_asian_width_stepped is_extended_pictographic_stepped script_stepped value_stepped
ja-loose-passes = Stepped-everywhere (test ja_loose complex_script parts.JA_LOOSE []) (test_stepped ja_loose complex_script parts.JA_LOOSE []) refl

pub ja-loose-given : Given ja_loose complex_script parts.JA_LOOSE []
ja-loose-given = given ja_loose complex_script parts.JA_LOOSE [] ja-loose-passes

loose-passes : (c : ℕ) → test loose complex_script parts.LOOSE [] c ≡ true
unfolding tables replaced character_stepped sign_stepped line_break_stepped general_category_stepped east_asian_width_stepped is_extended_pictographic_stepped script_stepped value_stepped
loose-passes = Stepped-everywhere (test loose complex_script parts.LOOSE []) (test_stepped loose complex_script parts.LOOSE []) refl

pub loose-given : Given loose complex_script parts.LOOSE []
loose-given = given loose complex_script parts.LOOSE [] loose-passes

ja-normal-passes : (c : ℕ) → test ja_normal complex_script parts.JA_NORMAL [] c ≡ true
unfolding tables replaced character_stepped sign_stepped line_break_stepped general_category_stepped east_asian_width_stepped is_extended_pictographic_stepped script_stepped value_stepped
ja-normal-passes = Stepped-everywhere (test ja_normal complex_script parts.JA_NORMAL []) (test_stepped ja_normal complex_script parts.JA_NORMAL []) refl

pub ja-normal-given : Given ja_normal complex_script parts.JA_NORMAL []
ja-normal-given = given ja_normal complex_script parts.JA_NORMAL [] ja-normal-passes

normal-passes : (c : ℕ) → test normal complex_script parts.NORMAL [] c ≡ true
unfolding tables replaced character_stepped sign_stepped line_break_stepped general_category_stepped east_asian_width_stepped is_extended_pictographic_stepped script_stepped value_stepped
normal-passes = Stepped-everywhere (test normal complex_script parts.NORMAL []) (test_stepped normal complex_script parts.NORMAL []) refl

pub normal-given : Given normal complex_script parts.NORMAL []
normal-given = given normal complex_script parts.NORMAL [] normal-passes

ja-passes : (c : ℕ) → test strict complex_script parts.JA [] c ≡ true
unfolding tables replaced character_stepped sign_stepped line_break_stepped general_category_stepped east_asian_width_stepped is_extended_pictographic_stepped script_stepped value_stepped
ja-passes = Stepped-everywhere (test strict complex_script parts.JA []) (test_stepped strict complex_script parts.JA []) refl

pub ja-given : Given strict complex_script parts.JA []
ja-given = given strict complex_script parts.JA [] ja-passes
