-- Where spaces between two characters say nothing: after an opening mark, and before some that may not begin a line.
use Rattle.std.proofs.Common.{Some, ◌≡◌, ℕ, Bool, true, false, not, ◌&&◌, List, [], ◌∷◌, ◌++◌, reverse, refl, sym, ap, ◌∙◌}
use Rattle.std.specs.List.{All}
use Rattle.std.proofs.lemmas.Bool.{and_left, and_parts, and_right, not-true, or_from}
use Rattle.std.proofs.lemmas.List.Elements.{All-head, All-tail}
use Rattle.ucd_table.proofs.TrieCheck.{all_below, all_below-at}
use Rattle.seg_rules.specs.Patterns.{flags}
use Rattle.seg_rules.specs.Plain.{right_fits}
use Rattle.seg_rules.specs.RowRules.{flow, is_full, no_flags, once}
use Rattle.icu_segmenter_uax29.proofs.Tests.{implied, implies}
use Rattle.icu_segmenter_uax14.specs.Characters.{character}
use Rattle.seg_rules.specs.Classes.{◌or◌, no}
use Rattle.icu_segmenter_uax14.specs.LineClasses.{LineClass, B2, CL, CM, CP, NS, OP, SP, ZW, ZWJ}
use Rattle.icu_segmenter_uax14.specs.LineValues.{properties_of}
use Rattle.icu_segmenter_uax14.specs.Neighbours.{Is, StayTogetherOverSpaces, ends_in_zero_width}
use Rattle.icu_segmenter_uax14.specs.Tailored.{Tailoring, style_of}
use Rattle.icu_segmenter_uax14.proofs.LineTables.{numbered_above, numbered_below, numbered_rules}
use Rattle.icu_segmenter_uax14.proofs.Neighbours.{ByVerdicts, in-class, symbol}
use Rattle.icu_segmenter_uax14.proofs.Numbers.{after_by, holds, reversed, run-stays, run_of}
use Rattle.icu_segmenter_uax14.proofs.PlaceTests.{around_by}
use Rattle.icu_segmenter_uax14.proofs.RowTests.{ByPatterns, keeps, may_begin, may_end, same_items}
use Rattle.icu_segmenter_uax14.proofs.Sequences.{each_pair, may-be-spaced, may_fit_spaced}
use Rattle.icu_segmenter_uax14.proofs.Tailorings.{symbols-have-properties}

abbrev space_bits : ℕ
space_bits = 73786976294838206464

abbrev opening_bits : ℕ
opening_bits = 13510798882111488

abbrev closing_bits : ℕ
closing_bits = 360448

abbrev dash_bits : ℕ
dash_bits = 256

spaces-hold : holds SP space_bits ≡ true
unfolding all_below numbered_rules
spaces-hold = refl

openings-hold : holds OP opening_bits ≡ true
unfolding all_below numbered_rules
openings-hold = refl

closings-hold : holds (CL or CP) closing_bits ≡ true
unfolding all_below numbered_rules
closings-hold = refl

dashes-hold : holds B2 dash_bits ≡ true
unfolding all_below numbered_rules
dashes-hold = refl

-- the symbols of a class aren't those of zero-width spaces or spaces
abbrev is_other : LineClass → ℕ → Bool
is_other class s = implies (class (Some (properties_of s))) (not (ZW (Some (properties_of s))) && not (SP (Some (properties_of s))))

abbrev others : LineClass → Bool
others class = all_below (is_other class) 73

openings-are-others : others OP ≡ true
unfolding all_below
openings-are-others = refl

closings-are-others : others (CL or CP) ≡ true
unfolding all_below
closings-are-others = refl

dashes-are-others : others B2 ≡ true
unfolding all_below
dashes-are-others = refl

spaces-have-width : all_below (λ s. implies (SP (Some (properties_of s))) (not (ZW (Some (properties_of s))))) 73 ≡ true
unfolding all_below
spaces-have-width = refl

module _ (tailoring : Tailoring) where
  has-width : (c : ℕ) → Is tailoring SP c → ZW (Some (style_of tailoring (character c))) ≡ false
  has-width c is =
      let s = symbol tailoring c in
      let stands = symbols-have-properties tailoring c in
      ap (λ p. ZW (Some p)) stands.value
      ∙ not-true _ (implied (SP (Some (properties_of s))) _
      (all_below-at (λ s. implies (SP (Some (properties_of s))) (not (ZW (Some (properties_of s))))) 73 s spaces-have-width stands.below) (in-class tailoring SP c is))

  not-after-zero-width : (class : LineClass) → others class ≡ true → (spaces : List ℕ) (c : ℕ) (past : List ℕ) → All (Is tailoring SP) spaces → Is tailoring class c
      → ends_in_zero_width tailoring (spaces ++ (c ∷ past)) ≡ false
  not-after-zero-width class are [] c past all is =
      let s = symbol tailoring c in
      let stands = symbols-have-properties tailoring c in
      let parts = and_parts (not (ZW (Some (properties_of s)))) _ (implied (class (Some (properties_of s))) _ (all_below-at (is_other class) 73 s are stands.below) (in-class tailoring class c is)) in
      or_from (ZW (Some (style_of tailoring (character c)))) _ (ap (λ p. ZW (Some p)) stands.value ∙ not-true _ parts.0)
      (and_left (SP (Some (style_of tailoring (character c)))) _ (ap (λ p. SP (Some p)) stands.value ∙ not-true _ parts.1))
  not-after-zero-width class are (space ∷ spaces) c past all is =
      or_from (ZW (Some (style_of tailoring (character space)))) _ (has-width space (All-head (Is tailoring SP) space spaces all))
      (and_right (SP (Some (style_of tailoring (character space)))) _ (not-after-zero-width class are spaces c past (All-tail (Is tailoring SP) space spaces all) is))

-- by the tests of a class, a pattern and what comes next
over-spaces : (lead nexts : LineClass) (lead_bits : ℕ) → holds lead lead_bits ≡ true → others lead ≡ true
    → each_pair (after_by may_fit_spaced (run_of lead_bits space_bits)) (lead or SP) nexts ≡ true → ByPatterns → ByVerdicts → StayTogetherOverSpaces lead nexts
over-spaces lead nexts lead_bits held are kept by_patterns by_verdicts tailoring before spaces after last next is_last all is_next =
    run-stays lead SP lead_bits space_bits held spaces-hold tailoring by_patterns by_verdicts may_fit_spaced nexts kept before spaces after last next
    (λ c cs row is. may-be-spaced by_patterns tailoring c next cs after
    (λ ends.
    let none = not-after-zero-width tailoring lead are (reverse spaces) last (reverse before)
    (reversed lead SP lead_bits space_bits held spaces-hold tailoring spaces all) is_last in
    let no : true ≡ false = sym ends ∙ ap (ends_in_zero_width tailoring) (sym is) ∙ none in cc)
    row)
    is_last all is_next

opening-tests : each_pair (after_by may_fit_spaced (run_of opening_bits space_bits)) (OP or SP) (no (CM or ZWJ)) ≡ true
unfolding around_by same_items keeps may_end may_begin all_below flags flow is_full no_flags once right_fits numbered_above numbered_below numbered_rules
opening-tests = refl

closing-tests : each_pair (after_by may_fit_spaced (run_of closing_bits space_bits)) ((CL or CP) or SP) NS ≡ true
unfolding around_by same_items keeps may_end may_begin all_below flags flow is_full no_flags once right_fits numbered_above numbered_below numbered_rules
closing-tests = refl

dash-tests : each_pair (after_by may_fit_spaced (run_of dash_bits space_bits)) (B2 or SP) B2 ≡ true
unfolding around_by same_items keeps may_end may_begin all_below flags flow is_full no_flags once right_fits numbered_above numbered_below numbered_rules
dash-tests = refl

pub openings-over-spaces : ByPatterns → ByVerdicts → StayTogetherOverSpaces OP (no (CM or ZWJ))
openings-over-spaces = over-spaces OP (no (CM or ZWJ)) opening_bits openings-hold openings-are-others opening-tests

pub closings-over-spaces : ByPatterns → ByVerdicts → StayTogetherOverSpaces (CL or CP) NS
closings-over-spaces = over-spaces (CL or CP) NS closing_bits closings-hold closings-are-others closing-tests

pub dashes-over-spaces : ByPatterns → ByVerdicts → StayTogetherOverSpaces B2 B2
dashes-over-spaces = over-spaces B2 B2 dash_bits dashes-hold dashes-are-others dash-tests
