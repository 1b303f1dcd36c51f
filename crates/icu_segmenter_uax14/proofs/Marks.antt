-- Marks change nothing: where marks follow a character, lines break as they do after the character alone.
use Rattle.std.proofs.Common.{Some, ◌≡◌, ℕ, Bool, true, false, not, ◌&&◌, ◌||◌, List, [], ◌∷◌, ◌++◌, map, reverse, refl, sym, ap, ap₂, ◌∙◌, inl, inr, append_assoc, subst}
use Rattle.std.specs.Prelude.{◌↔◌, if◌then◌else◌}
use Rattle.std.specs.List.{All}
use Rattle.std.proofs.lemmas.Bool.{and_from, and_parts, cond-true, false_from_ne_true, not-true, or_cases, or_left, or_right}
use Rattle.std.proofs.lemmas.List.{reverse-append}
use Rattle.std.proofs.lemmas.List.Elements.{All-append, All-cons, All-head, All-nil, All-tail}
use Rattle.ucd_table.proofs.TrieCheck.{all_below, all_below-at}
use Rattle.seg_rules.specs.Patterns.{flags}
use Rattle.seg_rules.specs.Plain.{bases_after, bases_before, first_row, is_base, is_marked, left_fits, plain_verdict, right_fits, row_fits}
use Rattle.seg_rules.specs.RowRules.{Row, RowRules, flow, has, is_full, no_flags, once}
use Rattle.icu_segmenter_uax29.proofs.Tests.{implied, implies}
use Rattle.seg_rules.specs.Classes.{◌or◌, no}
use Rattle.icu_segmenter_uax14.specs.LineClasses.{BK, CM, CR, LF, NL, SP, ZW, ZWJ}
use Rattle.icu_segmenter_uax14.specs.LineValues.{properties_of}
use Rattle.icu_segmenter_uax14.specs.Neighbours.{BreaksWith, Is}
use Rattle.icu_segmenter_uax14.specs.Tailored.{Tailoring}
use Rattle.icu_segmenter_uax14.proofs.LineTables.{numbered_above, numbered_below, numbered_rules, rules-are}
use Rattle.icu_segmenter_uax14.proofs.Neighbours.{ByVerdicts, in-class, symbol, turned-last, verdict-is, verdict_between}
use Rattle.icu_segmenter_uax14.proofs.RowTests.{ByPatterns, may_end, fits-may, sure-fits}
use Rattle.icu_segmenter_uax14.proofs.Sequences.{each_pair, pair-at}
use Rattle.icu_segmenter_uax14.proofs.Tailorings.{symbols-have-properties}

-- ---- rows whose left side reads two symbols alike

abbrev left_side : Row → Row
left_side row = record { left = row.left; right = []; verdict = 0 }

-- the left side can't end in a symbol, or it fits that symbol alone
abbrev decides : Row → ℕ → Bool → Bool
decides row x fits = if fits then row_fits (left_side row) (x ∷ []) (0 ∷ []) else not (may_end true row.left x)

abbrev alike : ℕ → ℕ → Row → Bool
alike x m row = (decides row x true && decides row m true) || (decides row x false && decides row m false)

unfoldable all_alike : ℕ → ℕ → List Row → Bool
all_alike x m [] = true
all_alike x m (row ∷ rows) = alike x m row && all_alike x m rows

nothing-fits : right_fits [] [] (0 ∷ []) ≡ true
unfolding right_fits flags flow no_flags is_full
nothing-fits = refl

module _ (by : ByPatterns) where
  fits-surely : (row : Row) (x : ℕ) (past after : List ℕ) → decides row x true ≡ true → left_fits row.left (x ∷ past) ≡ true
  fits-surely row x past after is = (and_parts (left_fits row.left (x ∷ past)) _ (sure-fits by (left_side row) (x ∷ []) (0 ∷ []) past [] is)).0

  -- a left side that fits may end in the nearest symbol
  fits-not : (row : Row) (x : ℕ) (past : List ℕ) → decides row x false ≡ true → left_fits row.left (x ∷ past) ≡ false
  fits-not row x past is =
      false_from_ne_true _ (λ fits.
      let may = and_parts (may_end true row.left x) _
      (fits-may by (left_side row) x 0 past [] (and_from (left_fits row.left (x ∷ past)) (right_fits [] [] (0 ∷ [])) fits nothing-fits)) in
      let no : true ≡ false = sym may.0 ∙ not-true (may_end true row.left x) is in cc)

  same-left : (row : Row) (x m : ℕ) (past past2 : List ℕ) → alike x m row ≡ true → left_fits row.left (x ∷ past) ≡ left_fits row.left (m ∷ past2)
  same-left row x m past past2 is = elim (or_cases (decides row x true && decides row m true) _ is) [
    | inl both ↦
        let parts = and_parts (decides row x true) _ both in
        fits-surely row x past [] parts.0 ∙ sym (fits-surely row m past2 [] parts.1)
    | inr none ↦
        let parts = and_parts (decides row x false) _ none in
        fits-not row x past parts.0 ∙ sym (fits-not row m past2 parts.1)
  ]

  same-first : (rows : List Row) (x m : ℕ) (past past2 after : List ℕ) (v w : ℕ) → all_alike x m rows ≡ true → v ≡ w
      → first_row rows (x ∷ past) after v ≡ first_row rows (m ∷ past2) after w
  unfolding all_alike first_row
  same-first [] x m past past2 after v w are is = is
  same-first (row ∷ rows) x m past past2 after v w are is =
      let parts = and_parts (alike x m row) _ are in
      ap₂ (λ (fits : Bool) (further : ℕ). if fits && right_fits row.right [] after then row.verdict else further)
      (same-left row x m past past2 parts.0) (same-first rows x m past past2 after v w parts.1 is)

-- ---- marks after a character

abbrev is_mark : ℕ → Bool
is_mark s = has numbered_rules.marks s

-- marks are marks; what may have them is no mark and isn't bare; and the rows above read it and a mark alike
abbrev mark_tests : ℕ → ℕ → Bool
mark_tests x m = (is_mark m && not (has numbered_rules.bare x)) && (not (is_mark x) && all_alike x m numbered_rules.above)

mark-tests : each_pair mark_tests (no (BK or CR or LF or NL or SP or ZW or CM or ZWJ)) CM ≡ true
unfolding all_below all_alike may_end flags flow is_full no_flags once right_fits numbered_above numbered_below numbered_rules
mark-tests = refl

inner-marks : all_below (λ s. implies ((CM or ZWJ) (Some (properties_of s))) (is_mark s)) 73 ≡ true
unfolding all_below numbered_rules
inner-marks = refl

module _ (tailoring : Tailoring) where
  abbrev f : ℕ → ℕ
  f = symbol tailoring

  abbrev IsMark : ℕ → Type 0
  IsMark c = Is tailoring (CM or ZWJ) c

  mark-is : (c : ℕ) → IsMark c → is_mark (f c) ≡ true
  mark-is c is =
      implied ((CM or ZWJ) (Some (properties_of (f c)))) _
      (all_below-at (λ s. implies ((CM or ZWJ) (Some (properties_of s))) (is_mark s)) 73 (f c) inner-marks (symbols-have-properties tailoring c).below)
      (in-class tailoring (CM or ZWJ) c is)

  reversed : (cs : List ℕ) → All IsMark cs → All IsMark (reverse cs)
  reversed [] all = all
  reversed (c ∷ cs) all =
      subst (All IsMark) (sym (reverse-append (c ∷ []) cs))
      (All-append IsMark (reverse cs) (c ∷ []) (reversed cs (All-tail IsMark c cs all)) (All-cons IsMark c [] (All-head IsMark c cs all) (All-nil IsMark)))

  base-after : (marks : List ℕ) (last : ℕ) (past : List ℕ) → All IsMark marks → not (has numbered_rules.bare (f last)) ≡ true
      → is_base numbered_rules (map f (marks ++ (last ∷ past))) ≡ true
  unfolding is_base numbered_rules
  base-after [] last past all plain = or_right _ _ plain
  base-after (m ∷ marks) last past all plain =
      or_left _ _ (and_from _ _ (mark-is m (All-head IsMark m marks all)) (base-after marks last past (All-tail IsMark m marks all) plain))

  same-bases : (marks : List ℕ) (last : ℕ) (past : List ℕ) → All IsMark marks → not (has numbered_rules.bare (f last)) ≡ true
      → bases_before numbered_rules (map f (marks ++ (last ∷ past))) ≡ bases_before numbered_rules (map f (last ∷ past))
  unfolding bases_before
  same-bases [] last past all plain = refl
  same-bases (m ∷ marks) last past all plain =
      let more = All-tail IsMark m marks all in
      cond-true _ _ _ (and_from _ _ (mark-is m (All-head IsMark m marks all)) (base-after marks last past more plain))
      ∙ same-bases marks last past more plain

  module _ (by : ByPatterns) where
    same-verdict : (mark : ℕ) (marks : List ℕ) (last : ℕ) (past after : List ℕ) → Is tailoring CM mark → All IsMark marks
        → Is tailoring (no (BK or CR or LF or NL or SP or ZW or CM or ZWJ)) last
        → plain_verdict numbered_rules (map f (mark ∷ (marks ++ (last ∷ past)))) (map f after) ≡ plain_verdict numbered_rules (map f (last ∷ past)) (map f after)
    unfolding plain_verdict
    same-verdict mark marks last past [] is_mark_too all is_last = refl
    same-verdict mark marks last past (d ∷ ds) is_mark_too all is_last =
        let tested = pair-at mark_tests (no (BK or CR or LF or NL or SP or ZW or CM or ZWJ)) CM mark-tests tailoring last mark is_last is_mark_too in
        let parts = and_parts (is_mark (f mark) && not (has numbered_rules.bare (f last))) _ tested in
        let plain = (and_parts (is_mark (f mark)) _ parts.0).1 in
        let whole = All-cons IsMark mark marks (or_left _ _ is_mark_too) all in
        let bases = same-bases (mark ∷ marks) last past whole plain in
        let base = base-after (mark ∷ marks) last past whole plain ∙ sym (base-after [] last past (All-nil IsMark) plain) in
        sym (same-first by numbered_rules.above (f last) (f mark) (map f past ++ (0 ∷ [])) (map f (marks ++ (last ∷ past)) ++ (0 ∷ [])) (map f (d ∷ ds) ++ (0 ∷ []))
        _ _ (and_parts (not (is_mark (f last))) _ parts.1).1
        (sym (ap₂ (λ (b : Bool) (xs : List ℕ).
        if numbered_rules.has_marks && is_marked numbered_rules b (map f (d ∷ ds)) then 0 else first_row numbered_rules.below xs (bases_after numbered_rules b (map f (d ∷ ds))) 0)
        base bases)))

    module _ (by_verdicts : ByVerdicts) where
      -- Law: so lines break after the marks as after the character
      pub marks-nothing : (before marks after : List ℕ) (last mark status : ℕ)
          → Is tailoring (no (BK or CR or LF or NL or SP or ZW or CM or ZWJ)) last → All IsMark marks → Is tailoring CM mark
          → BreaksWith tailoring status ((before ++ (last ∷ marks)) ++ (mark ∷ [])) after ↔ BreaksWith tailoring status (before ++ (last ∷ [])) after
      marks-nothing before marks after last mark status is_last all is_mark_too =
          let turned : reverse (before ++ (last ∷ marks)) ≡ reverse marks ++ (last ∷ reverse before) =
          reverse-append before (last ∷ marks) ∙ ap (λ l. l ++ reverse before) (reverse-append (last ∷ []) marks)
          ∙ append_assoc (reverse marks) (last ∷ []) (reverse before) in
          let same : verdict_between tailoring ((before ++ (last ∷ marks)) ++ (mark ∷ [])) after ≡ verdict_between tailoring (before ++ (last ∷ [])) after =
          ap₂ (λ (rules : RowRules) (past : List ℕ). plain_verdict rules past (map f after)) rules-are
          (turned-last f (before ++ (last ∷ marks)) mark ∙ ap (λ l. map f (mark ∷ l)) turned)
          ∙ same-verdict mark (reverse marks) last (reverse before) after is_mark_too (reversed marks all) is_last
          ∙ sym (ap₂ (λ (rules : RowRules) (past : List ℕ). plain_verdict rules past (map f after)) rules-are (turned-last f before last)) in
          let with_marks = verdict-is by by_verdicts tailoring (before ++ (last ∷ marks)) after mark status in
          let alone = verdict-is by by_verdicts tailoring before after last status in
          (λ breaks. alone.1 (sym same ∙ with_marks.0 breaks), λ breaks. with_marks.1 (same ∙ alone.0 breaks))
