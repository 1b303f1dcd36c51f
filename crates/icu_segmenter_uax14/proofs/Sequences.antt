-- Where more than two characters say that lines don't break: after spaces, and within numbers.
use Rattle.std.proofs.Common.{Some, ◌≡◌, ℕ, ◌<◌, Bool, true, not, ◌&&◌, ◌==◌, List, [], ◌∷◌, ◌++◌, drop, get_or, length, map, reverse, refl, sym, ap, ap₂, ◌∙◌, arith, append_assoc, subst}
use Rattle.std.proofs.lemmas.Bool.{and_from, and_parts, false_from_ne_true, not_from_false, or_left, or_right}
use Rattle.std.proofs.lemmas.List.{reverse-append}
use Rattle.ucd_table.proofs.TrieCheck.{all_below, all_below-at}
use Rattle.seg_rules.specs.declared.rules.Count.TheVariants.{One, Star}
use Rattle.seg_rules.specs.Patterns.{Each, EndsIn, flags}
use Rattle.seg_rules.specs.Plain.{plain_verdict, right_fits, row_fits}
use Rattle.seg_rules.specs.RowRules.{Pattern, Row, flow, has, is_full, no_flags, once}
use Rattle.icu_segmenter_uax29.proofs.Tests.{implied, implies}
use Rattle.icu_segmenter_uax14.specs.Characters.{character}
use Rattle.seg_rules.specs.Classes.{◌or◌, no}
use Rattle.icu_segmenter_uax14.specs.LineClasses.{LineClass, BK, CL, CP, CR, EX, LF, NL, SP, SY, ZW}
use Rattle.icu_segmenter_uax14.specs.LineRules.{line_rules}
use Rattle.icu_segmenter_uax14.specs.LineValues.{properties_of}
use Rattle.icu_segmenter_uax14.specs.Neighbours.{EndsInZeroWidth, Is, IsJoined, ends_in_zero_width}
use Rattle.icu_segmenter_uax14.specs.Tailored.{Tailoring, style_of}
use Rattle.icu_segmenter_uax14.proofs.LineTables.{numbered_above, numbered_below, numbered_rules, rules-are}
use Rattle.icu_segmenter_uax14.proofs.Neighbours.{ByVerdicts, in-class, joined-at, symbol, turned-map, verdict_between}
use Rattle.icu_segmenter_uax14.proofs.PlaceTests.{place-kept, place_keeps}
use Rattle.icu_segmenter_uax14.proofs.RowTests.{ByPatterns, fits-may, keeps, may_begin, may_end, may_fit, same-items, same_items}
use Rattle.icu_segmenter_uax14.proofs.Tailorings.{symbols-have-properties}

-- for every pair of symbols of two classes, a test holds
abbrev pub each_pair : (ℕ → ℕ → Bool) → LineClass → LineClass → Bool
each_pair test lasts nexts =
    all_below (λ x. implies (lasts (Some (properties_of x))) (all_below (λ y. implies (nexts (Some (properties_of y))) (test x y)) 73)) 73

pub pair-at : (test : ℕ → ℕ → Bool) (lasts nexts : LineClass) → each_pair test lasts nexts ≡ true
    → (tailoring : Tailoring) (c d : ℕ) → Is tailoring lasts c → Is tailoring nexts d → test (symbol tailoring c) (symbol tailoring d) ≡ true
pair-at test lasts nexts all tailoring c d is_last is_next =
    let x = symbol tailoring c in
    let y = symbol tailoring d in
    let from_x = implied (lasts (Some (properties_of x))) _
    (all_below-at (λ x. implies (lasts (Some (properties_of x))) (all_below (λ y. implies (nexts (Some (properties_of y))) (test x y)) 73)) 73 x all (symbols-have-properties tailoring c).below)
    (in-class tailoring lasts c is_last) in
    implied (nexts (Some (properties_of y))) _
    (all_below-at (λ y. implies (nexts (Some (properties_of y))) (test x y)) 73 y from_x (symbols-have-properties tailoring d).below)
    (in-class tailoring nexts d is_next)

-- the verdict between two parts of a text, by the numbered rules
pub numbered-verdict : (tailoring : Tailoring) (before after : List ℕ) (c : ℕ) (cs : List ℕ) → reverse before ≡ c ∷ cs
    → (plain_verdict numbered_rules (map (symbol tailoring) (c ∷ cs)) (map (symbol tailoring) after) == 0) ≡ true
    → (verdict_between tailoring before after == 0) ≡ true
numbered-verdict tailoring before after c cs turned none =
    let f = symbol tailoring in
    ap (λ past. plain_verdict line_rules past (map f after) == 0) (turned-map f before ∙ ap (map f) turned)
    ∙ ap (λ rules. plain_verdict rules (map f (c ∷ cs)) (map f after) == 0) rules-are
    ∙ none

pub some-list : (before : List ℕ) (c : ℕ) (cs : List ℕ) → reverse before ≡ c ∷ cs → 0 < length before
some-list [] c cs turned = let clash : length (c ∷ cs) ≡ 0 = ap length (sym turned) in absurd (omega (arith, clash))
some-list (b ∷ before) c cs turned = omega arith

-- ---- after spaces

abbrev pub zero_width : Pattern
zero_width = (2361183241434822606848, One) ∷ (73786976294838206464, Star) ∷ []

abbrev pub may_fit_spaced : ℕ → ℕ → Row → Bool
may_fit_spaced x y row = may_fit x y row && not (same_items row.left zero_width)

abbrev pub spaced_keeps : ℕ → ℕ → Bool
spaced_keeps x y = place_keeps numbered_rules (may_fit_spaced x y) (λ v. v == 0) x y

are-zero-width : all_below (λ s. implies (has 2361183241434822606848 s) (ZW (Some (properties_of s))) && implies (has 73786976294838206464 s) (SP (Some (properties_of s)))) 73 ≡ true
unfolding all_below
are-zero-width = refl

is-zero-width : (tailoring : Tailoring) (c : ℕ) → has 2361183241434822606848 (symbol tailoring c) ≡ true → Is tailoring ZW c
is-zero-width tailoring c has_it =
    let s = symbol tailoring c in
    let stands = symbols-have-properties tailoring c in
    let both = all_below-at (λ s. implies (has 2361183241434822606848 s) (ZW (Some (properties_of s))) && implies (has 73786976294838206464 s) (SP (Some (properties_of s)))) 73 s are-zero-width stands.below in
    ap (λ p. ZW (Some p)) stands.value ∙ implied (has 2361183241434822606848 s) _ (and_parts (implies (has 2361183241434822606848 s) (ZW (Some (properties_of s)))) _ both).0 has_it

is-space : (tailoring : Tailoring) (c : ℕ) → has 73786976294838206464 (symbol tailoring c) ≡ true → Is tailoring SP c
is-space tailoring c has_it =
    let s = symbol tailoring c in
    let stands = symbols-have-properties tailoring c in
    let both = all_below-at (λ s. implies (has 2361183241434822606848 s) (ZW (Some (properties_of s))) && implies (has 73786976294838206464 s) (SP (Some (properties_of s)))) 73 s are-zero-width stands.below in
    ap (λ p. SP (Some p)) stands.value ∙ implied (has 73786976294838206464 s) _ (and_parts (implies (has 2361183241434822606848 s) (ZW (Some (properties_of s)))) _ both).1 has_it

first-is : (x y : ℕ) (xs ys : List ℕ) → x ∷ xs ≡ y ∷ ys → y ≡ x
first-is x y xs ys is = ap (λ all. get_or all 0 0) (sym is)

ends-there : (tailoring : Tailoring) (cs spaces : List ℕ) (z : ℕ) (past : List ℕ) → Each 73786976294838206464 spaces → has 2361183241434822606848 z ≡ true
    → map (symbol tailoring) cs ++ (0 ∷ []) ≡ spaces ++ (z ∷ past) → ends_in_zero_width tailoring cs ≡ true
ends-there tailoring [] [] z past each has_z is =
    let no : has 2361183241434822606848 0 ≡ true = subst (λ s. has 2361183241434822606848 s ≡ true) (first-is 0 z [] past is) has_z in cc
ends-there tailoring [] (s ∷ spaces) z past (has_s, each) has_z is =
    let no : has 73786976294838206464 0 ≡ true = subst (λ s. has 73786976294838206464 s ≡ true) (first-is 0 s [] (spaces ++ (z ∷ past)) is) has_s in cc
ends-there tailoring (c ∷ cs) [] z past each has_z is =
    or_left _ _ (is-zero-width tailoring c (subst (λ s. has 2361183241434822606848 s ≡ true) (first-is (symbol tailoring c) z (map (symbol tailoring) cs ++ (0 ∷ [])) past is) has_z))
ends-there tailoring (c ∷ cs) (s ∷ spaces) z past (has_s, each) has_z is =
    let space = is-space tailoring c (subst (λ s. has 73786976294838206464 s ≡ true) (first-is (symbol tailoring c) s (map (symbol tailoring) cs ++ (0 ∷ [])) (spaces ++ (z ∷ past)) is) has_s) in
    or_right (ZW (Some (style_of tailoring (character c)))) _ (and_from _ _ space (ends-there tailoring cs spaces z past each has_z (ap (drop 1) is)))

zero-width-ends : (tailoring : Tailoring) (cs : List ℕ) → EndsIn zero_width (map (symbol tailoring) cs ++ (0 ∷ [])) → ends_in_zero_width tailoring cs ≡ true
zero-width-ends tailoring cs (own, past, (is, (later, mine, (split, ((z, (alone, has_z)), (nothing, spaces, (all_spaces, (each, none)))))))) =
    let later_is : later ≡ spaces = all_spaces ∙ ap (λ l. l ++ spaces) none in
    let own_is : own ≡ spaces ++ (z ∷ []) = split ∙ ap₂ (λ (l o : List ℕ). l ++ o) later_is alone in
    ends-there tailoring cs spaces z past each has_z (is ∙ ap (λ o. o ++ past) own_is ∙ append_assoc spaces (z ∷ []) past)

module _ (by_patterns : ByPatterns) where
  pub may-be-spaced : (tailoring : Tailoring) (c d : ℕ) (cs ds : List ℕ) → (ends_in_zero_width tailoring (c ∷ cs) ≡ true → ⊥) → (row : Row)
      → row_fits row (map (symbol tailoring) (c ∷ cs) ++ (0 ∷ [])) (map (symbol tailoring) (d ∷ ds) ++ (0 ∷ [])) ≡ true
      → may_fit_spaced (symbol tailoring c) (symbol tailoring d) row ≡ true
  may-be-spaced tailoring c d cs ds no_zero_width row fits =
      let f = symbol tailoring in
      and_from (may_fit (f c) (f d) row) _ (fits-may by_patterns row (f c) (f d) (map f cs ++ (0 ∷ [])) (map f ds ++ (0 ∷ [])) fits)
      (not_from_false (same_items row.left zero_width) (false_from_ne_true _ (λ same.
      no_zero_width (zero-width-ends tailoring (c ∷ cs)
      (subst (λ p. EndsIn p (map f (c ∷ cs) ++ (0 ∷ []))) (same-items row.left zero_width same)
      ((by_patterns row (map f (c ∷ cs) ++ (0 ∷ [])) (map f (d ∷ ds) ++ (0 ∷ []))).0 fits).0)))))

  module _ (by_verdicts : ByVerdicts) where
    pub stay-spaced : (lasts nexts : LineClass) → each_pair spaced_keeps lasts nexts ≡ true
        → (tailoring : Tailoring) (before after : List ℕ) (last next : ℕ) → Is tailoring lasts last → Is tailoring nexts next
        → (EndsInZeroWidth tailoring (before ++ (last ∷ [])) → ⊥) → IsJoined tailoring (before ++ (last ∷ [])) (next ∷ after)
    unfolding numbered_rules
    stay-spaced lasts nexts kept tailoring before after last next is_last is_next no_zero_width =
        let f = symbol tailoring in
        let turned = reverse-append before (last ∷ []) in
        joined-at by_patterns by_verdicts tailoring (before ++ (last ∷ [])) (next ∷ after) (some-list (before ++ (last ∷ [])) last (reverse before) turned)
        (numbered-verdict tailoring (before ++ (last ∷ [])) (next ∷ after) last (reverse before) turned
        (place-kept numbered_rules by_patterns refl (omega arith) refl f (λ c. (symbols-have-properties tailoring c).below) (λ v. v == 0)
        (may_fit_spaced (f last) (f next)) last next (reverse before) after
        (may-be-spaced tailoring last next (reverse before) after (λ ends. no_zero_width (ap (ends_in_zero_width tailoring) turned ∙ ends)))
        (pair-at spaced_keeps lasts nexts kept tailoring last next is_last is_next)))

closing-tests : each_pair spaced_keeps (no (BK or CR or LF or NL)) (CL or CP or EX or SY) ≡ true
unfolding place_keeps same_items keeps may_end may_begin all_below flags flow is_full no_flags once right_fits numbered_above numbered_below numbered_rules
closing-tests = refl

pub closings-stay : ByPatterns → ByVerdicts → (tailoring : Tailoring) (before after : List ℕ) (last next : ℕ) → Is tailoring (no (BK or CR or LF or NL)) last
    → Is tailoring (CL or CP or EX or SY) next → (EndsInZeroWidth tailoring (before ++ (last ∷ [])) → ⊥) → IsJoined tailoring (before ++ (last ∷ [])) (next ∷ after)
closings-stay by_patterns by_verdicts = stay-spaced by_patterns by_verdicts (no (BK or CR or LF or NL)) (CL or CP or EX or SY) closing-tests
