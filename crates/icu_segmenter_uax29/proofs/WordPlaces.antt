-- The rows of words are the rules of the kit, WB3 to WB999.
use Rattle.std.proofs.Common.{◌≡◌, ℕ, ◌<◌, Bool, true, false, cond, not, ◌&&◌, ◌||◌, ◌==◌, Option, List, [], ◌∷◌, take, unwrap_or, refl, sym, ap, ap₂, subst, ◌∙◌, inl, inr, eqb-true, arith}
use Rattle.std.proofs.lemmas.Bool.{and_parts}
use Rattle.ucd_table.proofs.TrieCheck.{all_below, all_below-at}
use Rattle.ucd_breaks.specs.WordBreak.{word_break}
use Rattle.ucd_breaks.specs.declared.WordBreak.{WordBreak}
use Rattle.ucd_breaks.specs.declared.WordBreak.TheVariants.{Other}
use Rattle.unicode_segmentation.specs.Word.{break_by_pair, is_ah_letter, is_double_quote, is_extend_num_let, is_hebrew_letter, is_ignored, is_katakana, is_mid_letter, is_mid_num, is_numeric, is_regional, is_single_quote, is_word_break, joins, joins_flag, significant, starts_with_half_flag, value_at}
use Rattle.unicode_segmentation.proofs.BoolLemmas.{and-false, not_swap, same, same-true}
use Rattle.unicode_segmentation.proofs.WordLemmas.{significant-ignored, significant-kept}
use Rattle.seg_rules.specs.declared.rules.Count.TheVariants.{One, Pairs}
use Rattle.seg_rules.specs.Plain.{bases_after, bases_before}
use Rattle.seg_rules.specs.RowRules.{Pattern, Row, has}
use Rattle.seg_rules.proofs.Adequacy.{Begins, after_item, after_one, after_pairs, reached}
use Rattle.seg_machine.specs.Machine.{symbols_of}
use Rattle.icu_segmenter_uax29.specs.WordRules.{word_rules}
use Rattle.icu_segmenter_uax29.specs.WordValues.{is_pictograph_of, word_break_of}
use Rattle.icu_segmenter_uax29.specs.Words.{word_machine}
use Rattle.icu_segmenter_uax29.proofs.Bases.{all_agree, EndsBare, bases-are, joins_below, rows-are as rows-by-pairs}
use Rattle.icu_segmenter_uax29.proofs.Boundaries.{EndsAre, HasEnds}
use Rattle.icu_segmenter_uax29.proofs.Lists.{bool-cases, every}
use Rattle.icu_segmenter_uax29.proofs.RowPlaces.{RowsAre, ends-follow}
use Rattle.icu_segmenter_uax29.proofs.RuleLaws.{word-follows}
use Rattle.icu_segmenter_uax29.proofs.Sides.{Flags, anywhere, flags-on, for-text, for_flags, for_text, joined, left_by, next_in, right_by}
use Rattle.icu_segmenter_uax29.proofs.Tests.{implied, implies, not-true}
use Rattle.icu_segmenter_uax29.proofs.WordCertificate.{numbered_above, numbered_below, numbered_rules, rules-are}
use Rattle.icu_segmenter_uax29.proofs.WordSymbols.{symbol, symbol-says}

-- The classes are numbers, as in the certificate: 224 the marks, 28 what is bare, 256 RI, 4194046 no RI, 1 the start of the text.

-- ---- the classes of the rows below that of marks, and the kit's tests of values

abbrev Test : Type 0
Test = WordBreak → Bool

abbrev tests : List (ℕ × Test)
tests =
    (2100224, is_ah_letter)
    ∷ (53248, is_mid_letter)
    ∷ (1024, is_hebrew_letter)
    ∷ (4096, is_single_quote)
    ∷ (8192, is_double_quote)
    ∷ (131072, is_numeric)
    ∷ (86016, is_mid_num)
    ∷ (512, is_katakana)
    ∷ (2493952, λ v. is_ah_letter v || is_numeric v || is_katakana v || is_extend_num_let v)
    ∷ (262144, is_extend_num_let)
    ∷ (2231808, λ v. is_ah_letter v || is_numeric v || is_katakana v)
    ∷ (256, is_regional)
    ∷ []

unfoldable listed : List (ℕ × Test) → ℕ → Bool
listed [] class = false
listed ((number, test) ∷ tests) class = number == class || listed tests class

unfoldable test_in : List (ℕ × Test) → ℕ → Test
test_in [] class = λ v. false
test_in ((number, test) ∷ tests) class = cond (number == class) test (test_in tests class)

abbrev is_listed : ℕ → Bool
is_listed = listed tests

abbrev test_of : ℕ → Test
test_of = test_in tests

-- A symbol that is no mark is in the class where its value passes the test. What is bare, or named by no row, doesn't pass.
abbrev is_test : ℕ → Test → ℕ → Bool
is_test class test s =
    implies (not (has 224 s)) (same (has class s) (test (word_break_of s))) && implies (has 28 s || s == 1) (not (test (word_break_of s)))

all_tests : every (λ test. all_below (is_test test.0 test.1) 22) tests ≡ true
unfolding all_below
all_tests = refl

test-in : (tests : List (ℕ × Test)) (class : ℕ) → every (λ test. all_below (is_test test.0 test.1) 22) tests ≡ true → listed tests class ≡ true
    → all_below (is_test class (test_in tests class)) 22 ≡ true
unfolding listed test_in
test-in [] class all is = cc
test-in ((number, test) ∷ tests) class all is =
    let parts = and_parts (all_below (is_test number test) 22) _ all in
    elim (bool-cases (number == class)) [
      | inl here ↦
          subst (λ b. all_below (is_test class (cond b test (test_in tests class))) 22 ≡ true) (sym here)
          (subst (λ class. all_below (is_test class test) 22 ≡ true) (eqb-true number class here) parts.0)
      | inr other ↦
          subst (λ b. all_below (is_test class (cond b test (test_in tests class))) 22 ≡ true) (sym other)
          (test-in tests class parts.1 (ap (λ b. b || listed tests class) (sym other) ∙ is))
    ]

record Tests (class : ℕ) (test : Test) : Type 0 where
  reads : (s : ℕ) → s < 22 → has 224 s ≡ false → has class s ≡ test (word_break_of s)
  bare : (s : ℕ) → s < 22 → has 28 s ≡ true → test (word_break_of s) ≡ false
  other : test Other ≡ false

tests-are : (class : ℕ) → is_listed class ≡ true → Tests class (test_of class)
tests-are class is =
    let at = λ (s : ℕ) (below : s < 22). and_parts _ _ (all_below-at (is_test class (test_of class)) 22 s (test-in tests class all_tests is) below) in
    record {
      reads = λ s below plain. same-true _ _ (implied (not (has 224 s)) _ (at s below).0 (ap not plain));
      bare = λ s below is. not-true _ (implied (has 28 s || s == 1) _ (at s below).1 (ap (λ b. b || s == 1) is));
      other = not-true _ (implied true _ (at 1 (omega arith)).1 refl);
    }

-- ---- marks, and the rules on pairs

abbrev pair : ℕ → ℕ → Option Bool
pair s t = break_by_pair (word_break_of s) (word_break_of t) (is_pictograph_of t)

abbrev reads : ℕ → Bool
reads s =
    same (has 224 s) (is_ignored (word_break_of s)) && (same (has 28 s && has 224 s) false
    && (same (has 4194046 s) (not (has 256 s)) && (same (has 1 s) false && same (has 256 s) (is_regional (word_break_of s)))))

all_read : for_text 22 reads ≡ true
unfolding all_below
all_read = refl

record Reads (c : ℕ) : Type 0 where
  mark : has 224 (symbol c) ≡ is_ignored (word_break c)
  apart : (has 28 (symbol c) && has 224 (symbol c)) ≡ false
  other : has 4194046 (symbol c) ≡ not (has 256 (symbol c))
  edge : has 1 (symbol c) ≡ false
  regional : has 256 (symbol c) ≡ is_regional (word_break c)

reading : (c : ℕ) → Reads c
reading c =
    let says = symbol-says c in
    let one = and_parts _ _ (for-text 22 reads (symbol c) all_read says.some says.below) in
    let two = and_parts _ _ one.1 in
    let three = and_parts _ _ two.1 in
    let four = and_parts _ _ three.1 in
    record {
      mark = same-true _ _ one.0 ∙ ap is_ignored (sym says.value);
      apart = same-true _ _ two.0;
      other = same-true _ _ three.0;
      edge = same-true _ _ four.0;
      regional = same-true _ _ four.1 ∙ ap is_regional (sym says.value);
    }

marked : numbered_rules.has_marks ≡ true
unfolding numbered_rules
marked = refl

apart : (c : ℕ) → (has numbered_rules.bare (symbol c) && has numbered_rules.marks (symbol c)) ≡ false
unfolding numbered_rules
apart c = (reading c).apart

-- a mark is passed over, and another code point isn't
passed-over : (c : ℕ) (cs : List ℕ) → has 224 (symbol c) ≡ true → significant (c ∷ cs) ≡ significant cs
passed-over c cs is = significant-ignored c cs (sym (reading c).mark ∙ is)

kept-too : (c : ℕ) (cs : List ℕ) → has 224 (symbol c) ≡ false → significant (c ∷ cs) ≡ word_break c ∷ significant cs
kept-too c cs is = significant-kept c cs (sym (reading c).mark ∙ is)

bare-kept : (c : ℕ) (cs : List ℕ) → has 28 (symbol c) ≡ true → significant (c ∷ cs) ≡ word_break c ∷ significant cs
bare-kept c cs is = kept-too c cs (ap (λ b. b && has 224 (symbol c)) (sym is) ∙ (reading c).apart)

-- ---- the left sides

abbrev bases_of : List ℕ → List ℕ
bases_of cs = bases_before numbered_rules (symbols_of word_machine cs)

abbrev Bare : List ℕ → Type 0
Bare = EndsBare numbered_rules word_machine marked apart

abbrev first : List ℕ → WordBreak
first cs = value_at (significant cs) 0

abbrev second : List ℕ → WordBreak
second cs = value_at (significant cs) 1

-- one symbol, of a class with this test
module _ (class : ℕ) (test : Test) (are : Tests class test) where
  in-class : (c : ℕ) → has 224 (symbol c) ≡ false → has class (symbol c) ≡ test (word_break c)
  in-class c kept = are.reads (symbol c) (symbol-says c).below kept ∙ ap test (sym (symbol-says c).value)

  none-first : (cs : List ℕ) → Bare cs → test (first cs) ≡ false
  unfolding numbered_rules significant
  none-first [] bare = are.other
  none-first (c ∷ cs) bare =
      ap (λ values. test (value_at values 0)) (bare-kept c cs bare) ∙ ap test (symbol-says c).value ∙ are.bare (symbol c) (symbol-says c).below bare

  one-is : (cs : List ℕ) → after_one class anywhere (bases_of cs) ≡ test (first cs)
  unfolding numbered_rules after_one significant
  one-is =
      bases-are numbered_rules word_machine marked apart (λ bases cs. after_one class anywhere bases ≡ test (first cs))
      (are.reads 0 (omega arith) refl)
      (λ c bases cs mark base found. found ∙ sym (ap (λ values. test (value_at values 0)) (passed-over c cs mark)))
      (λ c bases cs mark bare found.
      are.reads 1 (omega arith) refl ∙ are.other
      ∙ sym (ap (λ values. test (value_at values 0)) (passed-over c cs mark) ∙ none-first cs bare))
      (λ c bases cs kept found. in-class c kept ∙ sym (ap (λ values. test (value_at values 0)) (kept-too c cs kept)))

  -- what comes after a place, after no mark
  next-is : (cs : List ℕ) → next_in class (bases_after numbered_rules true (symbols_of word_machine cs)) ≡ test (first cs)
  unfolding numbered_rules bases_after significant
  next-is [] = are.reads 0 (omega arith) refl
  next-is (c ∷ cs) =
      let rest = λ (mark : Bool). bases_after numbered_rules ((mark && true) || not (has 28 (symbol c))) (symbols_of word_machine cs) in
      elim (bool-cases (has 224 (symbol c))) [
        | inl mark ↦
            (λ i. next_in class (cond (mark i && true) (rest (mark i)) (cond (mark i) 1 (symbol c) ∷ rest (mark i))))
            ∙ next-is cs ∙ sym (ap (λ values. test (value_at values 0)) (passed-over c cs mark))
        | inr kept ↦
            (λ i. next_in class (cond (kept i && true) (rest (kept i)) (cond (kept i) 1 (symbol c) ∷ rest (kept i))))
            ∙ in-class c kept ∙ sym (ap (λ values. test (value_at values 0)) (kept-too c cs kept))
      ]

-- two symbols, of classes with these tests
two-is : (far class : ℕ) (far_test test : Test) → Tests far far_test → Tests class test → (cs : List ℕ)
    → after_one class (after_one far anywhere) (bases_of cs) ≡ (far_test (second cs) && test (first cs))
unfolding numbered_rules after_one significant
two-is far class far_test test are_far are cs =
    (bases-are numbered_rules word_machine marked apart
    (λ bases cs.
    (after_one far anywhere bases ≡ far_test (first cs)) × (after_one class (after_one far anywhere) bases ≡ (far_test (second cs) && test (first cs))))
    (are_far.reads 0 (omega arith) refl, sym (ap (λ b. far_test Other && b) are.other ∙ and-false (far_test Other)))
    (λ c bases cs mark base (found, both).
    let same = passed-over c cs mark in (
      found ∙ sym (ap (λ values. far_test (value_at values 0)) same),
      both ∙ sym (ap (λ values. far_test (value_at values 1) && test (value_at values 0)) same),
    ))
    (λ c bases cs mark bare (found, both).
    let same = passed-over c cs mark in (
      are_far.reads 1 (omega arith) refl ∙ are_far.other
          ∙ sym (ap (λ values. far_test (value_at values 0)) same ∙ none-first far far_test are_far cs bare),
      ap (λ b. after_one far anywhere bases && b) (are.reads 1 (omega arith) refl ∙ are.other) ∙ and-false (after_one far anywhere bases)
          ∙ sym (ap (λ values. far_test (value_at values 1) && test (value_at values 0)) same
          ∙ ap (λ b. far_test (second cs) && b) (none-first class test are cs bare) ∙ and-false (far_test (second cs))),
    ))
    (λ c bases cs kept (found, both).
    let same = kept-too c cs kept in (
      in-class far far_test are_far c kept ∙ sym (ap (λ values. far_test (value_at values 0)) same),
      ap₂ ◌&&◌ found (in-class class test are c kept)
          ∙ sym (ap (λ values. far_test (value_at values 1) && test (value_at values 0)) same),
    ))
    cs).1

-- an odd number of regional indicators
abbrev half : List ℕ → Bool
half cs = starts_with_half_flag (significant cs)

abbrev InFlags : List ℕ → Bool → Type 0
InFlags = Flags 1 4194046 256

none-half : (cs : List ℕ) → Bare cs → half cs ≡ false
unfolding numbered_rules significant starts_with_half_flag listed test_in
none-half [] bare = refl
none-half (c ∷ cs) bare =
    ap starts_with_half_flag (bare-kept c cs bare)
    ∙ ap (λ is. is && not (half cs)) (ap is_regional (symbol-says c).value ∙ (tests-are 256 refl).bare (symbol c) (symbol-says c).below bare)

flags-are : (cs : List ℕ) → InFlags (bases_of cs) (half cs)
unfolding numbered_rules after_one after_pairs significant starts_with_half_flag
flags-are =
    bases-are numbered_rules word_machine marked apart (λ bases cs. InFlags bases (half cs))
    (record { even = refl; odd = refl })
    (λ c bases cs mark base found. subst (λ values. InFlags bases (starts_with_half_flag values)) (sym (passed-over c cs mark)) found)
    (λ c bases cs mark bare found.
    subst (InFlags (1 ∷ bases)) (sym (ap starts_with_half_flag (passed-over c cs mark) ∙ none-half cs bare))
    (flags-on 1 4194046 256 1 bases (half cs) refl refl found))
    (λ c bases cs kept found.
    let its = reading c in
    subst (InFlags (symbol c ∷ bases)) (ap (λ is. is && not (half cs)) its.regional ∙ sym (ap starts_with_half_flag (kept-too c cs kept)))
    (flags-on 1 4194046 256 (symbol c) bases (half cs) its.edge its.other found))

pairs-last : (class : ℕ) (begins : Begins) (xs : List ℕ) → after_one class (λ ys. (after_pairs class begins ys).0) xs ≡ (after_pairs class begins xs).1
unfolding after_one after_pairs
pairs-last class begins [] = refl
pairs-last class begins (x ∷ xs) = refl

-- ---- the rows

-- where the rules on pairs say nothing, no end of a line comes
abbrev free : ℕ → ℕ → Bool
free s t = not (has 28 t)

pairs-agree : all_agree numbered_rules pair free 22 ≡ true
unfolding all_below for_flags joined numbered_above numbered_rules reached after_item after_one
pairs-agree = refl

-- what the sides say of values
abbrev left_side : (far left : WordBreak) → (ℕ → Bool) → Pattern → Bool
left_side far left flags [] = true
left_side far left flags ((class, One) ∷ []) = test_of class left
left_side far left flags ((class, One) ∷ ((last, One) ∷ [])) = test_of class far && test_of last left
left_side far left flags ((edge, One) ∷ ((class, Pairs) ∷ ((last, One) ∷ []))) = flags edge
left_side far left flags _ = false

abbrev right_side : (right far : WordBreak) → Pattern → Bool
right_side right far [] = true
right_side right far ((class, One) ∷ []) = test_of class right
right_side right far ((class, One) ∷ ((further, One) ∷ [])) = test_of class right && test_of further far
right_side right far _ = false

abbrev is_left : Pattern → Bool
is_left [] = true
is_left ((class, One) ∷ []) = is_listed class
is_left ((class, One) ∷ ((last, One) ∷ [])) = is_listed class && is_listed last
is_left ((edge, One) ∷ ((class, Pairs) ∷ ((last, One) ∷ []))) = class == 256 && last == 256
is_left _ = false

abbrev is_right : Pattern → Bool
is_right [] = true
is_right ((class, One) ∷ []) = is_listed class
is_right ((class, One) ∷ ((further, One) ∷ [])) = is_listed class && is_listed further
is_right _ = false

abbrev flags_in : List ℕ → ℕ → Bool
flags_in bases edge = (after_pairs 256 (after_one edge anywhere) bases).1

left-is : (cs : List ℕ) (pattern : Pattern) → is_left pattern ≡ true
    → left_by (bases_of cs) pattern ≡ left_side (second cs) (first cs) (flags_in (bases_of cs)) pattern
unfolding reached after_item
left-is cs [] is = refl
left-is cs ((class, One) ∷ []) is = one-is class (test_of class) (tests-are class is) cs
left-is cs ((class, One) ∷ ((last, One) ∷ [])) is =
    let parts = and_parts (is_listed class) (is_listed last) is in
    two-is class last (test_of class) (test_of last) (tests-are class parts.0) (tests-are last parts.1) cs
left-is cs ((edge, One) ∷ ((class, Pairs) ∷ ((last, One) ∷ []))) is =
    let parts = and_parts (class == 256) (last == 256) is in
    let pair = eqb-true class 256 parts.0 in
    let one = eqb-true last 256 parts.1 in
    (λ i. after_one (one i) (λ ys. (after_pairs (pair i) (after_one edge anywhere) ys).0) (bases_of cs))
    ∙ pairs-last 256 (after_one edge anywhere) (bases_of cs)
left-is cs _ is = cc

right-is : (d : ℕ) (after : List ℕ) (pattern : Pattern) → has 224 (symbol d) ≡ false → is_right pattern ≡ true
    → right_by (symbol d) (bases_after numbered_rules true (symbols_of word_machine after)) pattern ≡ right_side (word_break d) (first after) pattern
right-is d after [] plain is = refl
right-is d after ((class, One) ∷ []) plain is = in-class class (test_of class) (tests-are class is) d plain
right-is d after ((class, One) ∷ ((further, One) ∷ [])) plain is =
    let parts = and_parts (is_listed class) (is_listed further) is in
    ap₂ ◌&&◌ (in-class class (test_of class) (tests-are class parts.0) d plain) (next-is further (test_of further) (tests-are further parts.1) after)
right-is d after _ plain is = cc

joined-same : (rows : List Row) (left left' right right' : Pattern → Bool) (otherwise : Bool) → every (λ (row : Row). is_left row.left && is_right row.right) rows ≡ true
    → ((pattern : Pattern) → is_left pattern ≡ true → left pattern ≡ left' pattern)
    → ((pattern : Pattern) → is_right pattern ≡ true → right pattern ≡ right' pattern)
    → joined rows left right otherwise ≡ joined rows left' right' otherwise
unfolding joined
joined-same [] left left' right right' otherwise are lefts rights = refl
joined-same (row ∷ rows) left left' right right' otherwise are lefts rights =
    let parts = and_parts (is_left row.left && is_right row.right) _ are in
    let sides = and_parts (is_left row.left) _ parts.0 in
    let later = joined-same rows left left' right right' otherwise parts.1 lefts rights in
    λ i. cond (lefts row.left sides.0 i && rights row.right sides.1 i) (row.verdict == 0) (later i)

-- rows that join: one of them fits
unfoldable any_fits : List Row → (Row → Bool) → Bool → Bool
any_fits [] fits before = before
any_fits (row ∷ rows) fits before = any_fits rows fits (before || fits row)

or-else : (one other rest : Bool) → cond one true (cond other true rest) ≡ cond (one || other) true rest
or-else true other rest = refl
or-else false other rest = refl

any-joined : (rows : List Row) (left right : Pattern → Bool) (fits : Row → Bool) (before : Bool) → every (λ (row : Row). row.verdict == 0) rows ≡ true
    → ((row : Row) → (left row.left && right row.right) ≡ fits row)
    → cond before true (joined rows left right false) ≡ any_fits rows fits before
unfolding joined any_fits
any-joined [] left right fits true all are = refl
any-joined [] left right fits false all are = refl
any-joined (row ∷ rows) left right fits before all are =
    let parts = and_parts (row.verdict == 0) _ all in
    (λ i. cond before true (cond (are row i) (parts.0 i) (joined rows left right false)))
    ∙ or-else before (fits row) (joined rows left right false)
    ∙ any-joined rows left right fits (before || fits row) parts.1 are

-- a right side of values beside what fits, as the kit groups them
abbrev right_after : Bool → (right far : WordBreak) → Pattern → Bool
right_after fits right far ((class, One) ∷ ((further, One) ∷ [])) = fits && test_of class right && test_of further far
right_after fits right far pattern = fits && right_side right far pattern

grouped : (fits : Bool) (right far : WordBreak) (pattern : Pattern) → (fits && right_side right far pattern) ≡ right_after fits right far pattern
grouped true right far ((class, One) ∷ ((further, One) ∷ [])) = refl
grouped false right far ((class, One) ∷ ((further, One) ∷ [])) = refl
grouped fits right far _ = refl

either-half : (before one other is half : Bool) → (one || other) ≡ half → ((before || (one && is)) || (other && is)) ≡ (before || (half && is))
either-half true one other is half h = refl
either-half false true other true half h = ap (λ b. b && true) h
either-half false true other false half h = and-false other ∙ sym (and-false half)
either-half false false other is half h = ap (λ b. b && is) h

-- what the kit says where the rules on pairs say nothing
abbrev joins_after : (c d : ℕ) (before after : List ℕ) → Bool
joins_after c d before after =
    joins (second (c ∷ before)) (first (c ∷ before)) (word_break d) (first after) || joins_flag (c ∷ before) d

values-join : (far left right further : WordBreak) (flags : ℕ → Bool)
    → joined numbered_below (left_side far left flags) (right_side right further) true
    ≡ ((joins far left right further || (flags 1 && is_regional right)) || (flags 4194046 && is_regional right))
unfolding numbered_below joined any_fits test_in
values-join far left right further flags =
    any-joined (take 16 numbered_below) (left_side far left flags) (right_side right further)
    (λ row. right_after (left_side far left flags row.left) right further row.right) false refl
    (λ row. grouped (left_side far left flags row.left) right further row.right)

are_known : every (λ (row : Row). is_left row.left && is_right row.right) numbered_below ≡ true
unfolding numbered_below listed
are_known = refl

below : (c d : ℕ) (before after : List ℕ) → has numbered_rules.marks (symbol d) ≡ false → free (symbol c) (symbol d) ≡ true
    → joins_below numbered_rules word_machine marked apart c d before after ≡ not (not (joins_after c d before after))
unfolding numbered_rules
below c d before after plain going =
    let past = c ∷ before in
    let flags = flags_in (bases_of past) in
    (λ i. joined numbered_below (left_by (bases_of past)) (right_by (symbol d) (bases_after numbered_rules (going i) (symbols_of word_machine after))) true)
    ∙ joined-same numbered_below _ (left_side (second past) (first past) flags) _ (right_side (word_break d) (first after)) true are_known
    (left-is past) (λ pattern. right-is d after pattern plain)
    ∙ values-join (second past) (first past) (word_break d) (first after) flags
    ∙ either-half (joins (second past) (first past) (word_break d) (first after)) (flags 1) (flags 4194046) (is_regional (word_break d)) (half past) (flags-are past).odd
    ∙ sym (not_swap _ _ refl)

above-sides : (s t : ℕ) (before after : List ℕ) (joins : Bool)
    → joined numbered_above (left_by (s ∷ before)) (right_by t after) joins ≡ joined numbered_above (left_by (s ∷ [])) (right_by t []) joins
unfolding joined numbered_above reached after_item after_one
above-sides s t before after joins = refl

by-pairs : (c d : ℕ) (before after : List ℕ) → is_word_break (c ∷ before) (d ∷ after) ≡ unwrap_or (pair (symbol c) (symbol d)) (not (joins_after c d before after))
unfolding is_word_break
by-pairs c d before after =
    let one = symbol-says c in
    let two = symbol-says d in
    λ i. unwrap_or (break_by_pair (one.value i) (two.value i) (two.pictograph i)) (not (joins_after c d before after))

rows-are : RowsAre is_word_break numbered_rules word_machine
unfolding numbered_rules
rows-are =
    rows-by-pairs numbered_rules word_machine marked apart is_word_break pair free 22 (λ c. ((symbol-says c).some, (symbol-says c).below))
    pairs-agree above-sides (λ c d before after. not (joins_after c d before after)) by-pairs below

pub rule-ends : HasEnds is_word_break
unfolding is_word_break
rule-ends = record { start = λ after. refl; end = λ c before. refl }

at-end : word_rules.at_end ≡ 0
unfolding word_rules
at-end = refl

-- Law: the boundaries of the machine, in code points, are 0 and the ends of the kit's words
pub words-are : EndsAre is_word_break word_machine
words-are =
    ends-follow is_word_break word_rules word_machine rule-ends at-end
    (subst (λ rules. RowsAre is_word_break rules word_machine) (sym rules-are) rows-are) word-follows
