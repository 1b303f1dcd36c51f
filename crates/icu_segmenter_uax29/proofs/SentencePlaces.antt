-- The rows of sentences are the rules of the kit, SB3 to SB998.
use Rattle.std.proofs.Common.{◌≡◌, ℕ, Bool, true, false, cond, not, ◌&&◌, ◌||◌, ◌==◌, if◌then◌else◌, Option, List, [], ◌∷◌, map, unwrap_or, refl, sym, ap, subst, ◌∙◌}
use Rattle.std.proofs.lemmas.Bool.{and_parts}
use Rattle.ucd_table.proofs.TrieCheck.{all_below}
use Rattle.ucd_breaks.specs.SentenceBreak.{sentence_break}
use Rattle.ucd_breaks.specs.declared.SentenceBreak.{SentenceBreak}
use Rattle.ucd_breaks.specs.declared.SentenceBreak.TheVariants.{Extend, Format, Lower}
use Rattle.unicode_segmentation.specs.declared.sentence.context.Context.{Context}
use Rattle.unicode_segmentation.specs.Sentence.{break_by_pair, is_a_term, is_cased, is_close, is_ignored, is_letter, is_lower, is_numeric, is_para_sep, is_s_continue, is_sa_term, is_sentence_break, is_sp, is_upper, reaches_lower, significant, skip}
use Rattle.unicode_segmentation.specs.SentenceContext.{context_of, context_step}
use Rattle.unicode_segmentation.proofs.BoolLemmas.{and-false, not_swap, or-false, same, same-true}
use Rattle.unicode_segmentation.proofs.SentenceLemmas.{context_of-cons, is_sentence_break-inside}
use Rattle.seg_rules.specs.declared.rules.Count.TheVariants.{One, Optional, Star}
use Rattle.seg_rules.specs.Plain.{bases_after, bases_before, is_base}
use Rattle.seg_rules.specs.RowRules.{Pattern, has}
use Rattle.seg_rules.proofs.Adequacy.{Begins, after_item, after_one, after_optional, after_star, reached}
use Rattle.seg_machine.specs.Machine.{symbols_of}
use Rattle.icu_segmenter_uax29.specs.SentenceRules.{sentence_rules}
use Rattle.icu_segmenter_uax29.specs.SentenceValues.{value_of_symbol}
use Rattle.icu_segmenter_uax29.specs.Sentences.{sentence_machine}
use Rattle.icu_segmenter_uax29.proofs.Bases.{all_agree, EndsBare, joins_below, base-is, bases-are, not-bare, rows-are as rows-by-pairs}
use Rattle.icu_segmenter_uax29.proofs.Boundaries.{EndsAre, HasEnds}
use Rattle.icu_segmenter_uax29.proofs.RowPlaces.{RowsAre, ends-follow}
use Rattle.icu_segmenter_uax29.proofs.RuleLaws.{sentence-follows}
use Rattle.icu_segmenter_uax29.proofs.SentenceCertificate.{numbered_above, numbered_below, numbered_rules, rules-are}
use Rattle.icu_segmenter_uax29.proofs.SentenceSymbols.{symbol, symbol-says}
use Rattle.icu_segmenter_uax29.proofs.Sides.{anywhere, comes, for-flags, for-text, for_flags, for_text, joined, left_by, next_in, right_by}
use Rattle.icu_segmenter_uax29.proofs.Tests.{implied, implies, not-true}

-- The classes are numbers, as in the certificate: 96 the marks, 28 ParaSep, 4096 ATerm, 12288 SATerm, 16384 Close, 128 Sp, 256 Lower,
-- 768 Upper and Lower, 51426 what SB8 passes over.

-- Of the values that SB5 keeps, whether the last is cased, ATerm after a cased one, and ATerm; whether the one before Close* is
-- SATerm, and ATerm; and whether the one before Close* Sp* is.
abbrev Known : Type 0
Known = Bool × Bool × Bool × Bool × Bool × Bool × Bool

abbrev nothing : Known
nothing = (false, false, false, false, false, false, false)

abbrev known_of : Context → Known
known_of context = (
  is_cased context.left,
  is_cased context.far_left && is_a_term context.left,
  is_a_term context.left,
  is_sa_term context.before_close,
  is_a_term context.before_close,
  is_sa_term context.before_close_sp,
  is_a_term context.before_close_sp,
)

-- what is known after one more value
abbrev known_after : SentenceBreak → Known → Known
known_after value known =
    let term = if is_close value then known.3 else is_sa_term value in
    let stop = if is_close value then known.4 else is_a_term value in
    if is_ignored value then known
    else (
      is_cased value,
      known.0 && is_a_term value,
      is_a_term value,
      term,
      stop,
      if is_sp value then known.5 else term,
      if is_sp value then known.6 else stop,
    )

known-after : (value : SentenceBreak) (context : Context) → known_of (context_step context value) ≡ known_after value (known_of context)
known-after Lower context = refl
known-after _ context = refl

-- whether SB6 to SB11 break before a value
abbrev verdict : Known → SentenceBreak → Bool → Bool
verdict known right lower_ahead =
    known.5
    && not ((is_numeric right && known.2) || (is_upper right && known.1) || (is_close right && known.3) || is_s_continue right || is_sa_term right || is_sp right || is_para_sep right)
    && not (known.6 && lower_ahead)

-- the right side of SB8, with one more value before
abbrev lower_after : SentenceBreak → Bool → Bool
lower_after value ahead = is_lower value || (not (is_letter value || is_para_sep value || is_sa_term value) && ahead)

-- ---- the left sides of the rows

-- what they find in bases, nearest first
abbrev found_in : List ℕ → Known
found_in bases = (
  after_one 768 anywhere bases,
  after_one 4096 (after_one 768 anywhere) bases,
  after_one 4096 anywhere bases,
  after_star 16384 (after_one 12288 anywhere) bases,
  after_star 16384 (after_one 4096 anywhere) bases,
  after_star 128 (after_star 16384 (after_one 12288 anywhere)) bases,
  after_star 128 (after_star 16384 (after_one 4096 anywhere)) bases,
)

-- and with one more base
abbrev found_after : ℕ → Known → Known
found_after s known =
    let term = has 12288 s || (known.3 && has 16384 s) in
    let stop = has 4096 s || (known.4 && has 16384 s) in (
      has 768 s,
      known.0 && has 4096 s,
      has 4096 s,
      term,
      stop,
      term || (known.5 && has 128 s),
      stop || (known.6 && has 128 s),
    )

abbrev flags_of : Known → List Bool
flags_of known = known.0 ∷ known.1 ∷ known.2 ∷ known.3 ∷ known.4 ∷ known.5 ∷ known.6 ∷ []

same_known : Known → Known → Bool
same_known one other =
    same one.0 other.0 && (same one.1 other.1 && (same one.2 other.2 && (same one.3 other.3 && (same one.4 other.4 && (same one.5 other.5 && same one.6 other.6)))))

known-same : (one other : Known) → same_known one other ≡ true → one ≡ other
unfolding same_known
known-same one other h =
    let p0 = and_parts _ _ h in
    let p1 = and_parts _ _ p0.1 in
    let p2 = and_parts _ _ p1.1 in
    let p3 = and_parts _ _ p2.1 in
    let p4 = and_parts _ _ p3.1 in
    let p5 = and_parts _ _ p4.1 in
    λ i. (same-true one.0 other.0 p0.0 i, same-true one.1 other.1 p1.0 i, same-true one.2 other.2 p2.0 i, same-true one.3 other.3 p3.0 i, same-true one.4 other.4 p4.0 i, same-true one.5 other.5 p5.0 i, same-true one.6 other.6 p5.1 i)

-- A symbol that is no mark is found as the kit knows its value. Nothing is known after an end of a paragraph, nor found after a
-- symbol that no row names.
abbrev knows : ℕ → List Bool → Bool
knows s (a ∷ (b ∷ (c ∷ (d ∷ (e ∷ (f ∷ (g ∷ []))))))) =
    let known : Known = (a, b, c, d, e, f, g) in
    implies (not (has 96 s)) (same_known (found_after s known) (known_after (value_of_symbol s) known))
    && (implies (has 28 s) (same_known (known_after (value_of_symbol s) known) nothing) && same_known (found_after 1 known) nothing)
knows s _ = true

-- marks are what the kit passes over, and not bare; what comes of SB8's right side
abbrev reads : ℕ → List Bool → Bool
reads s (ahead ∷ []) =
    same (has 96 s) (is_ignored (value_of_symbol s)) && (same (has 28 s && has 96 s) false
    && same (lower_after (value_of_symbol s) ahead) (cond (has 96 s) ahead (has 256 s || (has 51426 s && ahead))))
reads s _ = true

all_known : for_text 16 (λ s. for_flags 7 (knows s)) ≡ true
unfolding all_below for_flags same_known
all_known = refl

all_read : for_text 16 (λ s. for_flags 1 (reads s)) ≡ true
unfolding all_below for_flags
all_read = refl

record Symbol (s : ℕ) (known : Known) (ahead : Bool) : Type 0 where
  found : has 96 s ≡ false → found_after s known ≡ known_after (value_of_symbol s) known
  bare : has 28 s ≡ true → known_after (value_of_symbol s) known ≡ nothing
  alone : found_after 1 known ≡ nothing
  mark : has 96 s ≡ is_ignored (value_of_symbol s)
  apart : (has 28 s && has 96 s) ≡ false
  lower : lower_after (value_of_symbol s) ahead ≡ cond (has 96 s) ahead (has 256 s || (has 51426 s && ahead))

symbol-is : (c : ℕ) (known : Known) (ahead : Bool) → Symbol (symbol c) known ahead
symbol-is c known ahead =
    let says = symbol-says c in
    let s = symbol c in
    let one = and_parts _ _ (for-flags (knows s) (flags_of known) (for-text 16 (λ s. for_flags 7 (knows s)) s all_known says.some says.below)) in
    let two = and_parts _ _ one.1 in
    let three = and_parts _ _ (for-flags (reads s) (ahead ∷ []) (for-text 16 (λ s. for_flags 1 (reads s)) s all_read says.some says.below)) in
    let four = and_parts _ _ three.1 in
    record {
      found = λ no. known-same _ _ (implied (not (has 96 s)) _ one.0 (ap not no));
      bare = λ is. known-same _ _ (implied (has 28 s) _ two.0 is);
      alone = known-same _ _ two.1;
      mark = same-true _ _ three.0;
      apart = same-true _ _ four.0;
      lower = same-true _ _ four.1;
    }

known-cons : (c : ℕ) (cs : List ℕ) → known_of (context_of (c ∷ cs)) ≡ known_after (value_of_symbol (symbol c)) (known_of (context_of cs))
known-cons c cs =
    ap known_of (sym (context_of-cons c cs)) ∙ known-after (sentence_break c) (context_of cs)
    ∙ ap (λ v. known_after v (known_of (context_of cs))) (symbol-says c).value

passed-over : (value : SentenceBreak) (known : Known) → is_ignored value ≡ true → known_after value known ≡ known
passed-over Extend known is = refl
passed-over Format known is = refl
passed-over _ known is = cc

-- a mark changes nothing of what is known
known-mark : (c : ℕ) (cs : List ℕ) → has 96 (symbol c) ≡ true → known_of (context_of (c ∷ cs)) ≡ known_of (context_of cs)
known-mark c cs is =
    known-cons c cs ∙ passed-over (value_of_symbol (symbol c)) (known_of (context_of cs)) (sym (symbol-is c nothing true).mark ∙ is)

marked : numbered_rules.has_marks ≡ true
unfolding numbered_rules
marked = refl

apart : (c : ℕ) → (has numbered_rules.bare (symbol c) && has numbered_rules.marks (symbol c)) ≡ false
unfolding numbered_rules
apart c = (symbol-is c nothing true).apart

bare-nothing : (cs : List ℕ) → EndsBare numbered_rules sentence_machine marked apart cs → known_of (context_of cs) ≡ nothing
unfolding numbered_rules context_of significant skip
bare-nothing [] bare = refl
bare-nothing (c ∷ cs) bare = known-cons c cs ∙ (symbol-is c (known_of (context_of cs)) true).bare bare

-- the left sides find what the kit knows
found-is : (cs : List ℕ) → found_in (bases_before numbered_rules (symbols_of sentence_machine cs)) ≡ known_of (context_of cs)
unfolding numbered_rules after_one after_star context_of significant skip
found-is =
    bases-are numbered_rules sentence_machine marked apart (λ bases cs. found_in bases ≡ known_of (context_of cs)) refl
    (λ c bases cs mark base found. found ∙ sym (known-mark c cs mark))
    (λ c bases cs mark bare found.
    ap (found_after 1) found ∙ (symbol-is c (known_of (context_of cs)) true).alone
    ∙ sym (known-mark c cs mark ∙ bare-nothing cs bare))
    (λ c bases cs kept found.
    ap (found_after (symbol c)) found ∙ (symbol-is c (known_of (context_of cs)) true).found kept ∙ sym (known-cons c cs))

-- what is bare doesn't stand last in the bases where no bare code point does
abbrev first_bare : List ℕ → Bool
first_bare [] = false
first_bare (c ∷ cs) = has 28 (symbol c)

not-last : (cs : List ℕ) → is_base numbered_rules (symbols_of sentence_machine cs) ≡ true → first_bare cs ≡ false
unfolding is_base numbered_rules
not-last [] base = cc
not-last (c ∷ cs) base = sym (not_swap true _ (sym base ∙ base-is numbered_rules sentence_machine marked apart c cs))

bare-is : (cs : List ℕ) → next_in 28 (bases_before numbered_rules (symbols_of sentence_machine cs)) ≡ first_bare cs
unfolding numbered_rules
bare-is =
    bases-are numbered_rules sentence_machine marked apart (λ bases cs. next_in 28 bases ≡ first_bare cs) refl
    (λ c bases cs mark base found. found ∙ not-last cs base ∙ sym (not-bare _ _ (apart c) mark))
    (λ c bases cs mark bare found. sym (not-bare _ _ (apart c) mark))
    (λ c bases cs kept found. refl)

-- SB11's right end of a paragraph
optional-none : (class : ℕ) (begins : Begins) (bases : List ℕ) → next_in class bases ≡ false → after_optional class begins bases ≡ begins bases
unfolding after_optional
optional-none class begins [] none = or-false (begins [])
optional-none class begins (b ∷ bases) none =
    ap (λ is. begins (b ∷ bases) || (begins bases && is)) none ∙ ap (λ is. begins (b ∷ bases) || is) (and-false (begins bases)) ∙ or-false (begins (b ∷ bases))

-- ---- the right side of SB8

comes-cons : (mark base : Bool) (s : ℕ) (rest : List ℕ)
    → comes 51426 256 (cond (mark && base) rest (cond mark 1 s ∷ rest))
    ≡ cond mark (comes 51426 256 rest) (has 256 s || (has 51426 s && comes 51426 256 rest))
unfolding comes
comes-cons true true s rest = refl
comes-cons true false s rest = refl
comes-cons false base s rest = refl

comes-is : (base : Bool) (cs : List ℕ) → comes 51426 256 (bases_after numbered_rules base (symbols_of sentence_machine cs)) ≡ reaches_lower (map sentence_break cs)
unfolding numbered_rules bases_after comes reaches_lower
comes-is base [] = refl
comes-is base (c ∷ cs) =
    let s = symbol c in
    let ahead = reaches_lower (map sentence_break cs) in
    let further = comes-is ((has 96 s && base) || not (has 28 s)) cs in
    comes-cons (has 96 s) base s (bases_after numbered_rules ((has 96 s && base) || not (has 28 s)) (symbols_of sentence_machine cs))
    ∙ ap (λ ahead. cond (has 96 s) ahead (has 256 s || (has 51426 s && ahead))) further
    ∙ sym ((symbol-is c nothing ahead).lower)
    ∙ ap (λ v. lower_after v ahead) (sym (symbol-says c).value)

-- ---- the rows

abbrev pair : ℕ → ℕ → Option Bool
pair s t = break_by_pair (value_of_symbol s) (value_of_symbol t)

-- where the rules on pairs say nothing, no end of a paragraph stands before
abbrev free : ℕ → ℕ → Bool
free s t = not (has 28 s)

pairs-agree : all_agree numbered_rules pair free 16 ≡ true
unfolding all_below for_flags joined numbered_above numbered_rules reached after_item after_one
pairs-agree = refl

-- what the left sides say of what is known, and the right sides of what comes
abbrev left_side : Known → Bool → Pattern → Bool
left_side known ended [] = true
left_side known ended ((class, One) ∷ []) = known.2
left_side known ended ((class, One) ∷ ((last, One) ∷ [])) = known.1
left_side known ended ((class, One) ∷ ((over, Star) ∷ [])) = known.3
left_side known ended ((class, One) ∷ ((over, Star) ∷ ((further, Star) ∷ []))) = cond (class == 4096) known.6 known.5
left_side known ended ((class, One) ∷ ((over, Star) ∷ ((further, Star) ∷ ((last, Optional) ∷ [])))) = ended
left_side known ended _ = false

abbrev right_side : ℕ → Bool → Pattern → Bool
right_side t ahead [] = true
right_side t ahead ((class, One) ∷ []) = has class t
right_side t ahead ((over, Star) ∷ ((class, One) ∷ [])) = has class t || (has over t && ahead)
right_side t ahead _ = false

sides-are : (t : ℕ) (bases after : List ℕ)
    → joined numbered_below (left_by bases) (right_by t after) true
    ≡ joined numbered_below (left_side (found_in bases) (after_optional 28 (after_star 128 (after_star 16384 (after_one 12288 anywhere))) bases)) (right_side t (comes 51426 256 after)) true
unfolding joined numbered_below reached after_item comes
sides-are t bases after = refl

abbrev below_agrees : ℕ → List Bool → Bool
below_agrees t (a ∷ (b ∷ (c ∷ (d ∷ (e ∷ (f ∷ (g ∷ (ahead ∷ [])))))))) =
    let known : Known = (a, b, c, d, e, f, g) in
    implies (not (has 96 t))
    (same (joined numbered_below (left_side known f) (right_side t ahead) true) (not (verdict known (value_of_symbol t) (lower_after (value_of_symbol t) ahead))))
below_agrees t _ = true

all_below_agree : for_text 16 (λ t. for_flags 8 (below_agrees t)) ≡ true
unfolding all_below for_flags joined numbered_below
all_below_agree = refl

-- what the kit says where the rules on pairs say nothing
abbrev otherwise : (c d : ℕ) (before after : List ℕ) → Bool
otherwise c d before after =
    verdict (known_of (context_of (c ∷ before))) (value_of_symbol (symbol d)) (lower_after (value_of_symbol (symbol d)) (reaches_lower (map sentence_break after)))

by-pairs : (c d : ℕ) (before after : List ℕ) → is_sentence_break (c ∷ before) (d ∷ after) ≡ unwrap_or (pair (symbol c) (symbol d)) (otherwise c d before after)
unfolding reaches_lower
by-pairs c d before after =
    let first = symbol-says c in
    let second = symbol-says d in
    is_sentence_break-inside c before d after
    ∙ (λ i. unwrap_or (break_by_pair (first.value i) (second.value i))
    (verdict (known_of (context_of (c ∷ before))) (second.value i) (lower_after (second.value i) (reaches_lower (map sentence_break after)))))

below : (c d : ℕ) (before after : List ℕ) → has numbered_rules.marks (symbol d) ≡ false → free (symbol c) (symbol d) ≡ true
    → joins_below numbered_rules sentence_machine marked apart c d before after ≡ not (otherwise c d before after)
unfolding numbered_rules
below c d before after plain unended =
    let t = symbol d in
    let bases = bases_before numbered_rules (symbols_of sentence_machine (c ∷ before)) in
    let rest = bases_after numbered_rules (not (has 28 t)) (symbols_of sentence_machine after) in
    let found = found-is (c ∷ before) in
    let known = known_of (context_of (c ∷ before)) in
    let ahead = reaches_lower (map sentence_break after) in
    let ended = optional-none 28 (after_star 128 (after_star 16384 (after_one 12288 anywhere))) bases (bare-is (c ∷ before) ∙ not-true _ unended) ∙ ap (λ (known : Known). known.5) found in
    sides-are t bases rest
    ∙ (λ i. joined numbered_below (left_side (found i) (ended i)) (right_side t (comes-is (not (has 28 t)) after i)) true)
    ∙ same-true _ _ (implied (not (has 96 t)) _ (for-flags (below_agrees t) (known.0 ∷ known.1 ∷ known.2 ∷ known.3 ∷ known.4 ∷ known.5 ∷ known.6 ∷ ahead ∷ [])
    (for-text 16 (λ t. for_flags 8 (below_agrees t)) t all_below_agree (symbol-says d).some (symbol-says d).below)) (ap not plain))

above-sides : (s t : ℕ) (before after : List ℕ) (joins : Bool)
    → joined numbered_above (left_by (s ∷ before)) (right_by t after) joins ≡ joined numbered_above (left_by (s ∷ [])) (right_by t []) joins
unfolding joined numbered_above reached after_item after_one
above-sides s t before after joins = refl

rows-are : RowsAre is_sentence_break numbered_rules sentence_machine
unfolding numbered_rules
rows-are =
    rows-by-pairs numbered_rules sentence_machine marked apart is_sentence_break pair free 16
    (λ c. ((symbol-says c).some, (symbol-says c).below)) pairs-agree above-sides otherwise by-pairs below

pub rule-ends : HasEnds is_sentence_break
unfolding is_sentence_break
rule-ends = record { start = λ after. refl; end = λ c before. refl }

at-end : sentence_rules.at_end ≡ 0
unfolding sentence_rules
at-end = refl

-- Law: the boundaries of the machine, in code points, are 0 and the ends of the kit's sentences
pub sentences-are : EndsAre is_sentence_break sentence_machine
sentences-are =
    ends-follow is_sentence_break sentence_rules sentence_machine rule-ends at-end
    (subst (λ rules. RowsAre is_sentence_break rules sentence_machine) (sym rules-are) rows-are) sentence-follows
