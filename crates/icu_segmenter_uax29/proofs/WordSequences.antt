-- Sequences that stay together in words.
use Rattle.std.proofs.Common.{◌≡◌, ℕ, Bool, true, false, not, ◌&&◌, ◌||◌, List, [], ◌∷◌, ◌++◌, reverse, Option, Some, None, unwrap_or, refl, sym, ap, ◌∙◌}
use Rattle.std.proofs.lemmas.Bool.{and_parts}
use Rattle.std.proofs.lemmas.List.{reverse-append}
use Rattle.ucd_table.proofs.TrieCheck.{all_below, all_below-at}
use Rattle.ucd_breaks.specs.WordBreak.{word_break, word_break_from_number, word_break_number}
use Rattle.ucd_breaks.proofs.WordBreakLemmas.{word_break_from_number-word_break_number, word_break_number-lt}
use Rattle.ucd_breaks.specs.declared.WordBreak.{WordBreak}
use Rattle.ucd_emoji.specs.Binary.{is_extended_pictographic}
use Rattle.unicode_segmentation.specs.Word.{break_by_pair, is_ignored, is_word_break, joins, joins_flag, significant, value_at}
use Rattle.unicode_segmentation.proofs.WordLemmas.{significant-kept}
use Rattle.icu_segmenter_uax29.specs.Neighbours.{IsWordJoined, WordsHoldTogether, WordsStayTogether}
use Rattle.icu_segmenter_uax29.specs.Words.{word_machine}
use Rattle.icu_segmenter_uax29.proofs.Boundaries.{boundaries-break}
use Rattle.icu_segmenter_uax29.proofs.Lists.{every, passes}
use Rattle.icu_segmenter_uax29.proofs.Tests.{is_kept, kept-from, clash, not-true}
use Rattle.icu_segmenter_uax29.proofs.WordPlaces.{rule-ends, words-are}

-- where the rules don't break there is no boundary
joined : (before after : List ℕ) (last next : ℕ) → is_word_break (last ∷ reverse before) (next ∷ after) ≡ false → IsWordJoined (before ++ last ∷ []) (next ∷ after)
joined before after last next is has =
    clash
    (ap (λ past. is_word_break past (next ∷ after)) (sym (reverse-append before (last ∷ [])))
    ∙ boundaries-break is_word_break word_machine rule-ends words-are (before ++ last ∷ []) (next ∷ after) has)
    is

-- ---- by the rules on pairs

-- a test of two values, whether the second is a pictograph or not
abbrev either_way : (Bool → Bool) → Bool
either_way test = test false && test true

either-way : (test : Bool → Bool) → either_way test ≡ true → (b : Bool) → test b ≡ true
either-way test h false = (and_parts _ _ h).0
either-way test h true = (and_parts _ _ h).1

abbrev keeps : WordBreak → WordBreak → Bool
keeps last next = either_way (λ pictograph. is_kept (break_by_pair last next pictograph))

abbrev pub are_kept : List WordBreak → List WordBreak → Bool
are_kept lasts nexts = every (λ last. every (keeps last) nexts) lasts

pub stay-together : (lasts nexts : List WordBreak) → are_kept lasts nexts ≡ true → WordsStayTogether lasts nexts
unfolding is_word_break
stay-together lasts nexts are before after last next is_last is_next =
    let its = passes (keeps (word_break last)) nexts _ (passes (λ last. every (keeps last) nexts) lasts _ are is_last) is_next in
    let left = significant (last ∷ reverse before) in
    joined before after last next
    (ap (λ found. unwrap_or found (not (joins (value_at left 1) (value_at left 0) (word_break next) (value_at (significant after) 0) || joins_flag (last ∷ reverse before) next)))
    (kept-from _ (either-way (λ pictograph. is_kept (break_by_pair (word_break last) (word_break next) pictograph)) its (is_extended_pictographic next))))

-- ---- by the rules from WB5 on

-- the rules on pairs don't break
abbrev is_open : Option Bool → Bool
is_open (Some true) = false
is_open _ = true

open-joined : (found : Option Bool) (b c : Bool) → is_open found ≡ true → b ≡ true → unwrap_or found (not (b || c)) ≡ false
open-joined None b c h is = ap (λ b. not (b || c)) is
open-joined (Some false) b c h is = refl
open-joined (Some true) b c h is = cc

-- the first is no mark, and the rules on pairs don't break between them
abbrev opens : WordBreak → WordBreak → Bool
opens last next = not (is_ignored last) && either_way (λ pictograph. is_open (break_by_pair last next pictograph))

word-joined : (before after : List ℕ) (last next : ℕ) → opens (word_break last) (word_break next) ≡ true
    → joins (value_at (significant (reverse before)) 0) (word_break last) (word_break next) (value_at (significant after) 0) ≡ true
    → IsWordJoined (before ++ last ∷ []) (next ∷ after)
unfolding is_word_break
word-joined before after last next opening is =
    let parts = and_parts (not (is_ignored (word_break last))) _ opening in
    let found = break_by_pair (word_break last) (word_break next) (is_extended_pictographic next) in
    let far = value_at (significant after) 0 in
    let flag = joins_flag (last ∷ reverse before) next in
    joined before after last next
    (ap (λ left. unwrap_or found (not (joins (value_at left 1) (value_at left 0) (word_break next) far || flag))) (significant-kept last (reverse before) (not-true _ parts.0))
    ∙ open-joined found _ flag (either-way (λ pictograph. is_open (break_by_pair (word_break last) (word_break next) pictograph)) parts.1 (is_extended_pictographic next)) is)

-- each value passes
abbrev for_values : (WordBreak → Bool) → Bool
for_values test = all_below (λ number. test (word_break_from_number number)) 19

for-values : (test : WordBreak → Bool) → for_values test ≡ true → (value : WordBreak) → test value ≡ true
for-values test h value =
    ap test (sym (word_break_from_number-word_break_number value))
    ∙ all_below-at (λ number. test (word_break_from_number number)) 19 (word_break_number value) h (word_break_number-lt value)

-- whatever stands far on both sides
abbrev always : WordBreak → WordBreak → Bool
always left right = for_values (λ far_left. for_values (joins far_left left right))

always-joins : (far_left left right far_right : WordBreak) → always left right ≡ true → joins far_left left right far_right ≡ true
always-joins far_left left right far_right h =
    for-values (joins far_left left right) (for-values (λ far_left. for_values (joins far_left left right)) h far_left) far_right

abbrev joins_all : WordBreak → WordBreak → Bool
joins_all last next = opens last next && always last next

abbrev pub are_joined : List WordBreak → List WordBreak → Bool
are_joined lasts nexts = every (λ last. every (joins_all last) nexts) lasts

pub join-together : (lasts nexts : List WordBreak) → are_joined lasts nexts ≡ true → WordsStayTogether lasts nexts
join-together lasts nexts are before after last next is_last is_next =
    let its = passes (joins_all (word_break last)) nexts _ (passes (λ last. every (joins_all last) nexts) lasts _ are is_last) is_next in
    let parts = and_parts (opens (word_break last) (word_break next)) _ its in
    word-joined before after last next parts.0 (always-joins _ (word_break last) (word_break next) _ parts.1)

-- ---- three

-- what stands before the first, and after the last, is whatever it is
abbrev holds : WordBreak → WordBreak → WordBreak → Bool
holds first middle last =
    (opens first middle && for_values (λ far. joins far first middle last))
    && ((opens middle last && for_values (joins first middle last)) && not (is_ignored last))

abbrev pub are_held : List WordBreak → List WordBreak → Bool
are_held ends middles = every (λ first. every (λ middle. every (holds first middle) ends) middles) ends

hold : (before after : List ℕ) (first middle last : ℕ) → holds (word_break first) (word_break middle) (word_break last) ≡ true
    → IsWordJoined (before ++ first ∷ []) (middle ∷ last ∷ after) × IsWordJoined ((before ++ first ∷ []) ++ middle ∷ []) (last ∷ after)
hold before after first middle last h =
    let one = and_parts (opens (word_break first) (word_break middle) && for_values (λ far. joins far (word_break first) (word_break middle) (word_break last))) _ h in
    let two = and_parts (opens (word_break first) (word_break middle)) _ one.0 in
    let three = and_parts (opens (word_break middle) (word_break last) && for_values (joins (word_break first) (word_break middle) (word_break last))) _ one.1 in
    let four = and_parts (opens (word_break middle) (word_break last)) _ three.0 in
    let start = and_parts (not (is_ignored (word_break first))) _ two.0 in
    let far = value_at (significant (reverse before)) 0 in
    let next = value_at (significant after) 0 in (
      word-joined before (last ∷ after) first middle two.0
          (ap (λ values. joins far (word_break first) (word_break middle) (value_at values 0)) (significant-kept last after (not-true _ three.1))
          ∙ for-values (λ far. joins far (word_break first) (word_break middle) (word_break last)) two.1 far),
      word-joined (before ++ first ∷ []) after middle last four.0
          (ap (λ past. joins (value_at (significant past) 0) (word_break middle) (word_break last) next) (reverse-append before (first ∷ []))
          ∙ ap (λ values. joins (value_at values 0) (word_break middle) (word_break last) next) (significant-kept first (reverse before) (not-true _ start.0))
          ∙ for-values (joins (word_break first) (word_break middle) (word_break last)) four.1 next),
    )

pub hold-together : (ends middles : List WordBreak) → are_held ends middles ≡ true → WordsHoldTogether ends middles
hold-together ends middles are before after first middle last is_first is_middle is_last =
    hold before after first middle last
    (passes (holds (word_break first) (word_break middle)) ends _
    (passes (λ middle. every (holds (word_break first) middle) ends) middles _
    (passes (λ first. every (λ middle. every (holds first middle) ends) middles) ends _ are is_first) is_middle) is_last)
