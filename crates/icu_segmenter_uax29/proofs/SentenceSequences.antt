-- What ends sentences, and what doesn't.
use Rattle.std.proofs.Common.{◌≡◌, ℕ, ◌⊎◌, Bool, true, false, not, ◌&&◌, List, [], ◌∷◌, ◌++◌, map, reverse, Some, unwrap_or, refl, sym, ap, ap₂, ◌∙◌, inl, inr}
use Rattle.std.proofs.lemmas.Bool.{and_parts}
use Rattle.std.proofs.lemmas.List.{reverse-append}
use Rattle.ucd_breaks.specs.SentenceBreak.{sentence_break}
use Rattle.ucd_breaks.specs.declared.SentenceBreak.{SentenceBreak}
use Rattle.ucd_breaks.specs.declared.SentenceBreak.TheVariants.{Cr, Extend, Format, Lf, Sep}
use Rattle.unicode_segmentation.specs.Sentence.{before_close_sp, break_by_pair, is_para_sep, is_sa_term, is_sentence_break, joins, reaches_lower, significant}
use Rattle.icu_segmenter_uax29.specs.Neighbours.{IsSentenceBoundary, IsSentenceJoined}
use Rattle.icu_segmenter_uax29.specs.Sentences.{sentence_machine}
use Rattle.icu_segmenter_uax29.proofs.Boundaries.{boundaries-break, breaks-bound}
use Rattle.icu_segmenter_uax29.proofs.SentencePlaces.{rule-ends, sentences-are}
use Rattle.icu_segmenter_uax29.proofs.Tests.{clash}

turned : (before after : List ℕ) (last : ℕ) → is_sentence_break (reverse (before ++ last ∷ [])) after ≡ is_sentence_break (last ∷ reverse before) after
turned before after last = ap (λ past. is_sentence_break past after) (reverse-append before (last ∷ []))

-- a boundary stands between two parts just where the rules break
ruled : (before after : List ℕ) (last : ℕ) → IsSentenceBoundary (before ++ last ∷ []) after → is_sentence_break (last ∷ reverse before) after ≡ true
ruled before after last has =
    sym (turned before after last) ∙ boundaries-break is_sentence_break sentence_machine rule-ends sentences-are (before ++ last ∷ []) after has

bound : (before after : List ℕ) (last : ℕ) → is_sentence_break (last ∷ reverse before) after ≡ true → IsSentenceBoundary (before ++ last ∷ []) after
bound before after last is =
    breaks-bound is_sentence_break sentence_machine rule-ends sentences-are (before ++ last ∷ []) after (turned before after last ∙ is)

-- what the rules say of two parts, where the rules on pairs are given
abbrev decided : (before after : List ℕ) (last next : ℕ) → Bool
decided before after last next =
    not (joins (significant (last ∷ before)) (sentence_break next) (reaches_lower (map sentence_break (next ∷ after)))) && is_sa_term (before_close_sp (significant (last ∷ before)))

by-pair : (before after : List ℕ) (last next : ℕ) (b : Bool) → break_by_pair (sentence_break last) (sentence_break next) ≡ Some b
    → is_sentence_break (last ∷ before) (next ∷ after) ≡ b
unfolding is_sentence_break
by-pair before after last next b is = ap (λ found. unwrap_or found (decided before after last next)) is

pub line-end-joined : (before after : List ℕ) (last next : ℕ) → sentence_break last ≡ Cr → sentence_break next ≡ Lf → IsSentenceJoined (before ++ last ∷ []) (next ∷ after)
line-end-joined before after last next is_last is_next has =
    clash (ruled before (next ∷ after) last has) (by-pair (reverse before) after last next false (ap₂ break_by_pair is_last is_next))

pub separator-ends : (before after : List ℕ) (last : ℕ) → (sentence_break last ≡ Sep) ⊎ (sentence_break last ≡ Lf) → IsSentenceBoundary (before ++ last ∷ []) after
separator-ends before [] last is = bound before [] last (rule-ends.end last (reverse before))
separator-ends before (next ∷ after) last (inl is) =
    bound before (next ∷ after) last (by-pair (reverse before) after last next true (ap (λ value. break_by_pair value (sentence_break next)) is))
separator-ends before (next ∷ after) last (inr is) =
    bound before (next ∷ after) last (by-pair (reverse before) after last next true (ap (λ value. break_by_pair value (sentence_break next)) is))

after-return : (next : SentenceBreak) → (next ≡ Lf → ⊥) → break_by_pair Cr next ≡ Some true
after-return Lf other = absurd (other refl)
after-return _ other = refl

pub return-ends : (before after : List ℕ) (last next : ℕ) → sentence_break last ≡ Cr → (sentence_break next ≡ Lf → ⊥) → IsSentenceBoundary (before ++ last ∷ []) (next ∷ after)
return-ends before after last next is other =
    bound before (next ∷ after) last
    (by-pair (reverse before) after last next true (ap (λ value. break_by_pair value (sentence_break next)) is ∙ after-return (sentence_break next) other))

after-pair : (last next : SentenceBreak) (b term : Bool) → unwrap_or (break_by_pair last next) (b && term) ≡ true → (is_para_sep last ≡ true) ⊎ (term ≡ true)
after-pair Sep next b term h = inl refl
after-pair Cr next b term h = inl refl
after-pair Lf next b term h = inl refl
after-pair _ Extend b term h = let no : false ≡ true = h in cc
after-pair _ Format b term h = let no : false ≡ true = h in cc
after-pair _ _ b term h = inr (and_parts b term h).1

pub ends-after-term : (before after : List ℕ) (last next : ℕ) → IsSentenceBoundary (before ++ last ∷ []) (next ∷ after)
    → (is_para_sep (sentence_break last) ≡ true) ⊎ (is_sa_term (before_close_sp (significant (last ∷ reverse before))) ≡ true)
unfolding is_sentence_break
ends-after-term before after last next has =
    after-pair (sentence_break last) (sentence_break next) _ (is_sa_term (before_close_sp (significant (last ∷ reverse before)))) (ruled before (next ∷ after) last has)
