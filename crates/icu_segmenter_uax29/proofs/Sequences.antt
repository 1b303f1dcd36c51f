-- Sequences that stay together.
use Rattle.std.proofs.Common.{◌≡◌, ℕ, ◌<◌, ◌⊎◌, Bool, true, false, not, ◌&&◌, ◌||◌, cond, List, [], ◌∷◌, ◌++◌, map, reverse, Option, Some, None, unwrap_or, refl, sym, ap, ap₂, ◌∙◌, inl, inr, append_assoc}
use Rattle.std.proofs.lemmas.List.{reverse-append}
use Rattle.std.proofs.lemmas.List.Elements.{All-head, All-tail}
use Rattle.ucd_table.proofs.TrieCheck.{all_below, all_below-at}
use Rattle.ucd_breaks.specs.GraphemeClusterBreak.{grapheme_cluster_break}
use Rattle.ucd_breaks.specs.declared.GraphemeClusterBreak.{GraphemeClusterBreak}
use Rattle.ucd_breaks.specs.declared.GraphemeClusterBreak.TheVariants.{Extend, RegionalIndicator, Other, Zwj}
use Rattle.ucd_derived.specs.IndicConjunctBreak.{indic_conjunct_break}
use Rattle.ucd_derived.specs.declared.IndicConjunctBreak.{IndicConjunctBreak}
use Rattle.ucd_derived.specs.declared.IndicConjunctBreak.TheVariants as InCb
use Rattle.ucd_emoji.specs.Binary.{is_extended_pictographic}
use Rattle.unicode_segmentation.specs.Grapheme.{break_by_pair, ends_in_linker, ends_in_pictograph, ends_in_half_flag, is_consonant, is_extend, is_regional, is_zwj, joins_conjunct, joins_emoji, joins_flag, is_grapheme_break}
use Rattle.seg_data.specs.Table.{value_of}
use Rattle.seg_machine.specs.Machine.{replaced, symbol_and_script}
use Rattle.icu_segmenter_uax29.specs.Clusters.{cluster_machine}
use Rattle.icu_segmenter_uax29.specs.Neighbours.{IsBoundary, IsJoined, StayTogether, EndsInWholeFlags, AllExtend, AllInConjunct}
use Rattle.icu_segmenter_uax29.specs.Properties.{gcb_of, incb_of, pict_of}
use Rattle.icu_segmenter_uax29.proofs.Boundaries.{boundaries-break}
use Rattle.icu_segmenter_uax29.proofs.ClusterPlaces.{rule-ends, clusters-are}
use Rattle.icu_segmenter_uax29.proofs.Lists.{every, passes}
use Rattle.icu_segmenter_uax29.proofs.Properties.{symbol, symbol-says}
use Rattle.icu_segmenter_uax29.proofs.Tests.{clash, is_kept, kept-from, implied, or-true}

-- where there is a boundary the rules break
ruled : (before after : List ℕ) → IsBoundary before after → is_grapheme_break true (reverse before) after ≡ true
ruled = boundaries-break (is_grapheme_break true) cluster_machine rule-ends clusters-are

-- where the rules don't break there is no boundary
joined : (before after : List ℕ) (last next : ℕ) → is_grapheme_break true (last ∷ reverse before) (next ∷ after) ≡ false → IsJoined (before ++ last ∷ []) (next ∷ after)
joined before after last next is has =
    clash (ap (λ past. is_grapheme_break true past (next ∷ after)) (sym (reverse-append before (last ∷ []))) ∙ ruled (before ++ last ∷ []) (next ∷ after) has) is

-- ---- pairs

abbrev pub are_kept : List GraphemeClusterBreak → List GraphemeClusterBreak → Bool
are_kept lasts nexts = every (λ last. every (λ next. is_kept (break_by_pair true last next)) nexts) lasts

pair-joined : (before after : List ℕ) (last next : ℕ) → break_by_pair true (grapheme_cluster_break last) (grapheme_cluster_break next) ≡ Some false → IsJoined (before ++ last ∷ []) (next ∷ after)
unfolding is_grapheme_break
pair-joined before after last next is =
    joined before after last next (ap (λ found. unwrap_or found (not (joins_conjunct (last ∷ reverse before) next || joins_emoji (last ∷ reverse before) next || joins_flag (last ∷ reverse before) next))) is)

pub stay-together : (lasts nexts : List GraphemeClusterBreak) → are_kept lasts nexts ≡ true → StayTogether lasts nexts
stay-together lasts nexts are before after last next is_last is_next =
    pair-joined before after last next
    (kept-from _ (passes (λ next. is_kept (break_by_pair true (grapheme_cluster_break last) next)) nexts _ (passes (λ last. every (λ next. is_kept (break_by_pair true last next)) nexts) lasts _ are is_last) is_next))

carriage_return : symbol 0x0D ≡ 2
unfolding symbol_and_script cluster_machine value_of replaced
carriage_return = refl

line_feed : symbol 0x0A ≡ 3
unfolding symbol_and_script cluster_machine value_of replaced
line_feed = refl

pub line-end-joined : (before after : List ℕ) → IsJoined (before ++ 0x0D ∷ []) (0x0A ∷ after)
line-end-joined before after = pair-joined before after 0x0D 0x0A (ap₂ (break_by_pair true) ((symbol-says 0x0D).breaks ∙ ap gcb_of carriage_return) ((symbol-says 0x0A).breaks ∙ ap gcb_of line_feed))

-- ---- where the rules on pairs say nothing

undecided : (before after : List ℕ) (last next : ℕ) → break_by_pair true (grapheme_cluster_break last) (grapheme_cluster_break next) ≡ None
    → (joins_conjunct (last ∷ reverse before) next || joins_emoji (last ∷ reverse before) next || joins_flag (last ∷ reverse before) next) ≡ true → IsJoined (before ++ last ∷ []) (next ∷ after)
unfolding is_grapheme_break
undecided before after last next none joins =
    joined before after last next
    (ap (λ found. unwrap_or found (not (joins_conjunct (last ∷ reverse before) next || joins_emoji (last ∷ reverse before) next || joins_flag (last ∷ reverse before) next))) none ∙ ap not joins)

second : (b c d : Bool) → c ≡ true → (b || c || d) ≡ true
second true c d h = refl
second false c d h = ap (λ c. c || d) h

third : (b c d : Bool) → d ≡ true → (b || c || d) ≡ true
third true c d h = refl
third false true d h = refl
third false false d h = h

-- ---- flags

pub flag-joined : (before after : List ℕ) (one other : ℕ) → EndsInWholeFlags before → grapheme_cluster_break one ≡ RegionalIndicator
    → grapheme_cluster_break other ≡ RegionalIndicator → IsJoined (before ++ one ∷ []) (other ∷ after)
unfolding ends_in_half_flag
flag-joined before after one other whole is_one is_other =
    undecided before after one other (ap₂ (break_by_pair true) is_one is_other)
    (third (joins_conjunct (one ∷ reverse before) other) (joins_emoji (one ∷ reverse before) other) _
    (ap₂ (λ a b. (is_regional a && not (ends_in_half_flag (reverse before))) && is_regional b) is_one is_other ∙ ap (λ half. not half && true) whole))

-- ---- emoji

abbrev is_other : GraphemeClusterBreak → Bool
is_other Other = true
is_other _ = false

other-from : (v : GraphemeClusterBreak) → is_other v ≡ true → v ≡ Other
other-from Other h = refl
other-from _ h = cc

-- pictographs and consonants have no value of their own
plain : all_below (λ s. cond (pict_of s || is_consonant (incb_of s)) (is_other (gcb_of s)) true) 20 ≡ true
unfolding all_below
plain = refl

plain-symbol : (s : ℕ) → s < 20 → (pict_of s || is_consonant (incb_of s)) ≡ true → gcb_of s ≡ Other
plain-symbol s below is = other-from _ (implied _ _ (all_below-at (λ s. cond (pict_of s || is_consonant (incb_of s)) (is_other (gcb_of s)) true) 20 s plain below) is)

pictograph-other : (c : ℕ) → is_extended_pictographic c ≡ true → grapheme_cluster_break c ≡ Other
pictograph-other c is =
    let says = symbol-says c in
    says.breaks ∙ plain-symbol (symbol c) says.below (ap (λ p. p || is_consonant (incb_of (symbol c))) (sym says.pictographs ∙ is))

consonant-other : (c : ℕ) → indic_conjunct_break c ≡ InCb.Consonant → grapheme_cluster_break c ≡ Other
consonant-other c is =
    let says = symbol-says c in
    says.breaks ∙ plain-symbol (symbol c) says.below
    (ap (λ v. pict_of (symbol c) || is_consonant v) (sym says.conjuncts ∙ is) ∙ or-true (pict_of (symbol c)))

turned : (c : ℕ) (cs past : List ℕ) → reverse (c ∷ cs) ++ past ≡ reverse cs ++ (c ∷ past)
turned c cs past = ap (λ turned. turned ++ past) (reverse-append (c ∷ []) cs) ∙ append_assoc (reverse cs) (c ∷ []) past

abbrev Extends : ℕ → Type 0
Extends c = grapheme_cluster_break c ≡ Extend

still-pictograph : (extends past : List ℕ) → AllExtend extends → ends_in_pictograph past ≡ true → ends_in_pictograph (reverse extends ++ past) ≡ true
unfolding ends_in_pictograph
still-pictograph [] past all is = is
still-pictograph (c ∷ cs) past all is =
    let here : ends_in_pictograph (c ∷ past) ≡ true =
    ap₂ (λ v b. is_extended_pictographic c || (is_extend v && b)) (All-head Extends c cs all) is ∙ or-true (is_extended_pictographic c) in
    ap ends_in_pictograph (turned c cs past) ∙ still-pictograph cs (c ∷ past) (All-tail Extends c cs all) here

ends-emoji : (before extends : List ℕ) (one : ℕ) → is_extended_pictographic one ≡ true → AllExtend extends → ends_in_pictograph (reverse (before ++ one ∷ extends)) ≡ true
unfolding ends_in_pictograph
ends-emoji before extends one is all =
    ap ends_in_pictograph (reverse-append before (one ∷ extends) ∙ turned one extends (reverse before))
    ∙ still-pictograph extends (one ∷ reverse before) all (ap (λ p. p || (is_extend (grapheme_cluster_break one) && ends_in_pictograph (reverse before))) is)

pub emoji-joined : (before extends after : List ℕ) (one joiner other : ℕ) → is_extended_pictographic one ≡ true → AllExtend extends
    → grapheme_cluster_break joiner ≡ Zwj → is_extended_pictographic other ≡ true → IsJoined ((before ++ one ∷ extends) ++ joiner ∷ []) (other ∷ after)
emoji-joined before extends after one joiner other is_one all is_joiner is_other =
    let past = before ++ one ∷ extends in
    undecided past after joiner other (ap₂ (break_by_pair true) is_joiner (pictograph-other other is_other))
    (second (joins_conjunct (joiner ∷ reverse past) other) _ (joins_flag (joiner ∷ reverse past) other)
    (ap₂ (λ v b. is_zwj v && b && is_extended_pictographic other) is_joiner (ends-emoji before extends one is_one all) ∙ is_other))

-- ---- conjuncts

abbrev is_within : IndicConjunctBreak → Bool
is_within InCb.Extend = true
is_within InCb.Linker = true
is_within _ = false

abbrev is_undecided : Option Bool → Bool
is_undecided None = true
is_undecided _ = false

undecided-from : (found : Option Bool) → is_undecided found ≡ true → found ≡ None
undecided-from None h = refl
undecided-from (Some b) h = cc

open_pairs : all_below (λ s. cond (is_within (incb_of s)) (is_undecided (break_by_pair true (gcb_of s) Other)) true) 20 ≡ true
unfolding all_below
open_pairs = refl

conjunct-pair : (last next : ℕ) → is_within (indic_conjunct_break last) ≡ true → indic_conjunct_break next ≡ InCb.Consonant
    → break_by_pair true (grapheme_cluster_break last) (grapheme_cluster_break next) ≡ None
conjunct-pair last next within is =
    let says = symbol-says last in
    ap₂ (break_by_pair true) says.breaks (consonant-other next is)
    ∙ undecided-from _ (implied _ _ (all_below-at (λ s. cond (is_within (incb_of s)) (is_undecided (break_by_pair true (gcb_of s) Other)) true) 20 (symbol last) open_pairs says.below)
    (ap is_within (sym says.conjuncts) ∙ within))

abbrev Inside : ℕ → Type 0
Inside c = (indic_conjunct_break c ≡ InCb.Extend) ⊎ (indic_conjunct_break c ≡ InCb.Linker)

linker-ends : (c : ℕ) (past : List ℕ) → (indic_conjunct_break c ≡ InCb.Extend) ⊎ (indic_conjunct_break c ≡ InCb.Linker)
    → ends_in_linker (map indic_conjunct_break past) ≡ true → ends_in_linker (map indic_conjunct_break (c ∷ past)) ≡ true
unfolding ends_in_linker
linker-ends c past (inl is) ends = ap (λ v. ends_in_linker (v ∷ map indic_conjunct_break past)) is ∙ ends
linker-ends c past (inr is) ends = ap (λ v. ends_in_linker (v ∷ map indic_conjunct_break past)) is

within : (c : ℕ) → (indic_conjunct_break c ≡ InCb.Extend) ⊎ (indic_conjunct_break c ≡ InCb.Linker) → is_within (indic_conjunct_break c) ≡ true
within c (inl is) = ap is_within is
within c (inr is) = ap is_within is

no-break : (after past : List ℕ) (last next : ℕ) → is_within (indic_conjunct_break last) ≡ true → ends_in_linker (map indic_conjunct_break (last ∷ past)) ≡ true
    → indic_conjunct_break next ≡ InCb.Consonant → is_grapheme_break true (last ∷ past) (next ∷ after) ≡ false
unfolding is_grapheme_break
no-break after past last next inside ends is =
    ap (λ found. unwrap_or found (not (joins_conjunct (last ∷ past) next || joins_emoji (last ∷ past) next || joins_flag (last ∷ past) next))) (conjunct-pair last next inside is)
    ∙ ap (λ joins. not (joins || joins_emoji (last ∷ past) next || joins_flag (last ∷ past) next)) (ap₂ (λ ends v. ends && is_consonant v) ends is)

walk : (marks after past : List ℕ) (last next : ℕ) → is_within (indic_conjunct_break last) ≡ true → ends_in_linker (map indic_conjunct_break (last ∷ past)) ≡ true
    → AllInConjunct marks → indic_conjunct_break next ≡ InCb.Consonant → is_grapheme_break true (reverse marks ++ (last ∷ past)) (next ∷ after) ≡ false
walk [] after past last next inside ends all is = no-break after past last next inside ends is
walk (c ∷ cs) after past last next inside ends all is =
    ap (λ before. is_grapheme_break true before (next ∷ after)) (turned c cs (last ∷ past))
    ∙ walk cs after (last ∷ past) c next (within c (All-head Inside c cs all)) (linker-ends c (last ∷ past) (All-head Inside c cs all) ends) (All-tail Inside c cs all) is

pub conjunct-joined : (before marks after : List ℕ) (linker next : ℕ) → indic_conjunct_break linker ≡ InCb.Linker → AllInConjunct marks
    → indic_conjunct_break next ≡ InCb.Consonant → IsJoined (before ++ linker ∷ marks) (next ∷ after)
unfolding ends_in_linker
conjunct-joined before marks after linker next is_linker all is has =
    clash (ruled (before ++ linker ∷ marks) (next ∷ after) has)
    (ap (λ past. is_grapheme_break true past (next ∷ after)) (reverse-append before (linker ∷ marks) ∙ turned linker marks (reverse before))
    ∙ walk marks after (reverse before) linker next (ap is_within is_linker) (ap (λ v. ends_in_linker (v ∷ map indic_conjunct_break (reverse before))) is_linker) all is)
