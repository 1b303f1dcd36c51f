-- The rows of clusters are the rules of the kit, GB3 to GB999.
use Rattle.std.proofs.Common.{◌≡◌, ℕ, Bool, true, false, cond, not, ◌&&◌, ◌||◌, List, [], ◌∷◌, ◌++◌, map, refl, sym, ap, ap₂, subst, ◌∙◌, unwrap_or}
use Rattle.std.proofs.lemmas.Bool.{and_parts}
use Rattle.ucd_table.proofs.TrieCheck.{all_below}
use Rattle.ucd_breaks.specs.GraphemeClusterBreak.{grapheme_cluster_break}
use Rattle.ucd_derived.specs.declared.IndicConjunctBreak.{IndicConjunctBreak}
use Rattle.ucd_derived.specs.declared.IndicConjunctBreak.TheVariants as InCb
use Rattle.ucd_derived.specs.IndicConjunctBreak.{indic_conjunct_break}
use Rattle.ucd_emoji.specs.Binary.{is_extended_pictographic}
use Rattle.unicode_segmentation.specs.Grapheme.{break_by_pair, ends_in_half_flag, ends_in_linker, ends_in_pictograph, is_consonant, is_extend, is_grapheme_break, is_regional, is_zwj}
use Rattle.unicode_segmentation.proofs.BoolLemmas.{not_swap, same, same-true}
use Rattle.seg_rules.specs.declared.rules.Count.TheVariants.{One, Star, Pairs}
use Rattle.seg_rules.specs.Plain.{first_row, plain_verdict}
use Rattle.seg_rules.specs.RowRules.{Pattern, has}
use Rattle.seg_rules.proofs.Adequacy.{after_item, after_one, after_pairs, after_star, reached}
use Rattle.seg_machine.specs.Machine.{symbols_of}
use Rattle.icu_segmenter_uax29.specs.ClusterRules.{cluster_rules}
use Rattle.icu_segmenter_uax29.specs.Clusters.{cluster_machine}
use Rattle.icu_segmenter_uax29.specs.Properties.{gcb_of, incb_of, pict_of}
use Rattle.icu_segmenter_uax29.proofs.Boundaries.{EndsAre, HasEnds}
use Rattle.icu_segmenter_uax29.proofs.ClusterCertificate.{numbered_above, numbered_below, numbered_rules, rules-are}
use Rattle.icu_segmenter_uax29.proofs.Properties.{symbol, symbol-says}
use Rattle.icu_segmenter_uax29.proofs.RowPlaces.{RowsAre, ends-follow}
use Rattle.icu_segmenter_uax29.proofs.RuleLaws.{cluster-follows}
use Rattle.icu_segmenter_uax29.proofs.Sides.{Flags, anywhere, flags-on, for-flags, for-text, for_flags, for_text, joined, joined-is, left_by, right_by}

-- The classes are numbers, as in the certificate: 262208 and 288 are Linker and Extend of Indic_Conjunct_Break, 224 is Extend, 524288
-- Extended_Pictographic, 512 RI and 1048062 no RI, 1 the start of the text.

-- ---- what the rows ask for before the last symbol: Linker Extend*, Extended_Pictographic Extend*, and regional indicators

abbrev in_linker : List ℕ → Bool
in_linker = after_star 288 (after_one 262208 anywhere)

abbrev in_pictograph : List ℕ → Bool
in_pictograph = after_star 224 (after_one 524288 anywhere)

abbrev text : List ℕ → List ℕ
text cs = symbols_of cluster_machine cs ++ (0 ∷ [])

-- the values of Indic_Conjunct_Break before, after one more
abbrev linker_after : IndicConjunctBreak → Bool → Bool
linker_after InCb.Linker before = true
linker_after InCb.Extend before = before
linker_after _ before = false

linker-cons : (v : IndicConjunctBreak) (vs : List IndicConjunctBreak) → ends_in_linker (v ∷ vs) ≡ linker_after v (ends_in_linker vs)
unfolding ends_in_linker
linker-cons InCb.Linker vs = refl
linker-cons InCb.Extend vs = refl
linker-cons InCb.Consonant vs = refl
linker-cons InCb.None vs = refl

-- the classes of the rows are the values of the kit
abbrev reads : ℕ → List Bool → Bool
reads s (b ∷ []) =
    same (has 262208 s || (b && has 288 s)) (linker_after (incb_of s) b)
    && (same (has 524288 s || (b && has 224 s)) (pict_of s || (is_extend (gcb_of s) && b))
    && (same (has 512 s) (is_regional (gcb_of s)) && (same (has 1048062 s) (not (has 512 s)) && same (has 1 s) false)))
reads s _ = true

all_read : for_text 20 (λ s. for_flags 1 (reads s)) ≡ true
unfolding all_below for_flags
all_read = refl

record Reads (c : ℕ) (b : Bool) : Type 0 where
  linker : (has 262208 (symbol c) || (b && has 288 (symbol c))) ≡ linker_after (indic_conjunct_break c) b
  pictograph : (has 524288 (symbol c) || (b && has 224 (symbol c))) ≡ (is_extended_pictographic c || (is_extend (grapheme_cluster_break c) && b))
  regional : has 512 (symbol c) ≡ is_regional (grapheme_cluster_break c)
  other : has 1048062 (symbol c) ≡ not (has 512 (symbol c))
  edge : has 1 (symbol c) ≡ false

reading : (c : ℕ) (b : Bool) → Reads c b
reading c b =
    let says = symbol-says c in
    let one = and_parts _ _ (for-flags (reads (symbol c)) (b ∷ []) (for-text 20 (λ s. for_flags 1 (reads s)) (symbol c) all_read says.some says.below)) in
    let two = and_parts _ _ one.1 in
    let three = and_parts _ _ two.1 in
    let four = and_parts _ _ three.1 in
    record {
      linker = same-true _ _ one.0 ∙ ap (λ v. linker_after v b) (sym says.conjuncts);
      pictograph = same-true _ _ two.0 ∙ sym (ap₂ (λ p v. p || (is_extend v && b)) says.pictographs says.breaks);
      regional = same-true _ _ three.0 ∙ ap is_regional (sym says.breaks);
      other = same-true _ _ four.0;
      edge = same-true _ _ four.1;
    }

linker-is : (cs : List ℕ) → in_linker (text cs) ≡ ends_in_linker (map indic_conjunct_break cs)
unfolding after_one after_star ends_in_linker
linker-is [] = refl
linker-is (c ∷ cs) =
    ap (λ b. has 262208 (symbol c) || (b && has 288 (symbol c))) (linker-is cs)
    ∙ (reading c (ends_in_linker (map indic_conjunct_break cs))).linker
    ∙ sym (linker-cons (indic_conjunct_break c) (map indic_conjunct_break cs))

pictograph-is : (cs : List ℕ) → in_pictograph (text cs) ≡ ends_in_pictograph cs
unfolding after_one after_star ends_in_pictograph
pictograph-is [] = refl
pictograph-is (c ∷ cs) =
    ap (λ b. has 524288 (symbol c) || (b && has 224 (symbol c))) (pictograph-is cs) ∙ (reading c (ends_in_pictograph cs)).pictograph

abbrev InFlags : List ℕ → Bool → Type 0
InFlags = Flags 1 1048062 512

flags-are : (cs : List ℕ) → InFlags (text cs) (ends_in_half_flag cs)
unfolding after_one after_pairs ends_in_half_flag
flags-are [] = record { even = refl; odd = refl }
flags-are (c ∷ cs) =
    let its = reading c true in
    subst (λ is. InFlags (text (c ∷ cs)) (is && not (ends_in_half_flag cs))) its.regional
    (flags-on 1 1048062 512 (symbol c) (text cs) (ends_in_half_flag cs) its.edge its.other (flags-are cs))

-- ---- the rows, where this is known of what stands before the last symbol

abbrev side : ℕ → (linker pictograph first later : Bool) → Pattern → Bool
side s linker pictograph first later [] = true
side s linker pictograph first later ((class, One) ∷ []) = has class s
side s linker pictograph first later ((class, One) ∷ ((over, Star) ∷ [])) = has class s || (linker && has over s)
side s linker pictograph first later ((class, One) ∷ ((over, Star) ∷ ((last, One) ∷ []))) = pictograph && has last s
side s linker pictograph first later ((class, One) ∷ ((over, Pairs) ∷ ((last, One) ∷ []))) = cond (has class 0) first later && has last s
side s linker pictograph first later _ = false

sides-are : (s t : ℕ) (before after : List ℕ)
    → joined numbered_above (left_by (s ∷ before)) (right_by t after) true
    ≡ joined numbered_above (side s (in_linker before) (in_pictograph before) (after_pairs 512 (after_one 1 anywhere) before).0
    (after_pairs 512 (after_one 1048062 anywhere) before).0) (right_by t []) true
unfolding joined numbered_above reached after_item after_one after_star
sides-are s t before after = refl

-- what the kit says
abbrev breaks : (s t : ℕ) (linker pictograph half : Bool) → Bool
breaks s t linker pictograph half =
    unwrap_or (break_by_pair true (gcb_of s) (gcb_of t))
    (not (linker_after (incb_of s) linker && is_consonant (incb_of t) || is_zwj (gcb_of s) && pictograph && pict_of t
    || is_regional (gcb_of s) && not half && is_regional (gcb_of t)))

abbrev agrees : (s t : ℕ) → List Bool → Bool
agrees s t (linker ∷ (pictograph ∷ (first ∷ (later ∷ [])))) =
    same (joined numbered_above (side s linker pictograph first later) (right_by t []) true) (not (breaks s t linker pictograph (not (first || later))))
agrees s t _ = true

all_agree : for_text 20 (λ s. for_text 20 (λ t. for_flags 4 (agrees s t))) ≡ true
unfolding all_below for_flags joined numbered_above
all_agree = refl

breaks-are : (c d : ℕ) (before after : List ℕ)
    → is_grapheme_break true (c ∷ before) (d ∷ after)
    ≡ breaks (symbol c) (symbol d) (ends_in_linker (map indic_conjunct_break before)) (ends_in_pictograph before) (ends_in_half_flag before)
unfolding is_grapheme_break ends_in_half_flag
breaks-are c d before after =
    let says = symbol-says c in
    let next = symbol-says d in
    let linker = linker-cons (indic_conjunct_break c) (map indic_conjunct_break before) ∙ ap (λ v. linker_after v (ends_in_linker (map indic_conjunct_break before))) says.conjuncts in
    λ i. unwrap_or (break_by_pair true (says.breaks i) (next.breaks i))
    (not (linker i && is_consonant (next.conjuncts i) || is_zwj (says.breaks i) && ends_in_pictograph before && next.pictographs i
    || is_regional (says.breaks i) && not (ends_in_half_flag before) && is_regional (next.breaks i)))

rows-are : RowsAre (is_grapheme_break true) numbered_rules cluster_machine
unfolding plain_verdict numbered_rules numbered_below first_row
rows-are c d before after =
    let s = symbol c in
    let t = symbol d in
    let linker = ends_in_linker (map indic_conjunct_break before) in
    let pictograph = ends_in_pictograph before in
    let first = (after_pairs 512 (after_one 1 anywhere) (text before)).0 in
    let later = (after_pairs 512 (after_one 1048062 anywhere) (text before)).0 in
    let half : not (first || later) ≡ ends_in_half_flag before = not_swap _ _ (flags-are before).even in
    joined-is numbered_above (s ∷ text before) t (text after) 0
    ∙ sides-are s t (text before) (text after)
    ∙ (λ i. joined numbered_above (side s (linker-is before i) (pictograph-is before i) first later) (right_by t []) true)
    ∙ same-true _ _ (for-flags (agrees s t) (linker ∷ (pictograph ∷ (first ∷ (later ∷ []))))
    (for-text 20 (λ t. for_flags 4 (agrees s t)) t
    (for-text 20 (λ s. for_text 20 (λ t. for_flags 4 (agrees s t))) s all_agree (symbol-says c).some (symbol-says c).below) (symbol-says d).some (symbol-says d).below))
    ∙ ap (λ half. not (breaks s t linker pictograph half)) half
    ∙ ap not (sym (breaks-are c d before after))

pub rule-ends : HasEnds (is_grapheme_break true)
unfolding is_grapheme_break
rule-ends = record { start = λ after. refl; end = λ c before. refl }

at-end : cluster_rules.at_end ≡ 0
unfolding cluster_rules
at-end = refl

-- Law: the boundaries of the machine, in code points, are 0 and the ends of the kit's extended grapheme clusters
pub clusters-are : EndsAre (is_grapheme_break true) cluster_machine
clusters-are =
    ends-follow (is_grapheme_break true) cluster_rules cluster_machine rule-ends at-end
    (subst (λ rules. RowsAre (is_grapheme_break true) rules cluster_machine) (sym rules-are) rows-are) cluster-follows
