-- By the machine of UAX #14 a line must end at the end of each text.
use Rattle.std.proofs.Common.{◌≡◌, ℕ, zero, suc, ◌+◌, ◌<◌, ◌==◌, ◌⊎◌, inl, inr, Bool, true, false, nat_lt, List, [], ◌∷◌, ◌++◌, length, drop, map, refl, sym, ap, subst, ◌∙◌, arith, append-nil, length-append}
use Rattle.std.specs.Prelude.{if◌then◌else◌, ◌↔◌}
use Rattle.std.specs.List.{Contains}
use Rattle.std.proofs.lemmas.List.{drop_all, length-map}
use Rattle.seg_text.specs.declared.boundary.Boundary.{Boundary}
use Rattle.seg_text.specs.Boundaries.{IsCover, RisesTo, boundary, boundary_in}
use Rattle.seg_text.specs.Decoding.{read_utf8, utf8, utf8_items}
use Rattle.seg_text.specs.Items.{Item, Text, code_points, place_of}
use Rattle.seg_text.specs.Lemmas.Utf8Stable.{read_utf8-stable}
use Rattle.seg_machine.specs.Pick.{machine_boundaries}
use Rattle.seg_clusters.proofs.Encoded.{utf8-apart}
use Rattle.seg_clusters.proofs.SplitItems.{codes-end}
use Rattle.seg_clusters.specs.Spans.{inner_cuts}
use Rattle.seg_lines.specs.LineBreaks.{IsByPairTable, LineFinder, LineRules, boundaries_with, joined, line_boundaries_by, line_boundaries_of, with_cut}
use Rattle.seg_lines.specs.LineBreaks.LineFinder.{ByMachine}
use Rattle.seg_lines.specs.Lines.{chosen_finder}
use Rattle.seg_lines.specs.Options.{machine_for}
use Rattle.icu_segmenter.specs.declared.options.LineBreakStrictness.{LineBreakStrictness}
use Rattle.icu_segmenter.specs.declared.options.LineBreakStrictness.TheVariants as strictness
use Rattle.icu_segmenter.specs.declared.options.LineBreakWordOption.{LineBreakWordOption}
use Rattle.icu_segmenter.specs.declared.options.LineBreakWordOption.TheVariants as words
use Rattle.icu_segmenter.specs.LineRules.{style_of}
use Rattle.icu_segmenter.specs.NearBoundaries.{line_feed}
use Rattle.icu_segmenter.specs.ScriptWords.{ScriptWords}
use Rattle.icu_segmenter.specs.declared.options.LineBreakOptions.{LineBreakOptions}
use Rattle.icu_segmenter_uax14.specs.Lines.{line_machine, line_tailorings}
use Rattle.icu_segmenter_uax14.specs.Neighbours.{BreaksWith}
use Rattle.icu_segmenter_uax14.specs.Tailored.{Tailoring, machine_by}
use Rattle.icu_segmenter_uax14.specs.Tailored.Tailoring.{Untailored, BreakAll, KeepAll, JaLoose, Loose, JaNormal, Normal, Ja}
use Rattle.segment_output.specs.TextSegmenter.{line_rules_by}
use Rattle.segment_output.specs.Wrapped.{EndsLines, last_status}
use Rattle.segment_output.specs.declared.segmenter.Engine.TheVariants as engine
use Rattle.segment_output.proofs.JoinedCuts.{rises-order}

abbrev In : {X : Type 0} → List X → X → Type 0
In [] x = ⊥
In (y ∷ ys) x = (y ≡ x) ⊎ In ys x

in-to : {X : Type 0} (xs : List X) (x : X) → Contains xs x → In xs x
in-to [] x (k, below, is) = absurd (omega (arith, below))
in-to (y ∷ ys) x (zero, below, is) = inl is
in-to (y ∷ ys) x (suc k, below, is) = inr (in-to ys x (k, omega (arith, below), is))

-- of boundaries that rise to an end it is the last that is there
last-there : (from end status : ℕ) (boundaries : List Boundary) → RisesTo from boundaries end → In boundaries (boundary end status) → last_status boundaries ≡ status
unfolding last_status
last-there from end status [] rises is = absurd is
last-there from end status (found ∷ []) rises (inl is) = ap (λ (b : Boundary). b.status) is
last-there from end status (found ∷ []) rises (inr is) = absurd is
last-there from end status (found ∷ next ∷ boundaries) rises (inl is) =
    absurd (omega (arith, ap (λ (b : Boundary). b.offset) is, rises.1.0, rises-order next.offset end boundaries rises.1.1))
last-there from end status (found ∷ next ∷ boundaries) rises (inr is) = last-there found.offset end status (next ∷ boundaries) rises.1 is

cover-last : (end status : ℕ) (boundaries : List Boundary) → IsCover 0 end boundaries → 0 < end → In boundaries (boundary end status) → last_status boundaries ≡ status
unfolding last_status
cover-last end status [] cover some is = absurd cover
cover-last end status (first ∷ []) (at, rises) some is = absurd (omega (arith, rises, some))
cover-last end status (first ∷ next ∷ boundaries) (at, rises) some (inl is) = absurd (omega (arith, at, some, ap (λ (b : Boundary). b.offset) is))
cover-last end status (first ∷ next ∷ boundaries) (at, rises) some (inr is) = last-there 0 end status (next ∷ boundaries) rises is

-- breaks are found by the machine of UAX #14, by a tailoring of it or by none
abbrev IsByLineMachine : LineFinder → Type 0
IsByLineMachine finder = (tailoring : Tailoring) × (finder ≡ ByMachine (machine_by tailoring))

-- ---- cuts leave each boundary where it is

with-keeps : (cut : ℕ) (boundaries : List Boundary) (one : Boundary) → In boundaries one → In (with_cut cut boundaries) one
with-keeps cut [] one is = absurd is
with-keeps cut (found ∷ boundaries) one is = on (nat_lt cut found.offset) (cut == found.offset) is (with-keeps cut boundaries one)
  where
    on : (before here : Bool) → In (found ∷ boundaries) one → (In boundaries one → In (with_cut cut boundaries) one)
        → In (if before then boundary cut 0 ∷ found ∷ boundaries else (if here then found ∷ boundaries else found ∷ with_cut cut boundaries)) one
    on true here is later = inr is
    on false true is later = is
    on false false (inl is) later = inl is
    on false false (inr is) later = inr (later is)

joined-keeps : (boundaries : List Boundary) (cuts : List ℕ) (one : Boundary) → In boundaries one → In (joined boundaries cuts) one
joined-keeps boundaries [] one is = is
joined-keeps boundaries (cut ∷ cuts) one is = with-keeps cut (joined boundaries cuts) one (joined-keeps boundaries cuts one is)

in-map : (f : Boundary → Boundary) (boundaries : List Boundary) (one : Boundary) → In boundaries one → In (map f boundaries) (f one)
in-map f [] one is = absurd is
in-map f (found ∷ boundaries) one (inl is) = inl (ap f is)
in-map f (found ∷ boundaries) one (inr is) = inr (in-map f boundaries one is)

-- ---- the end of a text is a place behind all its code points

end-place : (items : List Item) (end count : ℕ) → count ≡ length (code_points items) → place_of (drop count items) end ≡ end
end-place items end count is =
    let all : length items ≡ count = sym (is ∙ length-map items (λ (item : Item). item.1)) in
    ap (λ (items : List Item). place_of items end) (drop_all count items (omega (arith, all)))

ends-lines : (rules : LineRules) → IsByLineMachine rules.finder
    → ((tailoring : Tailoring) (before : List ℕ) (last status : ℕ) → BreaksWith tailoring status (before ++ last ∷ []) [] ↔ (status ≡ 1)) → EndsLines rules
unfolding utf8_items lib.Utf8.encode
ends-lines rules (tailoring, is) law before cover =
    cover-last (length (before ++ line_feed)) 1 (line_boundaries_of rules (utf8 (before ++ line_feed))) cover (omega (arith, length-append before line_feed)) ended
  where
    front : (front : List ℕ) × (code_points (utf8_items 0 (before ++ line_feed)) ≡ front ++ 0x0A ∷ [])
    front = codes-end read_utf8 read_utf8-stable (0x0A ∷ []) 0x0A (utf8-apart 0x0A refl) before

    codes : List ℕ
    codes = code_points (utf8_items 0 (before ++ line_feed))

    by-machine : In (machine_boundaries (machine_by tailoring) codes) (boundary (length codes) 1)
    by-machine =
        rw front.1
        (subst (λ (cs : List ℕ). In (machine_boundaries (machine_by tailoring) cs) (boundary (length (front.0 ++ 0x0A ∷ [])) 1)) (append-nil (front.0 ++ 0x0A ∷ []))
        (in-to (machine_boundaries (machine_by tailoring) ((front.0 ++ 0x0A ∷ []) ++ [])) (boundary (length (front.0 ++ 0x0A ∷ [])) 1) ((law tailoring front.0 0x0A 1).1 refl)))

    by-rules : In (line_boundaries_by rules codes) (boundary (length codes) 1)
    by-rules =
        subst (λ (finder : LineFinder). In (boundaries_with finder rules.payloads codes) (boundary (length codes) 1)) (sym is)
        (joined-keeps (machine_boundaries (machine_by tailoring) codes) (inner_cuts (machine_by tailoring) rules.payloads codes) (boundary (length codes) 1) by-machine)

    text : Text
    text = utf8 (before ++ line_feed)

    here : boundary_in text (boundary (length codes) 1) ≡ boundary (length (before ++ line_feed)) 1
    here =
        let end : 0 + length (before ++ line_feed) ≡ length (before ++ line_feed) = omega arith in
        ap (λ (place : ℕ). boundary place 1) (end-place (utf8_items 0 (before ++ line_feed)) (0 + length (before ++ line_feed)) (length codes) refl ∙ end)

    ended : In (map (boundary_in text) (line_boundaries_by rules codes)) (boundary (length (before ++ line_feed)) 1)
    ended = subst (In (map (boundary_in text) (line_boundaries_by rules codes))) here (in-map (boundary_in text) (line_boundaries_by rules codes) (boundary (length codes) 1) by-rules)

-- ---- options choose the machine or a tailoring of it, unless lines may break anywhere

chosen : (word_option : LineBreakWordOption) (how : LineBreakStrictness) (is_ja_or_zh : Bool) → (how ≡ strictness.Anywhere → ⊥)
    → IsByLineMachine (chosen_finder line_machine line_tailorings (machine_for word_option how is_ja_or_zh))
unfolding line_tailorings
chosen words.BreakAll how is_ja_or_zh by_rules = (BreakAll, refl)
chosen words.KeepAll how is_ja_or_zh by_rules = (KeepAll, refl)
chosen words.Normal strictness.Anywhere is_ja_or_zh by_rules = absurd (by_rules refl)
chosen words.Normal strictness.Loose true by_rules = (JaLoose, refl)
chosen words.Normal strictness.Loose false by_rules = (Loose, refl)
chosen words.Normal strictness.Normal true by_rules = (JaNormal, refl)
chosen words.Normal strictness.Normal false by_rules = (Normal, refl)
chosen words.Normal strictness.Strict true by_rules = (Ja, refl)
chosen words.Normal strictness.Strict false by_rules = (Untailored, refl)

unpaired : (word_option : LineBreakWordOption) (how : LineBreakStrictness) (is_ja_or_zh : Bool)
    → IsByPairTable (chosen_finder line_machine line_tailorings (machine_for word_option how is_ja_or_zh)) → ⊥
unpaired words.BreakAll how is_ja_or_zh paired = paired
unpaired words.KeepAll how is_ja_or_zh paired = paired
unpaired words.Normal strictness.Anywhere is_ja_or_zh paired = paired
unpaired words.Normal strictness.Loose true paired = paired
unpaired words.Normal strictness.Loose false paired = paired
unpaired words.Normal strictness.Normal true paired = paired
unpaired words.Normal strictness.Normal false paired = paired
unpaired words.Normal strictness.Strict true paired = paired
unpaired words.Normal strictness.Strict false paired = paired

pub not-paired : (options : LineBreakOptions) (words : ScriptWords) (rules : LineRules) → rules ≡ line_rules_by engine.Neo options words → IsByPairTable rules.finder → ⊥
not-paired options words rules is paired =
    unpaired (style_of options).word_option (style_of options).strictness (style_of options).is_ja_or_zh (subst (λ (rules : LineRules). IsByPairTable rules.finder) is paired)

-- so lines by the machine end there with any options but those
pub chosen-ends : (options : LineBreakOptions) (words : ScriptWords) (rules : LineRules) → rules ≡ line_rules_by engine.Neo options words
    → ((style_of options).strictness ≡ strictness.Anywhere → ⊥)
    → ((tailoring : Tailoring) (before : List ℕ) (last status : ℕ) → BreaksWith tailoring status (before ++ last ∷ []) [] ↔ (status ≡ 1)) → EndsLines rules
chosen-ends options words rules is by_rules law =
    ends-lines rules
    (subst (λ (rules : LineRules). IsByLineMachine rules.finder) (sym is) (chosen (style_of options).word_option (style_of options).strictness (style_of options).is_ja_or_zh by_rules))
    law
