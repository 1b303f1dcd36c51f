-- Runs of scripts that have words, and what stands between them.
use Rattle.std.proofs.Common.{◌≡◌, ℕ, zero, suc, ◌+◌, ◌-◌, ◌<◌, ◌≤◌, ◌==◌, Bool, true, false, List, [], ◌∷◌, ◌++◌, length, map, refl, sym, ap, ◌∙◌, arith}
use Rattle.std.specs.Prelude.{Option, None, Some, IsTrue, ◌↔◌}
use Rattle.std.specs.List.{prefix_len}
use Rattle.std.proofs.lemmas.List.{length-drop, length-map}
use Rattle.seg_text.specs.Items.{IsRising, Item, Text, code_points, prefix_length, rest_after, start_of, text_before}
use Rattle.seg_text.specs.Boundaries.{cut_places}
use Rattle.seg_text.proofs.Covers.{place-between}
use Rattle.seg_data.specs.declared.provider.ComplexScript.{ComplexScript}
use Rattle.seg_data.specs.declared.provider.ComplexScript.TheVariants as scripts
use Rattle.seg_data.specs.declared.provider.dictionary.cursor.DictionaryCursor.{DictionaryCursor}
use Rattle.seg_data.specs.ScriptWords.{ScriptWords, words_after, words_in}
use Rattle.seg_data.specs.WordSets.{Words}
use Rattle.seg_machine.specs.Machine.{Machine, symbol_and_script}
use Rattle.seg_machine.proofs.Scanned.{after-after}
use Rattle.seg_rows.specs.Underway.{HasPassed, IsLater}
use Rattle.seg_clusters.specs.DictionaryCuts.{dictionary_cuts}
use Rattle.seg_clusters.specs.Payloads.{Payloads, piece_cuts_by}
use Rattle.seg_clusters.specs.Rules.{boundaries_by}
use Rattle.seg_clusters.specs.Scripts.{CoverPieces, script_number}
use Rattle.seg_clusters.specs.Spans.{but_the_last, has_worded_script, inner_cuts, is_between, span_cuts, span_length, span_words, worded_script, AreBeyond, GivesSpan, IsOutsideRuns}
use Rattle.seg_clusters.proofs.InnerCuts.{inner-at, inner-next, inner-nil}
use Rattle.seg_clusters.proofs.InnerRange.{AreBetween, inner-between}
use Rattle.seg_clusters.proofs.SpanStretches.{span-some}

number-is : (script : ComplexScript) (found : Bool) → (IsTrue found ↔ (script ≡ scripts.None)) → found ≡ (script_number script == script_number scripts.None)
number-is scripts.None found is = is.1 refl
number-is scripts.Myanmar true is = cc (is.0 refl)
number-is scripts.Myanmar false is = refl
number-is scripts.ChineseOrJapanese true is = cc (is.0 refl)
number-is scripts.ChineseOrJapanese false is = refl
number-is scripts.Khmer true is = cc (is.0 refl)
number-is scripts.Khmer false is = refl
number-is scripts.Lao true is = cc (is.0 refl)
number-is scripts.Lao false is = refl
number-is scripts.Thai true is = cc (is.0 refl)
number-is scripts.Thai false is = refl

-- a code point stands in no run, so it stands between them
pub between-is : (m : Machine) (words : ScriptWords) (code_point : ℕ) (found : Bool) → (IsTrue found ↔ IsOutsideRuns m words code_point) → found ≡ is_between m words code_point
between-is m words code_point found is = number-is (worded_script m words code_point) found is

-- what is left later is left of what was left before
pub later-later : (text some left : Text) → IsLater text some → IsLater some left → IsLater text left
later-later text some left (count, here) (more, there) = (count + more, there ∙ ap (rest_after more) here ∙ after-after more count text)

-- behind a span some of the text is left
pub span-later : {I : Type 0} (m : Machine) (words : ScriptWords) (text : I → Text) (before after : Text) (span : I × Option DictionaryCursor)
    → GivesSpan m words text before (Some span) after → IsLater before after
span-later m words text before after span gives = (span_length m words (code_points before.items), gives.3)

module _ (m : Machine) (payloads : Payloads) where
  pub unworded : (first : ℕ) → words_in payloads.words (symbol_and_script m first).1 ≡ None → worded_script m payloads.words first ≡ scripts.None
  unworded first none = rw none refl

  pub worded : (first : ℕ) (words : Words) → words_in payloads.words (symbol_and_script m first).1 ≡ Some words → worded_script m payloads.words first ≡ (symbol_and_script m first).1
  worded first words some = rw some refl

  between-script : (script : ComplexScript) → (script_number script == script_number scripts.None) ≡ true → script ≡ scripts.None
  between-script scripts.None is = refl
  between-script scripts.Myanmar is = cc (is)
  between-script scripts.ChineseOrJapanese is = cc (is)
  between-script scripts.Khmer is = cc (is)
  between-script scripts.Lao is = cc (is)
  between-script scripts.Thai is = cc (is)

  one-more : (passes : ℕ → Bool) (first : ℕ) (rest : List ℕ) → passes first ≡ true → prefix_len passes (first ∷ rest) ≡ suc (prefix_len passes rest)
  one-more passes first rest pass = let same : 1 + prefix_len passes rest ≡ suc (prefix_len passes rest) = omega arith in rw pass same

  no-more : (passes : ℕ → Bool) (first : ℕ) (rest : List ℕ) → passes first ≡ false → prefix_len passes (first ∷ rest) ≡ 0
  no-more passes first rest stop = rw stop refl

  module _ (cover : CoverPieces (piece_cuts_by payloads)) where
    abbrev inside : Text → List ℕ
    inside text = cut_places (inner_cuts m payloads) text

    -- what stands between runs has no cuts
    piece-none : (item : Item) (items : List Item) (end : ℕ) → worded_script m payloads.words item.1 ≡ scripts.None
        → let text : Text = record { items = item ∷ items; end = end } in
        inside text ≡ inside (rest_after (prefix_length (is_between m payloads.words) text) text)
    piece-none item items end script =
        let text : Text = record { items = item ∷ items; end = end } in
        let clusters = boundaries_by payloads.clusters in
        let count = span_length m payloads.words (code_points text.items) in
        let same : count ≡ prefix_length (is_between m payloads.words) text =
        ap (λ (script : ComplexScript). prefix_len (has_worded_script m payloads.words script) (item.1 ∷ code_points items)) script in
        let wordless : span_words m payloads.words (code_points text.items) ≡ None = ap (words_in payloads.words) script in
        inner-at m payloads cover (item ∷ items) end (span-some m payloads.words item.1 (code_points items))
        ∙ ap (λ (words : Option Words). but_the_last (cut_places (span_cuts clusters words) (text_before count text)) ++ inside (rest_after count text)) wordless
        ∙ ap (λ (count : ℕ). inside (rest_after count text)) same

    between-by : (item : Item) (items : List Item) (end : ℕ) (b : Bool) → is_between m payloads.words item.1 ≡ b
        → let text : Text = record { items = item ∷ items; end = end } in
        inside text ≡ inside (rest_after (prefix_length (is_between m payloads.words) text) text)
    between-by item items end true pass = piece-none item items end (between-script (worded_script m payloads.words item.1) pass)
    between-by item items end false stop = rw (no-more (is_between m payloads.words) item.1 (code_points items) stop) refl

    between-none : (items : List Item) (end : ℕ) → let text : Text = record { items = items; end = end } in
        inside text ≡ inside (rest_after (prefix_length (is_between m payloads.words) text) text)
    between-none [] end = refl
    between-none (item ∷ items) end = between-by item items end (is_between m payloads.words item.1) refl

    -- an item between runs is gone over
    over-item : (item : Item) (items : List Item) (end : ℕ) → words_in payloads.words (symbol_and_script m item.1).1 ≡ None
        → let text : Text = record { items = item ∷ items; end = end } in let rest : Text = record { items = items; end = end } in inside text ≡ inside rest
    over-item item items end none =
        let script = unworded item.1 none in
        let pass : is_between m payloads.words item.1 ≡ true = rw script refl in
        let more = one-more (is_between m payloads.words) item.1 (code_points items) pass in
        let text : Text = record { items = item ∷ items; end = end } in
        piece-none item items end script
        ∙ ap (λ (count : ℕ). inside (rest_after count text)) more
        ∙ sym (between-none items end)

    pub over-next : (before after : Text) (item : Item) → before.items ≡ item ∷ after.items → after.end ≡ before.end
        → words_in payloads.words (symbol_and_script m item.1).1 ≡ None → inside before ≡ inside after
    over-next before after item is end none =
        ap inside (same before after item is end) ∙ over-item item after.items after.end none
      where
        same : (before after : Text) (item : Item) → before.items ≡ item ∷ after.items → after.end ≡ before.end → before ≡ record { items = item ∷ after.items; end = after.end }
        same before after item is end = rw (← is, ← end) refl

    -- so are many, all between runs
    over-items : (items : List Item) (end count : ℕ) → count ≤ prefix_len (is_between m payloads.words) (code_points items)
        → inside (record { items = items; end = end }) ≡ inside (rest_after count (record { items = items; end = end }))
    over-items items end zero few = refl
    over-items [] end (suc count) few = absurd (omega (arith, few))
    over-items (item ∷ items) end (suc count) few = by (is_between m payloads.words item.1) refl (λ within. over-items items end count within)
      where
        passes : ℕ → Bool
        passes = is_between m payloads.words

        by : (b : Bool) → passes item.1 ≡ b
            → (count ≤ prefix_len passes (code_points items) → inside (record { items = items; end = end }) ≡ inside (rest_after count (record { items = items; end = end })))
            → inside (record { items = item ∷ items; end = end }) ≡ inside (rest_after (suc count) (record { items = item ∷ items; end = end }))
        by true pass later =
            let script = between-script (worded_script m payloads.words item.1) pass in
            let more = one-more passes item.1 (code_points items) pass in
            piece-none item items end script
            ∙ ap (λ (n : ℕ). inside (rest_after n (record { items = item ∷ items; end = end }))) more
            ∙ sym (between-none items end)
            ∙ later (omega (arith, few, more))
        by false stop later = absurd (omega (arith, few, no-more passes item.1 (code_points items) stop))

    pub over-passed : (before after : Text) → HasPassed (is_between m payloads.words) before after → inside before ≡ inside after
    over-passed before after (count, few, is) = over-items before.items before.end count few ∙ ap inside (sym is)

    -- no cut stands at the start of a text
    above-start : (text : Text) (cuts : List ℕ) → IsRising text.items text.end → AreBetween 0 cuts (length text.items)
        → (limit : ℕ) → limit ≤ start_of text → AreBeyond (Some limit) (map (λ (cut : ℕ). start_of (rest_after cut text)) cuts)
    above-start text [] rising between limit below = tt
    above-start text (cut ∷ cuts) rising between limit below =
        let lower = place-between text.items text.end 0 cut rising between.0 (omega (arith, between.1)) in omega (arith, lower, below)

    pub beyond : (text : Text) (limit : ℕ) → IsRising text.items text.end → limit ≤ start_of text → AreBeyond (Some limit) (inside text)
    beyond text limit rising below =
        let many : length (code_points text.items) ≡ length text.items = length-map text.items (λ (item : Item). item.1) in
        above-start text (inner_cuts m payloads (code_points text.items)) rising (rw many at (inner-between m payloads cover (code_points text.items))) limit below

    pub beyond-all : (text : Text) (last : Option ℕ) → text.items ≡ [] → AreBeyond last (inside text)
    beyond-all text last none = by last (ap (λ (items : List Item). inside (record { items = items; end = text.end })) none ∙ inner-nil m payloads cover text.end)
      where
        by : (last : Option ℕ) → inside text ≡ [] → AreBeyond last (inside text)
        by None is = is
        by (Some limit) is = rw is tt

    -- a run was given
    pub run-given : {I : Type 0} (text : I → Text) (before after : Text) (span : I × Option DictionaryCursor) (words : DictionaryCursor) (item : Item) (items : List Item)
        → GivesSpan m payloads.words text before (Some span) after → before.items ≡ item ∷ items
        → words_in payloads.words (symbol_and_script m item.1).1 ≡ Some (words_after words)
        → (length after.items < length before.items)
        × (inside before ≡ but_the_last (cut_places (dictionary_cuts (words_after words) (boundaries_by payloads.clusters)) (text span.0)) ++ inside after)
    run-given text before after span words item items gives is some =
        let clusters = boundaries_by payloads.clusters in
        let count = span_length m payloads.words (code_points before.items) in
        let has : span_words m payloads.words (code_points before.items) ≡ Some (words_after words) =
        rw is (ap (words_in payloads.words) (worded item.1 (words_after words) some) ∙ some) in
        let left : length after.items ≡ length before.items - count = rw gives.3 (length-drop count before.items) in
        let full : length before.items ≡ suc (length items) = rw is refl in (
          omega (arith, gives.0, left, full),
          inner-next m payloads cover text before after span gives
              ∙ ap (λ (found : Option Words). but_the_last (cut_places (span_cuts clusters found) (text span.0)) ++ inside after) (gives.2 ∙ has),
        )
