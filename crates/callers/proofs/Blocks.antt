-- The segments of a text are as many as those of its first block and those of what comes after.
use Rattle.std.proofs.Common.{◌≡◌, ℕ, suc, ◌+◌, ◌-◌, ◌%◌, ◌^◌, ◌<◌, ◌⊎◌, inl, inr, List, [], ◌∷◌, ◌++◌, length, take, drop, refl, sym, ap, ap₂, ◌∙◌, arith, length-append}
use Rattle.std.specs.Char.{encode_utf8}
use Rattle.std.proofs.lemmas.List.{drop_all, length-drop, length-map, take_all, take-append-drop}
use Rattle.std.proofs.str.Laws.{one}
use Rattle.icu_segmenter.specs.Boundary.{Boundary}
use Rattle.icu_segmenter.specs.Boundaries.{shift, shift_all, later_boundaries, later_boundaries_within}
use Rattle.icu_segmenter.specs.Rules.{PartsTexts, Rules, boundaries_by, boundaries_of}
use Rattle.icu_segmenter.specs.Items.{first_items, items_by}
use Rattle.icu_segmenter.specs.TextSegments.{Segment, marked, nothing, segments_from, segments_of, units_of}
use Rattle.icu_segmenter.specs.Decoding.{utf8, utf8_items}
use Rattle.callers.specs.Blocks.{IsBlock}

-- as many as there are places where they end
segments-at : {M : Type 0} (units : List ℕ) (from : ℕ) (breaks : List (ℕ × M)) → length (segments_from units from breaks) ≡ length breaks
unfolding segments_from
segments-at units from [] = refl
segments-at units from (to ∷ breaks) = ap suc (segments-at units to.0 breaks)

-- sums

joined-count : (whole first later rest w f r : ℕ) → whole ≡ first + later → later ≡ rest - 1 → w ≡ whole - 1 → f ≡ first - 1 → r ≡ rest - 1 → 0 < first
    → w ≡ f + r
joined-count whole first later rest w f r a b c d e some = omega arith

both-counts : (whole first rest : ℕ) → first ≡ whole → rest ≡ 0 → whole ≡ first + rest
both-counts whole first rest a b = omega arith

last-count : (count rest text : ℕ) → count < 2 ^ 64 → rest ≡ 0 → (count + rest) % 2 ^ 64 ≡ text % 2 ^ 64 → count ≡ text % 2 ^ 64
last-count count rest text fits none so_far = omega arith

pub one-more : (count block after rest text : ℕ) → rest ≡ block + after → (count + rest) % 2 ^ 64 ≡ text % 2 ^ 64
    → ((count + block) % 2 ^ 64 + after) % 2 ^ 64 ≡ text % 2 ^ 64
one-more count block after rest text sum so_far = omega arith

module _ (rules : Rules) where
  abbrev find : List ℕ → List Boundary
  find bytes = boundaries_of rules (utf8 bytes)

  abbrev pub segment_count : List ℕ → ℕ
  segment_count bytes = length (units_of (segments_of nothing bytes (find bytes)))

  counted : (bytes : List ℕ) → segment_count bytes ≡ length (find bytes) - 1
  counted bytes =
      let breaks : List (ℕ × Unit {0}) = marked nothing (find bytes) in
      let all : length breaks ≡ length (find bytes) = length-map {B = ℕ × Unit {0}} (find bytes) (λ (found : Boundary). (found.offset, nothing found.status)) in
      length-map (segments_of nothing bytes (find bytes)) (λ (segment : Segment (Unit {0})). segment.units) ∙ segments-at bytes 0 (drop 1 breaks) ∙ length-drop 1 breaks ∙ ap (λ n. n - 1) all

  none-count : segment_count [] ≡ 0
  unfolding utf8_items items_by first_items later_boundaries later_boundaries_within segments_from
  none-count = refl

  some-boundary : (bytes : List ℕ) → 0 < length (find bytes)
  some-boundary bytes = omega arith

  block-count : PartsTexts (boundaries_by rules) 0x0A → (bytes : List ℕ) (n : ℕ) → IsBlock bytes n
      → segment_count bytes ≡ segment_count (take n bytes) + segment_count (drop n bytes)
  block-count parts bytes n block = on block.ends
    where
      on : (n ≡ length bytes) ⊎ ((before : List ℕ) × (take n bytes ≡ before ++ 0x0A ∷ [])) → segment_count bytes ≡ segment_count (take n bytes) + segment_count (drop n bytes)
      on (inl all) =
          let first : take n bytes ≡ bytes = take_all n bytes (omega (arith, all)) in
          let rest : drop n bytes ≡ [] = drop_all n bytes (omega (arith, all)) in
          both-counts (segment_count bytes) (segment_count (take n bytes)) (segment_count (drop n bytes)) (ap segment_count first) (ap segment_count rest ∙ none-count)
      on (inr (before, is)) =
          let rest : List ℕ = drop n bytes in
          let first : List ℕ = take n bytes in
          let front : before ++ encode_utf8 0x0A ≡ first = ap (λ last. before ++ last) (one 0x0A (omega arith)) ∙ sym is in
          let whole : find bytes ≡ find first ++ shift_all (length first) (drop 1 (find rest)) =
          ap find (sym (take-append-drop n bytes))
          ∙ ap (λ first. find (first ++ rest)) (sym front) ∙ parts.in_utf8 before rest
          ∙ ap (λ first. find first ++ shift_all (length first) (drop 1 (find rest))) front in
          joined-count (length (find bytes)) (length (find first)) (length (shift_all (length first) (drop 1 (find rest)))) (length (find rest))
          (segment_count bytes) (segment_count first) (segment_count rest)
          (ap length whole ∙ length-append (find first) (shift_all (length first) (drop 1 (find rest))))
          (length-map (drop 1 (find rest)) (shift (length first)) ∙ length-drop 1 (find rest))
          (counted bytes) (counted first) (counted rest) (some-boundary first)

  -- the rest has as many segments as its first block and what comes after it have together
  pub rest-count : PartsTexts (boundaries_by rules) 0x0A → (bytes block after : List ℕ) (n count : ℕ) → IsBlock bytes n → block ≡ take n bytes → after ≡ drop n bytes
      → count ≡ segment_count block → segment_count bytes ≡ count + segment_count after
  rest-count parts bytes block after n count is front back counts =
      block-count parts bytes n is
      ∙ ap₂ (λ (some others : ℕ). some + others) (sym (counts ∙ ap segment_count front)) (ap segment_count (sym back))

  -- nothing is left
  pub all-counted : (rest : List ℕ) (count text : ℕ) → count < 2 ^ 64 → rest ≡ [] → (count + segment_count rest) % 2 ^ 64 ≡ text % 2 ^ 64 → count ≡ text % 2 ^ 64
  all-counted rest count text fits none so_far = last-count count (segment_count rest) text fits (ap segment_count none ∙ none-count) so_far
