-- Spans of a text by a machine: they take something, and their boundaries cover them.
use Rattle.std.proofs.Common.{◌≡◌, ℕ, zero, suc, ◌-◌, ◌<◌, ◌≤◌, Bool, true, false, List, [], ◌∷◌, ◌++◌, length, map, take, drop, slice_index, refl, sym, ap, subst, ◌∙◌, arith, append-nil}
use Rattle.std.specs.Prelude.{Option, None, Some}
use Rattle.std.proofs.lemmas.List.{drop_all, length-drop, length-map, take-map, take_all}
use Rattle.seg_text.specs.declared.boundary.Boundary.{Boundary}
use Rattle.seg_text.specs.Items.{Item, Text, start_of, rest_after, text_before, code_points, IsRising}
use Rattle.seg_text.specs.Boundaries.{IsCover, RisesTo, boundary, boundary_in, boundaries_in, offsets, shift_all, start, with_status, Stretch, HasProgress, IsWithin, later_boundaries, list_boundaries}
use Rattle.seg_text.proofs.Covers.{covers, covers-list}
use Rattle.seg_text.proofs.Places.{place-before}
use Rattle.seg_text.proofs.Stretches.{later-nil, later-next, text-later-nil}
use Rattle.seg_data.specs.declared.provider.ComplexScript.{ComplexScript}
use Rattle.seg_data.specs.ScriptWords.{ScriptWords, no_words, words_in}
use Rattle.seg_data.specs.WordSets.{Words}
use Rattle.seg_clusters.specs.Rules.{Rules, boundaries_by}
use Rattle.seg_machine.specs.MachineFaults.{IsChecked}
use Rattle.seg_machine.specs.Machine.{Machine}
use Rattle.seg_machine.specs.Pick.{machine_stretch}
use Rattle.seg_machine.proofs.Segmentations.{machine-within}
use Rattle.seg_clusters.specs.DictionaryCuts.{Clusters, by_words}
use Rattle.seg_clusters.specs.Payloads.{Payloads, piece_cuts_by}
use Rattle.seg_clusters.specs.Scripts.{CoverPieces}
use Rattle.seg_clusters.specs.Spans.{span_length, span_words, worded_script}
use Rattle.seg_clusters.proofs.Cutting.{length-taken}
use Rattle.seg_clusters.proofs.SpanStretches.{AreInside, span-at, span-inside, span-some}
use Rattle.seg_clusters.proofs.UnwordedSpans.{whole-span, whole-words}
use Rattle.seg_words.specs.WordRules.{letters, span_boundaries, span_stretch}
use Rattle.seg_words.specs.WordsLeft.{after_span, last_of, span_left, IsFirstSpan}
use Rattle.seg_words.specs.declared.span.Span.{Span}

-- only offsets rise
other-status : (status : ℕ) (cuts : List ℕ) (from end : ℕ) → RisesTo from (with_status 0 cuts) end → RisesTo from (with_status status cuts) end
other-status status [] from end rises = rises
other-status status (cut ∷ cuts) from end rises = (rises.0, other-status status cuts cut end rises.1)

-- so they stay in it
rises-in : (boundaries : List Boundary) (from end : ℕ) → RisesTo from boundaries end → (from ≤ end) × AreInside end boundaries
rises-in [] from end rises = (omega (arith, rises), tt)
rises-in (boundary ∷ boundaries) from end rises =
    let later = rises-in boundaries boundary.offset end rises.1 in
    (omega (arith, rises.0, later.0), (later.0, later.1))

pub spans-going : (m : Machine) (payloads : Payloads) → HasProgress (span_stretch m payloads)
spans-going m payloads first rest = span-some m payloads.words first rest

module _ (m : Machine) (payloads : Payloads) (checked : IsChecked m) (cover : CoverPieces (piece_cuts_by payloads)) where
  abbrev clusters : Clusters
  clusters = boundaries_by payloads.clusters

  alone-rises : (found : Option Words) (script : ComplexScript) (first : ℕ) (rest : List ℕ)
      → RisesTo 0 (with_status 0 (by_words found clusters script (first ∷ rest))) (length (first ∷ rest))
      → RisesTo 0 (span_boundaries m clusters found (first ∷ rest)) (length (first ∷ rest))
  alone-rises None script first rest rises = (covers-list (machine_stretch m) (machine-within m checked) (first ∷ rest)).1
  alone-rises (Some words) script first rest rises = other-status letters _ 0 _ rises

  pub taken-rises : (script : ComplexScript) (n first : ℕ) (rest : List ℕ) → 0 < n → n ≤ length (first ∷ rest)
      → RisesTo 0 (span_boundaries m clusters (words_in payloads.words script) (take n (first ∷ rest))) n
  taken-rises script zero first rest some inside = absurd (omega arith)
  taken-rises script (suc n) first rest some inside =
      rw (length-taken n rest (omega (arith, inside)))
      at (alone-rises (words_in payloads.words script) script first (take n rest) (cover script first (take n rest)))

  span-rises : (first : ℕ) (rest : List ℕ)
      → RisesTo 0 (span_stretch m payloads (first ∷ rest)).boundaries (span_length m payloads.words (first ∷ rest))
  span-rises first rest =
      taken-rises (worded_script m payloads.words first) (span_length m payloads.words (first ∷ rest)) first rest
      (span-some m payloads.words first rest) (span-inside m payloads.words (first ∷ rest))

  pub spans-within : (first : ℕ) (rest : List ℕ) → IsWithin (length (first ∷ rest)) (span_stretch m payloads (first ∷ rest))
  spans-within first rest =
      let rises = span-rises first rest in
      record {
        some = span-some m payloads.words first rest;
        within = span-inside m payloads.words (first ∷ rest);
        rises = (span_length m payloads.words (first ∷ rest), omega arith, rises);
        last = λ all. rises;
      }

  pub spans-cover : (text : Text) → IsRising text.items text.end → IsCover (start_of text) text.end (boundaries_in (list_boundaries (span_stretch m payloads)) text)
  spans-cover text rising = covers (span_stretch m payloads) spans-within text rising

  fits : (first : ℕ) (rest : List ℕ) → AreInside (span_length m payloads.words (first ∷ rest)) (span_stretch m payloads (first ∷ rest)).boundaries
  fits first rest = (rises-in (span_stretch m payloads (first ∷ rest)).boundaries 0 (span_length m payloads.words (first ∷ rest)) (span-rises first rest)).1

  abbrev later_in : Text → List Boundary
  later_in text = boundaries_in (later_boundaries (span_stretch m payloads)) text

  -- ---- a text whose first span has begun, or not

  abbrev after : Bool → Text → Text
  after begun text = after_span m payloads.words begun text

  -- it is what is left after some items
  pub after-is : (begun : Bool) (text : Text) → (count : ℕ) × (after begun text ≡ rest_after count text)
  after-is true text = (span_length m payloads.words (code_points text.items), refl)
  after-is false text = (0, refl)

  none-after : (begun : Bool) (text : Text) → text.items ≡ [] → after begun text ≡ text
  none-after true text none = rw none refl
  none-after false text none = refl

  -- the last boundary of its first span is at such a place
  pub gone-to : (begun : Bool) (text : Text) (place : ℕ) (none : List Boundary) → none ≡ [] → last_of place none ≡ start_of (after begun text)
      → (count : ℕ) × (place ≡ start_of (rest_after count text))
  gone-to begun text place none nothing last =
      let (count, is) = after-is begun text in
      let at : place ≡ start_of (after begun text) = (rw nothing at last) in
      (count, at ∙ ap start_of is)

  -- a text is gone on to the place of the last boundary of its first span
  pub gone-on : (begun : Bool) (text gone : Text) (place : ℕ) (none : List Boundary) → none ≡ [] → last_of place none ≡ start_of (after begun text)
      → ((count : ℕ) → place ≡ start_of (rest_after count text) → gone ≡ rest_after count text) → gone ≡ after begun text
  gone-on begun text gone place none nothing last seek =
      let (count, is) = after-is begun text in
      let at : place ≡ start_of (after begun text) = (rw nothing at last) in
      seek count (at ∙ ap start_of is) ∙ sym is

  -- the next span begins there, with its boundaries
  pub first-next : {I : Type 0} (text : Text) (span : Span I) (none left : List Boundary) → IsFirstSpan m payloads text span
      → none ≡ [] → none ++ later_in text ≡ left → span_left span ++ later_in (after true text) ≡ left
  first-next text span none left first nothing is =
      let n = span_length m payloads.words (code_points text.items) in
      ap (λ (found : List Boundary). found ++ later_in (rest_after n text)) first.1
      ∙ sym (span-at m payloads.words (span_boundaries m clusters) fits text.items text.end first.0)
      ∙ ap (λ (some : List Boundary). some ++ later_in text) (sym nothing)
      ∙ is

  -- .. of which the last is at its end
  last-in : (text : Text) (from n : ℕ) (boundaries : List Boundary) → RisesTo from boundaries n
      → last_of (start_of (rest_after from text)) (map (boundary_in text) boundaries) ≡ start_of (rest_after n text)
  last-in text from n [] rises = ap (λ (count : ℕ). start_of (rest_after count text)) rises
  last-in text from n (boundary ∷ boundaries) rises = last-in text boundary.offset n boundaries rises.1

  last-of-some : (text : Text) (before n : ℕ) (boundaries : List Boundary) → 0 < n → RisesTo 0 boundaries n
      → last_of before (map (boundary_in text) boundaries) ≡ start_of (rest_after n text)
  last-of-some text before n [] some rises = absurd (omega (arith, some, rises))
  last-of-some text before n (boundary ∷ boundaries) some rises = last-in text boundary.offset n boundaries rises.1

  rises-at : (items : List Item) → 0 < span_length m payloads.words (code_points items)
      → let n = span_length m payloads.words (code_points items) in RisesTo 0 (span_boundaries m clusters (span_words m payloads.words (code_points items)) (code_points (take n items))) n
  rises-at [] some = absurd (omega (arith, some))
  rises-at (item ∷ items) some =
      let n = span_length m payloads.words (code_points (item ∷ items)) in
      subst (λ (span : List ℕ). RisesTo 0 (span_boundaries m clusters (span_words m payloads.words (code_points (item ∷ items))) span) n)
      (take-map (λ (item : Item). item.1) n (item ∷ items)) (span-rises item.1 (code_points items))

  pub first-last : {I : Type 0} (text : Text) (span : Span I) (before : ℕ) → IsFirstSpan m payloads text span
      → last_of before (span_left span) ≡ start_of (after true text)
  first-last text span before first =
      let n = span_length m payloads.words (code_points text.items) in
      ap (last_of before) first.1
      ∙ last-of-some (text_before n text) before n _ first.0 (rises-at text.items first.0)
      ∙ place-before text.items text.end n n (omega arith)

  -- less is left after it
  pub first-less : {I : Type 0} (text : Text) (span : Span I) → IsFirstSpan m payloads text span → length (after true text).items < length text.items
  first-less text span first =
      let n = span_length m payloads.words (code_points text.items) in
      let many : length (code_points text.items) ≡ length text.items = length-map text.items (λ (item : Item). item.1) in
      let left : length (drop n text.items) ≡ length text.items - n = length-drop n text.items in
      omega (arith, first.0, span-inside m payloads.words (code_points text.items), many, left)

  -- nothing was left
  pub end-left : (begun : Bool) (text : Text) (none still left : List Boundary) → text.items ≡ [] → none ≡ [] → still ≡ []
      → none ++ later_in text ≡ left → (left ≡ []) × (still ++ later_in (after begun text) ≡ [])
  end-left begun text none still left empty nothing ended is =
      let end : later_in text ≡ [] =
      ap (λ (items : List Item). later_in (record { items = items; end = text.end })) empty ∙ text-later-nil (span_stretch m payloads) text.end in (
        sym is ∙ ap (λ (some : List Boundary). some ++ later_in text) nothing ∙ end,
        ap (λ (some : List Boundary). some ++ later_in (after begun text)) ended ∙ ap later_in (none-after begun text empty) ∙ end,
      )

-- cuts as boundaries, at their places
pub cut-boundaries : (status : ℕ) (text : Text) (cuts : List ℕ)
    → with_status status (map (λ (cut : ℕ). start_of (rest_after cut text)) cuts) ≡ map (boundary_in text) (with_status status cuts)
cut-boundaries status text [] = refl
cut-boundaries status text (cut ∷ cuts) =
    ap (λ (rest : List Boundary). boundary_in text (boundary cut status) ∷ rest) (cut-boundaries status text cuts)

-- without words of any script the first span is the whole
whole-stretch : (m : Machine) (clusters : Rules) (first : ℕ) (rest : List ℕ)
    → span_stretch m (record { words = no_words; clusters = clusters }) (first ∷ rest)
    ≡ record { extent = length (first ∷ rest); boundaries = later_boundaries (machine_stretch m) (first ∷ rest) }
whole-stretch m clusters first rest =
    rw (whole-words m first rest, whole-span m first rest, take_all (length (first ∷ rest)) (first ∷ rest) (omega arith)) refl

whole-later : (m : Machine) (clusters : Rules) (code_points : List ℕ)
    → later_boundaries (span_stretch m (record { words = no_words; clusters = clusters })) code_points ≡ later_boundaries (machine_stretch m) code_points
whole-later m clusters [] =
    later-nil (span_stretch m (record { words = no_words; clusters = clusters })) ∙ sym (later-nil (machine_stretch m))
whole-later m clusters (first ∷ rest) =
    let spans = span_stretch m (record { words = no_words; clusters = clusters }) in
    later-next spans (spans-going m (record { words = no_words; clusters = clusters })) first rest
    ∙ ap (λ (stretch : Stretch). stretch.boundaries ++ shift_all stretch.extent (later_boundaries spans (drop stretch.extent (first ∷ rest)))) (whole-stretch m clusters first rest)
    ∙ ap (λ (left : List ℕ). later_boundaries (machine_stretch m) (first ∷ rest) ++ shift_all (length (first ∷ rest)) (later_boundaries spans left)) (drop_all (length (first ∷ rest)) (first ∷ rest) (omega arith))
    ∙ ap (λ (later : List Boundary). later_boundaries (machine_stretch m) (first ∷ rest) ++ shift_all (length (first ∷ rest)) later) (later-nil spans)
    ∙ append-nil (later_boundaries (machine_stretch m) (first ∷ rest))

pub without-words : (m : Machine) (payloads : Payloads) → payloads.words ≡ no_words → (code_points : List ℕ)
    → list_boundaries (span_stretch m payloads) code_points ≡ list_boundaries (machine_stretch m) code_points
without-words m payloads none code_points =
    ap (λ (words : ScriptWords). list_boundaries (span_stretch m (record { words = words; clusters = payloads.clusters })) code_points) none
    ∙ ap (λ (later : List Boundary). start ∷ later) (whole-later m payloads.clusters code_points)

-- where the last of some boundaries stands, once the first of them are gone
pub last-left : (place : ℕ) (boundaries : List Boundary) (count : ℕ) → 0 < count → count ≤ length boundaries
    → last_of (slice_index (offsets boundaries) (count - 1)) (drop count boundaries) ≡ last_of place boundaries
last-left place boundaries count some inside =
    let one : suc (count - 1) ≡ count = omega (arith, some) in
    ap (λ (n : ℕ). last_of (slice_index (offsets boundaries) (count - 1)) (drop n boundaries)) (sym one) ∙ from place boundaries (count - 1) (omega (arith, some, inside))
  where
    from : (place : ℕ) (boundaries : List Boundary) (index : ℕ) → index < length boundaries
        → last_of (slice_index (offsets boundaries) index) (drop (suc index) boundaries) ≡ last_of place boundaries
    from place [] index inside = absurd (omega (arith, inside))
    from place (first ∷ boundaries) zero inside = refl
    from place (first ∷ boundaries) (suc index) inside = from first.offset boundaries index (omega (arith, inside))
