-- The cuts strictly inside the runs of a text, span by span.
use Rattle.std.proofs.Common.{◌≡◌, ℕ, zero, suc, ◌<◌, ◌≤◌, List, [], ◌∷◌, ◌++◌, length, map, take, refl, sym, ap, ◌∙◌, arith}
use Rattle.std.specs.Prelude.{Option, None, Some}
use Rattle.std.specs.Option.{option_map}
use Rattle.seg_text.specs.Items.{Item, Text, rest_after, text_before, code_points}
use Rattle.seg_text.specs.Boundaries.{boundary_in, boundaries_in, offsets, RisesTo, AreCutsOf, cut_places, with_status, later_boundaries}
use Rattle.seg_text.proofs.Stretches.{text-later-nil}
use Rattle.seg_data.specs.declared.provider.ComplexScript.{ComplexScript}
use Rattle.seg_data.specs.declared.provider.dictionary.cursor.DictionaryCursor.{DictionaryCursor}
use Rattle.seg_data.specs.ScriptWords.{words_after, words_in}
use Rattle.seg_data.specs.WordSets.{Words}
use Rattle.seg_clusters.specs.Rules.{boundaries_by}
use Rattle.seg_machine.specs.Machine.{Machine}
use Rattle.seg_clusters.specs.DictionaryCuts.{Clusters, by_words, dictionary_cuts}
use Rattle.seg_clusters.specs.Spans.{inner_cuts, inner_stretch, but_the_last, span_cuts, GivesSpan, span_length, span_words, worded_script}
use Rattle.seg_clusters.specs.Payloads.{Payloads, piece_cuts_by}
use Rattle.seg_clusters.specs.Scripts.{CoverPieces}
use Rattle.seg_clusters.proofs.Cutting.{length-taken, offsets-append, place_after, places-offsets, places-with, rises-inside}
use Rattle.seg_clusters.proofs.SpanStretches.{AreInside, InSpan, span-at, span-inside, span-some}

-- all but the last of them, at their places
inside-map : (f : ℕ → ℕ) (cuts : List ℕ) → map f (but_the_last cuts) ≡ but_the_last (map f cuts)
inside-map f [] = refl
inside-map f (cut ∷ []) = refl
inside-map f (cut ∷ next ∷ cuts) = ap (λ (rest : List ℕ). f cut ∷ rest) (inside-map f (next ∷ cuts))

inside-cuts : (n : ℕ) (cuts : List ℕ) → AreCutsOf n cuts → AreInside n (with_status 0 (but_the_last cuts))
inside-cuts n [] are = tt
inside-cuts n (cut ∷ []) are = tt
inside-cuts n (cut ∷ next ∷ cuts) are = (are.0, inside-cuts n (next ∷ cuts) are.1)

abbrev pub in-span : Clusters → InSpan
in-span clusters found span = with_status 0 (but_the_last (span_cuts clusters found span))

module _ (m : Machine) (payloads : Payloads) (cover : CoverPieces (piece_cuts_by payloads)) where
  abbrev pub clusters : Clusters
  clusters = boundaries_by payloads.clusters

  alone-inside : (found : Option Words) (script : ComplexScript) (n first : ℕ) (rest : List ℕ) → length (first ∷ rest) ≡ n
      → RisesTo 0 (with_status 0 (by_words found clusters script (first ∷ rest))) (length (first ∷ rest))
      → AreInside n (with_status 0 (but_the_last (span_cuts clusters found (first ∷ rest))))
  alone-inside None script n first rest is rises = tt
  alone-inside (Some words) script n first rest is rises =
      inside-cuts n (dictionary_cuts words clusters (first ∷ rest)) (rw is at (rises-inside (dictionary_cuts words clusters (first ∷ rest)) 0 (length (first ∷ rest)) rises).1)

  taken-inside : (script : ComplexScript) (n first : ℕ) (rest : List ℕ) → 0 < n → n ≤ length (first ∷ rest)
      → AreInside n (with_status 0 (but_the_last (span_cuts clusters (words_in payloads.words script) (take n (first ∷ rest)))))
  taken-inside script zero first rest some bound = absurd (omega arith)
  taken-inside script (suc n) first rest some bound =
      alone-inside (words_in payloads.words script) script (suc n) first (take n rest) (ap suc (length-taken n rest (omega (arith, bound)))) (cover script first (take n rest))

  fits : (first : ℕ) (rest : List ℕ) → AreInside (span_length m payloads.words (first ∷ rest)) (inner_stretch m payloads (first ∷ rest)).boundaries
  fits first rest =
      taken-inside (worded_script m payloads.words first) (span_length m payloads.words (first ∷ rest)) first rest
      (span-some m payloads.words first rest) (span-inside m payloads.words (first ∷ rest))

  pub inner-nil : (end : ℕ) → cut_places (inner_cuts m payloads) (record { items = []; end = end }) ≡ []
  inner-nil end =
      places-offsets (record { items = []; end = end }) (later_boundaries (inner_stretch m payloads) []) ∙ ap offsets (text-later-nil (inner_stretch m payloads) end)

  -- those inside the first span, taken alone, and then those of what is left
  pub inner-at : (items : List Item) (end : ℕ) → 0 < span_length m payloads.words (code_points items)
      → let text : Text = record { items = items; end = end } in let n = span_length m payloads.words (code_points items) in
      cut_places (inner_cuts m payloads) text
      ≡ but_the_last (cut_places (span_cuts clusters (span_words m payloads.words (code_points items))) (text_before n text)) ++ cut_places (inner_cuts m payloads) (rest_after n text)
  inner-at items end some =
      let text : Text = record { items = items; end = end } in
      let n = span_length m payloads.words (code_points items) in
      let first = inner_stretch m payloads in
      let cuts = span_cuts clusters (span_words m payloads.words (code_points items)) (code_points (take n items)) in
      let rest = rest_after n text in
      places-offsets text (later_boundaries first (code_points items))
      ∙ ap offsets (span-at m payloads.words (in-span clusters) fits items end some)
      ∙ offsets-append (map (boundary_in (text_before n text)) (with_status 0 (but_the_last cuts))) (boundaries_in (later_boundaries first) rest)
      ∙ ap (λ (some : List ℕ). some ++ offsets (boundaries_in (later_boundaries first) rest)) (places-with (text_before n text) (but_the_last cuts) ∙ inside-map (place_after (text_before n text)) cuts)
      ∙ ap (λ (others : List ℕ). but_the_last (map (place_after (text_before n text)) cuts) ++ others) (sym (places-offsets rest (later_boundaries first (code_points rest.items))))

  -- a span was given
  pub inner-next : {I : Type 0} (text : I → Text) (before after : Text) (span : I × Option DictionaryCursor)
      → GivesSpan m payloads.words text before (Some span) after
      → cut_places (inner_cuts m payloads) before
      ≡ but_the_last (cut_places (span_cuts clusters (option_map words_after span.1)) (text span.0)) ++ cut_places (inner_cuts m payloads) after
  inner-next text before after span gives =
      let n = span_length m payloads.words (code_points before.items) in
      let words = span_words m payloads.words (code_points before.items) in
      inner-at before.items before.end gives.0
      ∙ ap (λ (first : Text). but_the_last (cut_places (span_cuts clusters words) first) ++ cut_places (inner_cuts m payloads) (rest_after n before)) (sym gives.1)
      ∙ ap (λ (words : Option Words). but_the_last (cut_places (span_cuts clusters words) (text span.0)) ++ cut_places (inner_cuts m payloads) (rest_after n before)) (sym gives.2)
      ∙ ap (λ (rest : Text). but_the_last (cut_places (span_cuts clusters (option_map words_after span.1)) (text span.0)) ++ cut_places (inner_cuts m payloads) rest) (sym gives.3)
