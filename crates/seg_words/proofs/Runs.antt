-- The first span of a text: a piece between runs, or a run.
use Rattle.std.proofs.Common.{◌≡◌, ℕ, ◌<◌, List, ◌∷◌, map, sym, ap, ◌∙◌}
use Rattle.std.specs.Prelude.{Option, None, Some}
use Rattle.std.specs.List.{prefix_len}
use Rattle.seg_text.specs.declared.boundary.Boundary.{Boundary}
use Rattle.seg_text.specs.Items.{Item, Text, text_before, code_points, prefix_length}
use Rattle.seg_text.specs.Boundaries.{boundary_in, boundaries_in, later_boundaries}
use Rattle.seg_data.specs.declared.provider.ComplexScript.{ComplexScript}
use Rattle.seg_data.specs.declared.provider.ComplexScript.TheVariants as scripts
use Rattle.seg_data.specs.ScriptWords.{words_in}
use Rattle.seg_data.specs.WordSets.{Words}
use Rattle.seg_machine.specs.Machine.{Machine, symbol_and_script}
use Rattle.seg_machine.specs.Pick.{machine_stretch}
use Rattle.seg_clusters.specs.Payloads.{Payloads}
use Rattle.seg_clusters.specs.Rules.{boundaries_by}
use Rattle.seg_clusters.specs.Spans.{has_worded_script, is_between, span_length, span_words, worded_script}
use Rattle.seg_clusters.proofs.RunsAhead.{unworded, worded}
use Rattle.seg_clusters.proofs.SpanStretches.{span-some}
use Rattle.seg_words.specs.WordRules.{span_boundaries}

module _ (m : Machine) (payloads : Payloads) where
  -- the first code point has no script that has words
  pub first-piece : (text after : Text) (item : Item) (left : List Boundary) → text.items ≡ item ∷ after.items
      → words_in payloads.words (symbol_and_script m item.1).1 ≡ None
      → left ≡ boundaries_in (later_boundaries (machine_stretch m)) (text_before (prefix_length (is_between m payloads.words) text) text)
      → let count = span_length m payloads.words (code_points text.items) in let first = text_before count text in
      (0 < count) × (left ≡ map (boundary_in first) (span_boundaries m (boundaries_by payloads.clusters) (span_words m payloads.words (code_points text.items)) (code_points first.items)))
  first-piece text after item left is none found =
      let script : worded_script m payloads.words item.1 ≡ scripts.None = unworded m payloads item.1 none in
      let count = span_length m payloads.words (code_points text.items) in
      let same : count ≡ prefix_length (is_between m payloads.words) text =
      rw is (ap (λ (script : ComplexScript). prefix_len (has_worded_script m payloads.words script) (item.1 ∷ code_points after.items)) script) in
      let wordless : span_words m payloads.words (code_points text.items) ≡ None = rw is (ap (words_in payloads.words) script) in (
        rw is (span-some m payloads.words item.1 (code_points after.items)),
        found
            ∙ ap (λ (count : ℕ). boundaries_in (later_boundaries (machine_stretch m)) (text_before count text)) (sym same)
            ∙ ap (λ (words : Option Words). let first = text_before count text in map (boundary_in first) (span_boundaries m (boundaries_by payloads.clusters) words (code_points first.items))) (sym wordless),
      )

  -- .. or one that has these
  pub first-run : (text after run : Text) (item : Item) (words : Words) (left : List Boundary) → text.items ≡ item ∷ after.items
      → words_in payloads.words (symbol_and_script m item.1).1 ≡ Some words
      → run ≡ text_before (span_length m payloads.words (code_points text.items)) text
      → left ≡ map (boundary_in run) (span_boundaries m (boundaries_by payloads.clusters) (Some words) (code_points run.items))
      → let count = span_length m payloads.words (code_points text.items) in let first = text_before count text in
      (0 < count) × (left ≡ map (boundary_in first) (span_boundaries m (boundaries_by payloads.clusters) (span_words m payloads.words (code_points text.items)) (code_points first.items)))
  first-run text after run item words left is some taken found =
      let has : span_words m payloads.words (code_points text.items) ≡ Some words =
      rw is (ap (words_in payloads.words) (worded m payloads item.1 words some) ∙ some) in (
        rw is (span-some m payloads.words item.1 (code_points after.items)),
        rw has (rw taken at found),
      )
