-- What is left of a text of words, by a pair table or by a machine.
use Rattle.std.specs.Prelude.{◌≡◌, ℕ, ◌<◌, Bool, if◌then◌else◌, List, ◌++◌, None, Some, [], ◌∷◌, map}
use Rattle.seg_text.specs.Boundaries.{Remainder, boundaries_in, boundary_in, list_boundaries, Cuts, with_status, boundary, later_boundaries}
use Rattle.seg_text.specs.declared.boundary.Boundary.{Boundary}
use Rattle.seg_text.specs.Items.{Text, code_points, rest_after, text_before}
use Rattle.seg_pairs.specs.Breaks.{status_of, Unread, complex_stretch, run_status, unread_boundaries}
use Rattle.seg_data.specs.ScriptWords.{ScriptWords}
use Rattle.seg_machine.specs.Machine.{Machine}
use Rattle.seg_clusters.specs.Payloads.{Payloads}
use Rattle.seg_clusters.specs.Rules.{boundaries_by}
use Rattle.seg_clusters.specs.Spans.{span_length, span_words}
use Rattle.seg_words.specs.declared.span.Span.{Span}
use Rattle.seg_words.specs.declared.span.Span.TheVariants.{Start, Piece, Run}
use Rattle.seg_words.specs.WordRules.{letters, span_boundaries, span_stretch}

-- What is left of a text by a pair table, whose runs are cut in some way.

-- all boundaries of the text, or where it has started the cuts that are left of a run, and then the boundaries of what isn't
-- read; and the status of the class of the boundary that was given last
abbrev pub classic_remainder : Cuts → Bool → ℕ → List ℕ → Unread → Remainder
classic_remainder cuts started class run unread = record {
  left = if started
      then with_status (run_status unread.table) run ++ unread_boundaries cuts unread
      else boundaries_in (list_boundaries (complex_stretch cuts unread.table unread.overriding)) unread.text;
  status = status_of unread.table.rule_status_table class;
}

-- What is left of a span, and of a text by a machine whose spans are cut.

-- the boundaries that are left of it
abbrev pub span_left : {I : Type 0} → Span I → List Boundary
span_left (Start None) = []
span_left (Start (Some place)) = boundary place 0 ∷ []
span_left (Piece remainder) = remainder.left
span_left (Run cuts) = with_status letters cuts

-- what comes after a text's first span, if it has begun
abbrev pub after_span : Machine → ScriptWords → Bool → Text → Text
after_span m words has_begun text = if has_begun then rest_after (span_length m words (code_points text.items)) text else text

-- .. and of what comes after it
abbrev pub spans_left : {I : Type 0} → Machine → Payloads → Span I → Bool → Text → List Boundary
spans_left m payloads span has_begun text = span_left span ++ boundaries_in (later_boundaries (span_stretch m payloads)) (after_span m payloads.words has_begun text)

-- the offset of the last of some boundaries, or the one before them where there is none
abbrev pub last_of : ℕ → List Boundary → ℕ
last_of before [] = before
last_of before (boundary ∷ boundaries) = last_of boundary.offset boundaries

-- the first span of a text, with all its boundaries but that at its start
abbrev pub IsFirstSpan : {I : Type 0} → Machine → Payloads → Text → Span I → Type 0
IsFirstSpan m payloads text span =
    let count = span_length m payloads.words (code_points text.items) in
    let words = span_words m payloads.words (code_points text.items) in
    let first = text_before count text in
    (0 < count)
    × (span_left span ≡ map (boundary_in first) (span_boundaries m (boundaries_by payloads.clusters) words (code_points first.items)))
