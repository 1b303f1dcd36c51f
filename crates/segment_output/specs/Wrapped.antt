-- What is written of a text whose lines are wrapped.
use Rattle.std.specs.Prelude.{◌≡◌, ℕ, ◌&&◌, nat_lt, Bool, Option, None, Some, List, [], ◌∷◌, ◌++◌, length, if◌then◌else◌}
use Rattle.std.specs.List.{flat_map}
use Rattle.icu_segmenter.specs.Boundary.{Boundary}
use Rattle.icu_segmenter.specs.Boundaries.{IsCover}
use Rattle.icu_segmenter.specs.Decoding.{utf8}
use Rattle.icu_segmenter.specs.LineBreaks.{LineRules, line_boundaries_of}
use Rattle.icu_segmenter.specs.LineBreaks.LineFinder.{ByClusters}
use Rattle.icu_segmenter.specs.NearBoundaries.{line_feed}
use Rattle.icu_segmenter.specs.Rules.{Rules}
use Rattle.icu_segmenter.specs.Rules.Rules.{ByMachine}
use Rattle.icu_segmenter.specs.ScriptWords.{no_words}
use Rattle.icu_segmenter.specs.Wrapping.{Measure, TextLine, by_characters, by_clusters, columns_in}
use Rattle.icu_segmenter.specs.WrappedLines.{wrapped_within}
use Rattle.seg_wrap.specs.declared.wrap.wrapping.Room.{Room}
use Rattle.segment_text.specs.Trimmed.{printed_line, without_trailing_space}
use Rattle.icu_segmenter_uax29.specs.Clusters.{cluster_machine}

-- what stands before lines: before the first of each paragraph, and before the others
pub record Indents : Type 0 where
  pub first : List ℕ
  pub others : List ℕ

abbrev pub indent_in : Indents → Bool → List ℕ
indent_in indents is_first = if is_first then indents.first else indents.others

-- a line of these bytes behind its indent, and a blank one behind that of other lines
abbrev pub indented_line : Indents → Bool → List ℕ → List ℕ
indented_line indents is_first bytes = printed_line (indent_in indents is_first) indents.others bytes

-- lines of a part of a text, which begins a paragraph or not
abbrev pub printed_lines : Indents → Bool → List TextLine → List ℕ
printed_lines indents is_first lines = flat_map (λ line. indented_line indents (line.is_first && is_first) line.units) lines

-- how lines are wrapped: behind which indents, to how many columns, and to how many behind each indent, at the breaks of some rules, by which rules
-- those that are wider are broken, if they are, and how columns are counted
pub record Wrapping : Type 0 where
  pub indents : Indents
  pub columns : ℕ
  pub room : Room
  pub lines : LineRules
  pub broken : Option LineRules
  pub measure : Measure

-- how columns are counted: by the clusters of some rules, or by character where there are none
abbrev pub measure_by : Option Rules → Measure
measure_by None = by_characters
measure_by (Some rules) = by_clusters rules

-- lines that may end at each boundary of a cluster
abbrev pub cluster_lines : LineRules
cluster_lines = record { finder = ByClusters; payloads = record { words = no_words; clusters = ByMachine cluster_machine } }

-- the columns of the parts of a line
abbrev pub room_from : Room → Bool → Room
room_from room is_first = record { first = columns_in room is_first; others = room.others }

-- a wrapped line as it is shown: where it is wider than its columns, without its trailing white space, wrapped once more by these rules, if there are some
abbrev pub shown_by : Option LineRules → Wrapping → TextLine → List ℕ
shown_by None wrapping line = indented_line wrapping.indents line.is_first line.units
shown_by (Some rules) wrapping line =
    if nat_lt (columns_in wrapping.room line.is_first) line.columns then
    printed_lines wrapping.indents line.is_first
    (wrapped_within utf8 wrapping.measure rules (room_from wrapping.room line.is_first) (without_trailing_space line.units))
    else indented_line wrapping.indents line.is_first line.units

abbrev pub shown_line : Wrapping → TextLine → List ℕ
shown_line wrapping line = shown_by wrapping.broken wrapping line

abbrev pub shown_lines : Wrapping → List TextLine → List ℕ
shown_lines wrapping lines = flat_map (shown_line wrapping) lines

-- what is written of some bytes: their wrapped lines, each as it is shown
abbrev pub wrapped_output : Wrapping → List ℕ → List ℕ
wrapped_output wrapping bytes = shown_lines wrapping (wrapped_within utf8 wrapping.measure wrapping.lines wrapping.room bytes)

-- the status of the last of some boundaries
unfoldable pub last_status : List Boundary → ℕ
last_status [] = 0
last_status (found ∷ []) = found.status
last_status (found ∷ next ∷ boundaries) = last_status (next ∷ boundaries)

-- a line must end behind a line feed with which a text ends
abbrev pub EndsLines : LineRules → Type 0
EndsLines rules =
    (before : List ℕ) → let text = before ++ line_feed in
    let boundaries = line_boundaries_of rules (utf8 text) in IsCover 0 (length text) boundaries → last_status boundaries ≡ 1
