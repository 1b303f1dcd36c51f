-- Where wrapped lines end.
use Rattle.std.specs.Prelude.{◌≡◌, ℕ, ◌+◌, ◌-◌, ◌^◌, List, [], ◌∷◌, MatchOption, Option, None, Some, drop, length, map, min}
use Rattle.icu_segmenter.specs.Items.{Text}
use Rattle.icu_segmenter.specs.LineBreaks.{LineFinder}
use Rattle.icu_segmenter.specs.LineBreaks.LineFinder.{ByClusters, ByPlaces, ByTable, ByTurns, ByMachine}
use Rattle.icu_segmenter.specs.Rules.{Rules}
use Rattle.icu_segmenter.specs.Wrapping.{Measure, TextLine, by_characters, by_clusters}
use Rattle.icu_segmenter.specs.WrappedLines.{wrapped_units}
use Rattle.yengatomu_segmenter.specs.Finders.{Finder}
use Rattle.yengatomu_segmenter.specs.Finders.Finder.{Clusters, Words, Sentences, Lines}

-- lines that are found by a machine; by a pair table there are none, since it says of no break that a line must end there
abbrev pub if_by_machine : LineFinder → List TextLine → List TextLine
if_by_machine ByClusters lines = lines
if_by_machine ByPlaces lines = []
if_by_machine (ByTable rules) lines = []
if_by_machine (ByTurns rules) lines = []
if_by_machine (ByMachine m) lines = lines

-- how columns are counted: by the clusters of some rules, or by character where there are none
abbrev pub measure_by : Option Rules → Measure
measure_by None = by_characters
measure_by (Some clusters) = by_clusters clusters

-- the lines that a text that stands in some units, which this decodes, is wrapped to from one place on; other kinds have none
abbrev pub wrapped_behind : Finder → (List ℕ → Text) → ℕ → List ℕ → ℕ → List TextLine
wrapped_behind (Lines rules clusters) decode columns units from = if_by_machine rules.finder (wrapped_units decode (measure_by clusters) rules columns (drop from units))
wrapped_behind (Clusters rules) decode columns units from = []
wrapped_behind (Words rules) decode columns units from = []
wrapped_behind (Sentences rules abbreviations) decode columns units from = []

-- where lines end that stand one after another from a place on
unfoldable pub ends_from : ℕ → List TextLine → List ℕ
ends_from from [] = []
ends_from from (line ∷ lines) = let end = from + length line.units in end ∷ ends_from end lines

-- how many columns they take
abbrev pub widths_of : List TextLine → List ℕ
widths_of lines = map (λ (line : TextLine). min line.columns (2 ^ 64 - 1)) lines

-- the first line that is left is given, by how many units and how many columns it has, if there is one
abbrev pub GivesLine : List TextLine → Option (ℕ × ℕ) → List TextLine → Type 0
GivesLine before given after =
    MatchOption given ((before ≡ []) × (after ≡ []))
    (λ found. (line : TextLine) × ((before ≡ line ∷ after) × ((found.0 ≡ length line.units) × (found.1 ≡ line.columns))))
