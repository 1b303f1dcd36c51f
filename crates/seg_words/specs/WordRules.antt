-- The boundaries of words, by a pair table or by a state machine, and their types.
use Rattle.std.specs.Prelude.{◌≡◌, ◌⊎◌, ℕ, zero, suc, Bool, true, false, Option, None, Some, List, take}
use Rattle.seg_text.specs.declared.boundary.Boundary.{Boundary}
use Rattle.seg_text.specs.Items.{Text}
use Rattle.seg_text.specs.Boundaries.{boundaries_in, with_status, Stretch, later_boundaries, list_boundaries}
use Rattle.seg_data.specs.Table.{Table}
use Rattle.seg_data.specs.ScriptWords.{ScriptWords, no_words}
use Rattle.seg_data.specs.WordSets.{Words}
use Rattle.seg_pairs.specs.PairTable.{PairTable}
use Rattle.seg_pairs.specs.Breaks.{HasComplexElement, complex_stretch}
use Rattle.seg_machine.specs.Machine.{Machine}
use Rattle.seg_machine.specs.Pick.{machine_stretch}
use Rattle.seg_clusters.specs.Certain.{AreCertain, IsByMachine}
use Rattle.seg_clusters.specs.Rules.{Rules, boundaries_by, ResetsAfter}
use Rattle.seg_clusters.specs.Rules.Rules.{ByTable, ByMachine}
use Rattle.seg_clusters.specs.DictionaryCuts.{Clusters, dictionary_cuts}
use Rattle.seg_clusters.specs.Payloads.{Payloads, run_cuts_by}
use Rattle.seg_clusters.specs.Spans.{span_length, span_words, IsOutsideRuns, IsSpanEdge}
use Rattle.seg_words.specs.declared.word.WordType.{WordType}
use Rattle.seg_words.specs.declared.word.WordType.TheVariants.{None as NoWord, Number, Letter}

-- what words are found by: a pair table or a machine, and what the pieces of runs of complex code points are cut by
pub record WordRules : Type 0 where
  pub rules : Rules
  pub payloads : Payloads

-- by a pair table with its override, a pair table of clusters and the words of scripts
abbrev pub table_words : PairTable → Option Table → PairTable → ScriptWords → WordRules
table_words t overriding clusters words =
    record { rules = ByTable t overriding; payloads = record { words = words; clusters = ByTable clusters None } }

-- by a machine, with a pair table of clusters and the words of scripts
abbrev pub machine_words : Machine → PairTable → ScriptWords → WordRules
machine_words m clusters words = record { rules = ByMachine m; payloads = record { words = words; clusters = ByTable clusters None } }

-- these rules of words with other words of scripts
abbrev pub with_words : WordRules → ScriptWords → WordRules
with_words found words = record { rules = found.rules; payloads = record { words = words; clusters = found.payloads.clusters } }

-- the status of what ends with letters
abbrev pub letters : ℕ
letters = 2

-- the boundaries of a span taken alone, but that at its start: where a run is cut by its words letters end, and a piece
-- between runs has those of the machine
abbrev pub span_boundaries : Machine → Clusters → Option Words → List ℕ → List Boundary
span_boundaries m clusters (Some words) span = with_status letters (dictionary_cuts words clusters span)
span_boundaries m clusters None span = later_boundaries (machine_stretch m) span

-- the first stretch of some code points by a machine: their first span
abbrev pub span_stretch : Machine → Payloads → List ℕ → Stretch
span_stretch m payloads code_points =
    let extent = span_length m payloads.words code_points in
    record {
      extent = extent;
      boundaries = span_boundaries m (boundaries_by payloads.clusters) (span_words m payloads.words code_points) (take extent code_points);
    }

-- the first stretch of some code points: by what the table says of the first, where each piece of a run is cut by the words of
-- its script, or at its end alone; or by the machine
abbrev pub stretch_by : Rules → Payloads → List ℕ → Stretch
stretch_by (ByTable t overriding) payloads = complex_stretch (run_cuts_by payloads) t overriding
stretch_by (ByMachine m) payloads = span_stretch m payloads

abbrev pub first_word_stretch : WordRules → List ℕ → Stretch
first_word_stretch words = stretch_by words.rules words.payloads

-- the boundaries of words in a list of code points
abbrev pub word_boundaries_by : WordRules → List ℕ → List Boundary
word_boundaries_by words code_points = list_boundaries (first_word_stretch words) code_points

-- the boundaries of words in a text: those of its code points, at the places of its items
abbrev pub word_boundaries_of : WordRules → Text → List Boundary
word_boundaries_of words text = boundaries_in (word_boundaries_by words) text

-- no code point is complex, or no script has words that a machine's spans are cut by
abbrev pub HasNoRunOfWords : Rules → ScriptWords → List ℕ → Type 0
HasNoRunOfWords (ByTable t overriding) words code_points = HasComplexElement t overriding code_points → ⊥
HasNoRunOfWords (ByMachine m) words code_points = words ≡ no_words

-- the type of what ends at a boundary with a status
abbrev pub type_of : ℕ → WordType
type_of zero = NoWord
type_of (suc zero) = Number
type_of (suc (suc status)) = Letter

-- is it a word
abbrev pub is_word_like : WordType → Bool
is_word_like NoWord = false
is_word_like Number = true
is_word_like Letter = true

-- does a word end at the boundary
abbrev pub ends_word : Boundary → Bool
ends_word boundary = is_word_like (type_of boundary.status)

-- Code points behind which the boundaries of words start afresh.

-- by a machine no scan looks past the code point, and it stands in no run; of a pair table it is said of none
abbrev pub WordsResetWith : Rules → ScriptWords → ℕ → Type 0
WordsResetWith (ByTable t overriding) words code_point = ⊥
WordsResetWith (ByMachine m) words code_point = ResetsAfter (ByMachine m) code_point × IsOutsideRuns m words code_point

abbrev pub WordsResetAfter : WordRules → ℕ → Type 0
WordsResetAfter words code_point = WordsResetWith words.rules words.payloads.words code_point

-- Certain places: between the last two of three code points a boundary of words stands, whatever stands around.

-- a machine finds words: of others no place is known to be certain
abbrev pub HasCertainWords : WordRules → Type 0
HasCertainWords words = IsByMachine words.rules

-- another span begins between the last two of three code points, or all three stand between runs, where no scan passes
abbrev pub WordsAreCertainWith : Rules → ScriptWords → ℕ → ℕ → ℕ → Type 0
WordsAreCertainWith (ByTable t overriding) words before one other = ⊥
WordsAreCertainWith (ByMachine m) words before one other =
    IsSpanEdge m words one other
    ⊎ (IsOutsideRuns m words before × IsOutsideRuns m words one × IsOutsideRuns m words other × AreCertain (ByMachine m) before one other)

abbrev pub WordsAreCertain : WordRules → ℕ → ℕ → ℕ → Type 0
WordsAreCertain words before one other = WordsAreCertainWith words.rules words.payloads.words before one other
