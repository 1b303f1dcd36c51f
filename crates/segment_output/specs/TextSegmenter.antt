-- The segments that each segmenter gives, and which one is made.
use Rattle.std.specs.Prelude.{◌≡◌, ℕ, ◌==◌, nat_le, Bool, false, Option, None, Some, List}
use Rattle.icu_segmenter.specs.Abbreviations.{abbreviations_of}
use Rattle.icu_segmenter.specs.Boundaries.{boundaries_in}
use Rattle.icu_segmenter.specs.Boundary.{Boundary}
use Rattle.icu_segmenter.specs.Clusters.{owned_cluster_rules, owned_sentence_rules}
use Rattle.icu_segmenter.specs.LineBreaks.{LineRules, line_boundaries_of, table_lines, turn_lines, lines_with_words}
use Rattle.icu_segmenter.specs.LineBreaks.LineFinder.{ByClusters}
use Rattle.icu_segmenter.specs.LineRules.{style_of}
use Rattle.icu_segmenter.specs.Lines.{chosen_rules, owned_line_rules, without_ja}
use Rattle.icu_segmenter.specs.Machine.{Machine}
use Rattle.icu_segmenter.specs.Options.{machine_choice}
use Rattle.icu_segmenter.specs.Rules.{Rules, boundaries_of}
use Rattle.icu_segmenter.specs.Rules.{boundaries_by as found_by}
use Rattle.icu_segmenter.specs.Rules.Rules.{ByTable, ByMachine}
use Rattle.icu_segmenter.specs.ScriptWords.{ScriptWords, no_words}
use Rattle.icu_segmenter.specs.Suppression.{without_abbreviated}
use Rattle.icu_segmenter.specs.TextSegments.{marked}
use Rattle.icu_segmenter.specs.Decoding.{utf8}
use Rattle.icu_segmenter.specs.WordRules.{WordRules, machine_words, table_words, type_of, word_boundaries_of}
use Rattle.icu_segmenter.specs.WordSets.{Words as WordSet}
use Rattle.icu_segmenter.specs.Words.{owned_word_rules}
use Rattle.icu_segmenter.specs.declared.options.LineBreakOptions.{LineBreakOptions}
use Rattle.icu_segmenter_data.specs.Unicode.{cluster_table, line_table, line_17_table, sentence_table, word_table}
use Rattle.icu_segmenter_uax14.specs.Lines.{line_machine, line_tailorings}
use Rattle.icu_segmenter_uax29.specs.Clusters.{cluster_machine}
use Rattle.icu_segmenter_uax29.specs.Sentences.{sentence_machine}
use Rattle.icu_segmenter_uax29.specs.TypedWords.{typed_word_machine}
use Rattle.segment_output.specs.Output.{Segment, segments, shown_boundaries}
use Rattle.segment_output.specs.declared.segmenter.Engine.{Engine}
use Rattle.segment_output.specs.declared.segmenter.Engine.TheVariants as engine
use Rattle.segment_output.specs.declared.segmenter.Kind.{Kind}
use Rattle.segment_output.specs.declared.segmenter.Kind.TheVariants as kind
use Rattle.segment_output.specs.declared.marks.Mark.{Mark}
use Rattle.segment_output.specs.declared.marks.Mark.TheVariants.{Unmarked, Word, Line, Rule}
use Rattle.segment_output.specs.declared.segmenter.TextSegmenter.{TextSegmenter}
use Rattle.segment_output.specs.declared.segmenter.TextSegmenter.TheVariants.{Clusters, Words, Sentences, Suppressing, Lines, Ruled}

-- how sentences are found in a list of code points by some rules, where they go on after abbreviations
abbrev pub suppressed_finder : Rules → WordSet → List ℕ → List Boundary
suppressed_finder rules abbreviations = without_abbreviated abbreviations (found_by rules)

-- the boundaries of some bytes, which are seen as UTF-8
abbrev pub boundaries_by : TextSegmenter → List ℕ → List Boundary
boundaries_by (Clusters clusters) bytes = boundaries_of (owned_cluster_rules clusters) (utf8 bytes)
boundaries_by (Words words alone) bytes = word_boundaries_of (owned_word_rules words) (utf8 bytes)
boundaries_by (Sentences sentences) bytes = boundaries_of (owned_sentence_rules sentences) (utf8 bytes)
boundaries_by (Suppressing sentences abbreviations) bytes = boundaries_in (suppressed_finder (owned_sentence_rules sentences) (abbreviations_of abbreviations)) (utf8 bytes)
boundaries_by (Lines lines) bytes = line_boundaries_of (owned_line_rules lines) (utf8 bytes)
boundaries_by (Ruled machine alone) bytes = boundaries_of (ByMachine machine) (utf8 bytes)

-- what their statuses say of the segments that end there: of words their type, of lines whether a line must end there, by rules of the caller's
-- own whether they are 1, and of others nothing
abbrev pub mark_by : TextSegmenter → ℕ → Mark
mark_by (Words words alone) = λ status. Word (type_of status)
mark_by (Lines lines) = λ status. Line (status == 1)
mark_by (Ruled machine alone) = λ status. Rule (status == 1)
mark_by segmenter = λ status. Unmarked

-- are words alone shown, or by rules of the caller's own what ends at boundaries without status 1
abbrev pub has_words_alone : TextSegmenter → Bool
has_words_alone (Words words alone) = alone
has_words_alone (Ruled machine alone) = alone
has_words_alone segmenter = false

-- the segments of such bytes
abbrev pub segments_by : TextSegmenter → List ℕ → List Segment
segments_by segmenter bytes = segments (has_words_alone segmenter) (marked (mark_by segmenter) (boundaries_by segmenter bytes))

-- .. between those boundaries that a limit admits
abbrev pub segments_in : TextSegmenter → (ℕ → Bool) → List ℕ → List Segment
segments_in segmenter admits bytes = segments (has_words_alone segmenter) (marked (mark_by segmenter) (shown_boundaries admits (boundaries_by segmenter bytes)))

-- .. up to a place
abbrev pub segments_to : TextSegmenter → ℕ → List ℕ → List Segment
segments_to segmenter to bytes = segments_in segmenter (λ place. nat_le place to) bytes

-- where a line may end anywhere: at each boundary of a machine, with its status
abbrev pub anywhere_by : Machine → LineRules
anywhere_by machine = record { finder = ByClusters; payloads = record { words = no_words; clusters = ByMachine machine } }

-- ---- the rules of each engine, over Unicode's data

abbrev pub cluster_rules_by : Engine → Rules
cluster_rules_by engine.Neo = ByMachine cluster_machine
cluster_rules_by engine.Classic = ByTable cluster_table None
cluster_rules_by engine.Seventeen = ByTable cluster_table None

abbrev pub sentence_rules_by : Engine → Rules
sentence_rules_by engine.Neo = ByMachine sentence_machine
sentence_rules_by engine.Classic = ByTable sentence_table None
sentence_rules_by engine.Seventeen = ByTable sentence_table None

-- with the words of scripts
abbrev pub word_rules_by : Engine → ScriptWords → WordRules
word_rules_by engine.Neo words = machine_words typed_word_machine cluster_table words
word_rules_by engine.Classic words = table_words word_table None cluster_table words
word_rules_by engine.Seventeen words = table_words word_table None cluster_table words

-- as options choose them
abbrev pub line_rules_of : Engine → LineBreakOptions → LineRules
line_rules_of engine.Neo options = chosen_rules line_machine line_tailorings cluster_machine (machine_choice options)
line_rules_of engine.Classic options = table_lines (record { table = line_table; style = style_of options }) cluster_table no_words
line_rules_of engine.Seventeen options = turn_lines (record { table = line_17_table; style = style_of options }) cluster_table no_words

abbrev pub line_rules_by : Engine → LineBreakOptions → ScriptWords → LineRules
line_rules_by engine options words = lines_with_words (line_rules_of engine options) (without_ja words)

-- a segmenter is that of a kind: by an engine over Unicode's data, with options of lines, the words of scripts, and abbreviations, if there are some
abbrev pub IsAskedOf : Kind → Engine → LineBreakOptions → ScriptWords → Option WordSet → TextSegmenter → Type 0
IsAskedOf asked engine options words abbreviations (Clusters clusters) = (asked ≡ kind.Clusters) × (owned_cluster_rules clusters ≡ cluster_rules_by engine)
IsAskedOf asked engine options words abbreviations (Words segmenter alone) = (asked ≡ kind.Words alone) × (owned_word_rules segmenter ≡ word_rules_by engine words)
IsAskedOf asked engine options words abbreviations (Sentences sentences) =
    (asked ≡ kind.Sentences) × (abbreviations ≡ None) × (owned_sentence_rules sentences ≡ sentence_rules_by engine)
IsAskedOf asked engine options words abbreviations (Suppressing sentences known) =
    (asked ≡ kind.Sentences) × (abbreviations ≡ Some (abbreviations_of known)) × (owned_sentence_rules sentences ≡ sentence_rules_by engine)
IsAskedOf asked engine options words abbreviations (Lines lines) = (asked ≡ kind.Lines) × (owned_line_rules lines ≡ line_rules_by engine options words)
IsAskedOf asked engine options words abbreviations (Ruled machine alone) = ⊥
