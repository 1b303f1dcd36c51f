-- Lines: what finds their breaks, the faults of its data, and what is seen of segmenters and iterators.
use Rattle.std.specs.Prelude.{⊤, ◌≡◌, ◌⊎◌, IsTrue, ℕ, ◌==◌, Bool, Option, Some, None, List}
use Rattle.seg_text.specs.declared.boundary.Boundary.{Boundary}
use Rattle.seg_text.specs.Boundaries.{offsets, Remainder}
use Rattle.seg_data.specs.declared.provider.DataError.{DataError}
use Rattle.seg_data.specs.declared.provider.DataError.TheVariants.{ComplexBelow0100, MissingTailoring}
use Rattle.seg_data.specs.ScriptWords.{ScriptWords, no_words, script_words}
use Rattle.seg_machine.specs.Machine.{Machine, MachineTailoring, with_tailoring}
use Rattle.seg_machine.specs.MachineFaults.{HasComplexBelow0100, HasTailoringFault}
use Rattle.seg_machine.specs.Tailored.{has_rows, machine_of, owned_machine}
use Rattle.seg_clusters.specs.Rules.{HasRows}
use Rattle.seg_clusters.specs.Rules.Rules.{ByMachine as ByClusterMachine}
use Rattle.seg_clusters.specs.declared.grapheme.GraphemeClusterSegmenter.{GraphemeClusterSegmenter}
use Rattle.seg_clusters.specs.Clusters.{owned_cluster_rules}
use Rattle.seg_clusters.specs.Payloads.{payloads_of}
use Rattle.seg_line_pairs.specs.LineBoundaries.{owned_rules_by, rules_by}
use Rattle.seg_lines.specs.declared.finder.Finder.{Finder}
use Rattle.seg_lines.specs.declared.finder.Finder.TheVariants.{Clusters as LentClusters, Places as LentPlaces, Table as LentTable, Turns as LentTurns, Machine as LentMachine}
use Rattle.seg_lines.specs.declared.finder.OwnedFinder.{OwnedFinder}
use Rattle.seg_lines.specs.declared.finder.OwnedFinder.TheVariants.{Clusters as OwnedClusters, Places as OwnedPlaces, Table as OwnedTable, Turns as OwnedTurns, Machine as OwnedMachine}
use Rattle.seg_lines.specs.LineBreaks.{LineFinder, LineRules}
use Rattle.seg_lines.specs.LineBreaks.LineFinder.{ByClusters, ByPlaces, ByTable, ByTurns, ByMachine}
use Rattle.seg_lines.specs.declared.line.options.MachineChoice.{MachineChoice}
use Rattle.seg_lines.specs.declared.line.options.MachineChoice.TheVariants.{Clusters, Lines}
use Rattle.seg_lines.specs.Options.{MachineTailorings, tailoring_for}
use Rattle.seg_lines.specs.declared.line.LineSegmenter.{LineSegmenter}
use Rattle.seg_lines.specs.declared.line.LineSegmenterBorrowed.{LineSegmenterBorrowed}
use Rattle.seg_lines.specs.declared.line.LineBreakIterator.{LineBreakIterator}
use Rattle.seg_lines.specs.declared.boundaries.LineBoundaries.{LineBoundaries}
use Rattle.seg_lines.specs.declared.boundaries.LineBoundaries.TheVariants.{Plain, Unmarked, Classic, Turns, Joined}

-- the line machine with the tailoring that is named
abbrev pub line_machine_for : Machine → Option (Option MachineTailoring) → Machine
line_machine_for lines (Some tailoring) = with_tailoring lines tailoring
line_machine_for lines None = lines

-- the faults of the line machine with it: where the tailoring is missing, no other is looked for
abbrev pub HasFaultWith : Machine → Option (Option MachineTailoring) → DataError → Type 0
HasFaultWith lines None fault = fault ≡ MissingTailoring
HasFaultWith lines (Some tailoring) fault =
    HasTailoringFault lines tailoring fault ⊎ ((fault ≡ ComplexBelow0100) × HasComplexBelow0100 (with_tailoring lines tailoring))

-- what finds the breaks: clusters, or the line machine with its tailoring
abbrev pub chosen_finder : Machine → MachineTailorings → MachineChoice → LineFinder
chosen_finder lines tailorings Clusters = ByClusters
chosen_finder lines tailorings (Lines name) = ByMachine (line_machine_for lines (tailoring_for tailorings name))

-- the rules of lines by machines, as yet without words of any script
abbrev pub chosen_rules : Machine → MachineTailorings → Machine → MachineChoice → LineRules
chosen_rules lines tailorings clusters choice = record {
  finder = chosen_finder lines tailorings choice;
  payloads = record { words = no_words; clusters = ByClusterMachine clusters };
}

-- the words of all scripts but Chinese and Japanese
abbrev pub without_ja : ScriptWords → ScriptWords
without_ja words = record { my = words.my; km = words.km; lo = words.lo; th = words.th; ja = None }

-- the faults of a line segmenter's data: none where clusters find the breaks
abbrev pub HasLineFault : Machine → MachineTailorings → MachineChoice → DataError → Type 0
HasLineFault lines tailorings Clusters fault = ⊥
HasLineFault lines tailorings (Lines name) fault = HasFaultWith lines (tailoring_for tailorings name) fault

abbrev pub finder_of : Finder → LineFinder
finder_of LentClusters = ByClusters
finder_of LentPlaces = ByPlaces
finder_of (LentTable pairs) = ByTable (rules_by pairs)
finder_of (LentTurns pairs) = ByTurns (rules_by pairs)
finder_of (LentMachine machine) = ByMachine (machine_of machine)

abbrev pub owned_finder : OwnedFinder → LineFinder
owned_finder OwnedClusters = ByClusters
owned_finder OwnedPlaces = ByPlaces
owned_finder (OwnedTable pairs) = ByTable (owned_rules_by pairs)
owned_finder (OwnedTurns pairs) = ByTurns (owned_rules_by pairs)
owned_finder (OwnedMachine machine) = ByMachine (owned_machine machine)

-- what a segmenter finds line breaks by
abbrev pub line_rules : LineSegmenterBorrowed → LineRules
line_rules segmenter = record { finder = finder_of segmenter.finder; payloads = payloads_of segmenter.payloads }

abbrev pub owned_line_rules : LineSegmenter → LineRules
owned_line_rules segmenter = record {
  finder = owned_finder segmenter.finder;
  payloads = record { words = script_words segmenter.dictionaries; clusters = owned_cluster_rules segmenter.clusters };
}

-- the dense rows of the machine that finds the breaks were made: that of lines or that of clusters. A pair table needs none
abbrev pub have_rows : OwnedFinder → GraphemeClusterSegmenter → Type 0
have_rows OwnedClusters clusters = HasRows clusters.engine
have_rows (OwnedMachine machine) clusters = IsTrue (has_rows machine)
have_rows OwnedPlaces clusters = ⊤
have_rows (OwnedTable pairs) clusters = ⊤
have_rows (OwnedTurns pairs) clusters = ⊤

abbrev pub HasLineRows : LineSegmenter → Type 0
HasLineRows segmenter = have_rows segmenter.finder segmenter.clusters

-- the boundaries that an iterator has still to give, and their places
abbrev pub lines_left : {I : Type 0} → LineBreakIterator I → List Boundary
lines_left iterator = iterator.boundaries.left

abbrev pub line_places : {I : Type 0} → LineBreakIterator I → List ℕ
line_places iterator = offsets (lines_left iterator)

-- is the boundary that was given last mandatory: a break is where its status is 1
abbrev pub is_mandatory : {I : Type 0} → LineBreakIterator I → Bool
is_mandatory iterator = iterator.boundaries.status == 1

-- what an iterator finds boundaries by, and the cursor at the start of its text
abbrev pub line_finder : {I : Type 0} → LineBreakIterator I → LineRules
line_finder iterator = line_rules iterator.segmenter

abbrev pub lines_source : {I : Type 0} → LineBreakIterator I → I
lines_source iterator = iterator.whole

-- What each engine of lines has still to give.

abbrev pub line_remainder_by : {I : Type 0} → LineBoundaries I → Remainder
line_remainder_by (Plain remainder) = remainder
line_remainder_by (Unmarked remainder) = remainder
line_remainder_by (Classic remainder) = remainder
line_remainder_by (Turns remainder) = remainder
line_remainder_by (Joined remainder) = remainder
