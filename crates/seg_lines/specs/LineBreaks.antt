-- Lines: their boundaries, by whatever finds them.
use Rattle.std.specs.Prelude.{◌≡◌, ◌⊎◌, ◌↔◌, ℕ, ◌<◌, ◌==◌, nat_lt, if◌then◌else◌, List, [], ◌∷◌, Option, None, Some, IfSome, slice_get}
use Rattle.std.specs.List.{Contains}
use Rattle.seg_text.specs.declared.boundary.Boundary.{Boundary}
use Rattle.seg_text.specs.Boundaries.{boundary, offsets, boundaries_in, AreBoundaries, AreLaterBoundaries, Stretch, list_boundaries, with_status}
use Rattle.seg_text.specs.Items.{IsRising, Text}
use Rattle.seg_data.specs.ScriptWords.{ScriptWords, no_words}
use Rattle.seg_pairs.specs.PairTable.{PairTable}
use Rattle.seg_machine.specs.Machine.{Machine}
use Rattle.seg_machine.specs.Pick.{machine_stretch}
use Rattle.seg_clusters.specs.Certain.{AreCertain, IsByMachine}
use Rattle.seg_clusters.specs.Rules.{boundaries_by, first_stretch, machine_in, ResetsAfter}
use Rattle.seg_clusters.specs.Rules.Rules.{ByMachine as ByClusterMachine, ByTable as ByClusterTable}
use Rattle.seg_clusters.specs.Spans.{inner_cuts, inner_stretch, IsOutsideRuns, IsSpanEdge}
use Rattle.seg_clusters.specs.Payloads.{Payloads, run_cuts_by}
use Rattle.seg_rows.specs.Underway.{IsLater}
use Rattle.seg_line_pairs.specs.declared.options.LineBreakStrictness.{LineBreakStrictness}
use Rattle.seg_line_pairs.specs.declared.options.LineBreakStrictness.TheVariants as strictness
use Rattle.seg_line_pairs.specs.LineBoundaries.{HasComplexCodePoint, inside, line_boundaries, line_stretch}
use Rattle.seg_line_pairs.specs.LineRules.{TableRules}
use Rattle.seg_line_pairs.specs.declared.engines.LineEngine.TheVariants.{Seventeen, Classic}
use Rattle.seg_line_turns.specs.TurnBoundaries.{AreTurnBoundaries, turn_boundaries}
use Rattle.seg_lines.specs.declared.joined.First.{First}
use Rattle.seg_lines.specs.declared.joined.First.TheVariants as firsts

-- Boundaries joined with cuts, as a set of places: a boundary keeps its status, and a cut where none stands has status 0.

-- boundaries that rise, and one cut
abbrev pub with_cut : ℕ → List Boundary → List Boundary
with_cut cut [] = boundary cut 0 ∷ []
with_cut cut (found ∷ boundaries) =
    if nat_lt cut found.offset
    then boundary cut 0 ∷ found ∷ boundaries
    else if cut == found.offset then found ∷ boundaries else found ∷ with_cut cut boundaries

abbrev pub joined : List Boundary → List ℕ → List Boundary
joined boundaries [] = boundaries
joined boundaries (cut ∷ cuts) = with_cut cut (joined boundaries cuts)

-- all are above a number
abbrev pub AreAbove : ℕ → List ℕ → Type 0
AreAbove low [] = Unit {0}
AreAbove low (n ∷ numbers) = (low < n) × AreAbove low numbers

-- each is above those before it
abbrev pub AreRising : List ℕ → Type 0
AreRising [] = Unit {0}
AreRising (n ∷ numbers) = AreAbove n numbers × AreRising numbers

-- a boundary where a cut stands and none of the others, with status 0
abbrev pub IsCutAlone : List Boundary → List ℕ → Boundary → Type 0
IsCutAlone boundaries cuts found = (found.status ≡ 0) × Contains cuts found.offset × (Contains (offsets boundaries) found.offset → ⊥)

-- boundaries and cuts are joined: the list rises, and holds all boundaries, the cuts that stand alone, and nothing else
pub record IsJoin (boundaries : List Boundary) (cuts : List ℕ) (found : List Boundary) : Type 0 where
  pub rises : AreRising (offsets found)
  pub holds : (one : Boundary) → Contains found one ↔ (Contains boundaries one ⊎ IsCutAlone boundaries cuts one)

-- both are what is left of one text
abbrev pub AreOfOneText : Text → Text → Type 0
AreOfOneText one other = (whole : Text) × IsRising whole.items whole.end × IsLater whole one × IsLater whole other

-- What comes first of the next boundary and the next cut.

abbrev pub ComesFirst : Option Boundary → Option ℕ → First → Type 0
ComesFirst found cut firsts.Nothing = (found ≡ None) × (cut ≡ None)
ComesFirst found cut (firsts.Cut place) = (cut ≡ Some place) × IfSome found (λ boundary. place < boundary.offset)
ComesFirst found cut (firsts.Boundary boundary) = (found ≡ Some boundary) × IfSome cut (λ place. boundary.offset < place)
ComesFirst found cut (firsts.Both boundary) = (found ≡ Some boundary) × (cut ≡ Some boundary.offset)

-- The boundaries of lines: those of clusters, those of a pair table, by verdicts on units or turn by turn, or those of a machine joined with
-- the cuts strictly inside runs.

-- what the breaks of lines are found by
pub data LineFinder : Type 0 where
  -- the clusters: a line may be broken at each of their boundaries
  ByClusters : LineFinder
  -- the places of clusters alone, none of them mandatory
  ByPlaces : LineFinder
  -- a pair table of lines, with what options say, whose complex class tells the runs
  ByTable : TableRules Classic → LineFinder
  -- a pair table of lines of the engine 17, with what options say, read turn by turn; classes SA and SA_MC_MN tell the runs
  ByTurns : TableRules Seventeen → LineFinder
  -- a machine of lines, whose scripts tell the runs
  ByMachine : Machine → LineFinder

-- that, and what runs are cut by: the words of scripts, at the ends of clusters alone
pub record LineRules : Type 0 where
  pub finder : LineFinder
  pub payloads : Payloads

-- by Anywhere the places of clusters alone
abbrev pub unless_anywhere : LineBreakStrictness → LineFinder → LineFinder
unless_anywhere strictness.Anywhere finder = ByPlaces
unless_anywhere strictness.Loose finder = finder
unless_anywhere strictness.Normal finder = finder
unless_anywhere strictness.Strict finder = finder

-- by a pair table of lines, with what options say, a pair table of clusters and the words of scripts
abbrev pub table_lines : TableRules Classic → PairTable → ScriptWords → LineRules
table_lines rules clusters words = record {
  finder = unless_anywhere rules.style.strictness (ByTable rules);
  payloads = record { words = words; clusters = ByClusterTable clusters None };
}

-- how lines are found by the rules of the engine 17
abbrev pub turn_lines : TableRules Seventeen → PairTable → ScriptWords → LineRules
turn_lines rules clusters words = record {
  finder = unless_anywhere rules.style.strictness (ByTurns rules);
  payloads = record { words = words; clusters = ByClusterTable clusters None };
}

-- by a machine of lines, with a machine of clusters and the words of scripts
abbrev pub machine_lines : Machine → Machine → ScriptWords → LineRules
machine_lines m clusters words = record { finder = ByMachine m; payloads = record { words = words; clusters = ByClusterMachine clusters } }

-- these rules of lines with other words of scripts
abbrev pub lines_with_words : LineRules → ScriptWords → LineRules
lines_with_words rules words = record { finder = rules.finder; payloads = record { words = words; clusters = rules.payloads.clusters } }

-- the machine that finds the breaks, if one does: that of clusters, or that of lines
abbrev pub machine_in_finder : LineFinder → Payloads → Option Machine
machine_in_finder ByClusters payloads = machine_in payloads.clusters
machine_in_finder ByPlaces payloads = None
machine_in_finder (ByTable rules) payloads = None
machine_in_finder (ByTurns rules) payloads = None
machine_in_finder (ByMachine m) payloads = Some m

abbrev pub machine_of_lines : LineRules → Option Machine
machine_of_lines rules = machine_in_finder rules.finder rules.payloads

abbrev pub boundaries_with : LineFinder → Payloads → List ℕ → List Boundary
boundaries_with ByClusters payloads code_points = boundaries_by payloads.clusters code_points
boundaries_with ByPlaces payloads code_points = with_status 0 (offsets (boundaries_by payloads.clusters code_points))
boundaries_with (ByTable rules) payloads code_points = line_boundaries (inside (run_cuts_by payloads)) rules code_points
boundaries_with (ByTurns rules) payloads code_points = turn_boundaries (inside (run_cuts_by payloads)) rules code_points
boundaries_with (ByMachine m) payloads code_points = joined (list_boundaries (machine_stretch m) code_points) (inner_cuts m payloads code_points)

-- the boundaries of lines in a list of code points
abbrev pub line_boundaries_by : LineRules → List ℕ → List Boundary
line_boundaries_by rules = boundaries_with rules.finder rules.payloads

-- the boundaries of lines in a text: those of its code points, at the places of its items
abbrev pub line_boundaries_of : LineRules → Text → List Boundary
line_boundaries_of rules text = boundaries_in (line_boundaries_by rules) text

-- these are the boundaries of lines: by turns those after the first are those of each turn; by a machine its own boundaries, and the cuts inside
-- runs, span by span, are joined
abbrev pub AreBoundariesWith : LineFinder → Payloads → List ℕ → List Boundary → Type 0
AreBoundariesWith ByClusters payloads code_points found = AreBoundaries (first_stretch payloads.clusters) code_points found
AreBoundariesWith ByPlaces payloads code_points found =
    (boundaries : List Boundary) × (AreBoundaries (first_stretch payloads.clusters) code_points boundaries × (found ≡ with_status 0 (offsets boundaries)))
AreBoundariesWith (ByTable rules) payloads code_points found = AreBoundaries (line_stretch (inside (run_cuts_by payloads)) rules) code_points found
AreBoundariesWith (ByTurns rules) payloads code_points found = AreTurnBoundaries (inside (run_cuts_by payloads)) rules code_points found
AreBoundariesWith (ByMachine m) payloads code_points found =
    (boundaries : List Boundary) × (AreBoundaries (machine_stretch m) code_points boundaries
    × ((inner : List Boundary) × ((spans : List Stretch) × (AreLaterBoundaries (inner_stretch m payloads) code_points spans inner
    × IsJoin boundaries (offsets inner) found))))

abbrev pub AreLineBoundaries : LineRules → List ℕ → List Boundary → Type 0
AreLineBoundaries rules = AreBoundariesWith rules.finder rules.payloads

-- each list has such boundaries, and no others
pub record HasOneList (rules : LineRules) : Type 0 where
  pub exists : (code_points : List ℕ) → AreLineBoundaries rules code_points (line_boundaries_by rules code_points)
  pub only : (code_points : List ℕ) (found : List Boundary) → AreLineBoundaries rules code_points found → found ≡ line_boundaries_by rules code_points

-- a text may be segmented anew from any of its boundaries: clusters are found, no code point is complex, or no script has words; by turns it is
-- said of no text, since a boundary may be decided by what stands far before it
abbrev pub MayRestart : LineFinder → ScriptWords → List ℕ → Type 0
MayRestart ByClusters words code_points = Unit {0}
MayRestart ByPlaces words code_points = Unit {0}
MayRestart (ByTable rules) words code_points = HasComplexCodePoint rules code_points → ⊥
MayRestart (ByTurns rules) words code_points = ⊥
MayRestart (ByMachine m) words code_points = words ≡ no_words

-- Code points behind which the boundaries of lines start afresh.

-- where clusters are found, no scan of theirs looks past the code point; by a machine of lines none of its own does, and the
-- code point stands in no run; of a pair table it is said of none
abbrev pub LinesResetWith : LineFinder → Payloads → ℕ → Type 0
LinesResetWith ByClusters payloads code_point = ResetsAfter payloads.clusters code_point
LinesResetWith ByPlaces payloads code_point = ResetsAfter payloads.clusters code_point
LinesResetWith (ByTable rules) payloads code_point = ⊥
LinesResetWith (ByTurns rules) payloads code_point = ⊥
LinesResetWith (ByMachine m) payloads code_point = ResetsAfter (ByClusterMachine m) code_point × IsOutsideRuns m payloads.words code_point

abbrev pub LinesResetAfter : LineRules → ℕ → Type 0
LinesResetAfter rules code_point = LinesResetWith rules.finder rules.payloads code_point

-- Certain places: between the last two of three code points a boundary of lines stands, whatever stands around.

-- a machine finds the breaks, that of lines or that of clusters: of others no place is known to be certain
abbrev pub HasCertainLinesWith : LineFinder → Payloads → Type 0
HasCertainLinesWith ByClusters payloads = IsByMachine payloads.clusters
HasCertainLinesWith ByPlaces payloads = IsByMachine payloads.clusters
HasCertainLinesWith (ByTable rules) payloads = ⊥
HasCertainLinesWith (ByTurns rules) payloads = ⊥
HasCertainLinesWith (ByMachine m) payloads = Unit {0}

abbrev pub HasCertainLines : LineRules → Type 0
HasCertainLines rules = HasCertainLinesWith rules.finder rules.payloads

-- where clusters are found, a place is certain as one of theirs; by a machine of lines no scan passes there, and no run goes over the place
abbrev pub LinesAreCertainWith : LineFinder → Payloads → ℕ → ℕ → ℕ → Type 0
LinesAreCertainWith ByClusters payloads before one other = AreCertain payloads.clusters before one other
LinesAreCertainWith ByPlaces payloads before one other = AreCertain payloads.clusters before one other
LinesAreCertainWith (ByTable rules) payloads before one other = ⊥
LinesAreCertainWith (ByTurns rules) payloads before one other = ⊥
LinesAreCertainWith (ByMachine m) payloads before one other =
    AreCertain (ByClusterMachine m) before one other × (IsOutsideRuns m payloads.words one ⊎ IsSpanEdge m payloads.words one other)

abbrev pub LinesAreCertain : LineRules → ℕ → ℕ → ℕ → Type 0
LinesAreCertain rules before one other = LinesAreCertainWith rules.finder rules.payloads before one other

-- Lines by a pair table have no mandatory break.

-- breaks are found by a pair table: of lines, by verdicts on units or turn by turn, or, by Anywhere, of clusters
abbrev pub IsByPairTable : LineFinder → Type 0
IsByPairTable ByClusters = ⊥
IsByPairTable ByPlaces = Unit {0}
IsByPairTable (ByTable rules) = Unit {0}
IsByPairTable (ByTurns rules) = Unit {0}
IsByPairTable (ByMachine m) = ⊥

-- none of these is mandatory: the status of each is 0
abbrev pub HasNoMandatoryBreak : List Boundary → Type 0
HasNoMandatoryBreak found = (k : ℕ) (one : Boundary) → slice_get found k ≡ Some one → one.status ≡ 0

-- All boundaries that an engine has still to give.
