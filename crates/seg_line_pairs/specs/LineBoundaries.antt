-- Lines by a pair table: their boundaries, and where none stands before a mark.
use Rattle.std.specs.Prelude.{ℕ, ◌-◌, nat_lt, List, [], ◌∷◌, length, take, filter, Contains, map, ◌≡◌, suc, true, Some, slice_get}
use Rattle.std.specs.List.{prefix_len}
use Rattle.seg_text.specs.declared.boundary.Boundary.{Boundary}
use Rattle.seg_text.specs.Items.{Text}
use Rattle.seg_text.specs.Boundaries.{boundary, boundaries_in, RisesTo, Cuts, with_status, Stretch, list_boundaries, offsets}
use Rattle.seg_pairs.specs.Verdict.{Verdict}
use Rattle.seg_pairs.specs.Verdict.Verdict.{BreakAfter, GoAfter, RunBegins}
use Rattle.seg_line_pairs.specs.declared.engines.PairEngine.{Ghosts}
use Rattle.seg_line_pairs.specs.declared.line_pairs.LinePairs.{LinePairs}
use Rattle.seg_line_pairs.specs.declared.line_pairs.OwnedLinePairs.{OwnedLinePairs}
use Rattle.seg_line_pairs.specs.declared.engines.LineEngine.{LineEngine}
use Rattle.seg_line_pairs.specs.declared.engines.LineEngine.TheVariants.{Classic}
use Rattle.seg_line_pairs.specs.LineRules.{TableRules, line_class, is_complex_point}
use Rattle.seg_line_pairs.specs.LineUnits.{CountedUnit, counted_units, units_of, extent_of, is_mark, bears_none}
use Rattle.seg_line_pairs.specs.LineVerdict.{unit_verdict}

-- What is seen of the data of lines.

abbrev pub rules_by : {E : Type 0} {engine : Ghosts E} → LinePairs E engine → TableRules engine.ENGINE
rules_by pairs = record { table = pairs.table.now; style = pairs.style }

abbrev pub owned_rules_by : {E : Type 0} {engine : Ghosts E} → OwnedLinePairs E engine → TableRules engine.ENGINE
owned_rules_by pairs = record { table = pairs.table; style = pairs.style }

-- The boundaries of lines in a list of code points: verdict by verdict on the units of what is left.

-- a verdict on units, counted in their code points
abbrev pub in_code_points : List CountedUnit → Verdict → Verdict
in_code_points counted (BreakAfter taken class) = BreakAfter (extent_of taken counted) class
in_code_points counted (GoAfter taken) = GoAfter (extent_of taken counted)
in_code_points counted RunBegins = RunBegins

-- the verdict on the first unit of some code points
unfoldable pub line_verdict : {engine : LineEngine} → TableRules engine → List ℕ → Verdict
line_verdict rules code_points =
    in_code_points (counted_units rules code_points) (unit_verdict rules (units_of (counted_units rules code_points)))

-- how many complex code points stand first
abbrev pub complex_length : {engine : LineEngine} → TableRules engine → List ℕ → ℕ
complex_length rules code_points = prefix_len (is_complex_point rules) code_points

-- the first stretch of some code points by the verdict on their first unit. A run is cut in some way, and takes all its code
-- points but the last, which the next verdict is on
abbrev pub line_stretch_of : {engine : LineEngine} → Cuts → TableRules engine → List ℕ → Verdict → Stretch
line_stretch_of cuts rules code_points (BreakAfter taken class) = record { extent = taken; boundaries = boundary taken 0 ∷ [] }
line_stretch_of cuts rules code_points (GoAfter taken) = record { extent = taken; boundaries = [] }
line_stretch_of cuts rules code_points RunBegins =
    let extent = complex_length rules code_points in
    record { extent = extent - 1; boundaries = with_status 0 (cuts (take extent code_points)) }

abbrev pub line_stretch : {engine : LineEngine} → Cuts → TableRules engine → List ℕ → Stretch
line_stretch cuts rules code_points = line_stretch_of cuts rules code_points (line_verdict rules code_points)

-- the boundaries of lines, where runs have these cuts
abbrev pub line_boundaries : {engine : LineEngine} → Cuts → TableRules engine → List ℕ → List Boundary
line_boundaries cuts rules code_points = list_boundaries (line_stretch cuts rules) code_points

-- those cuts that stand strictly inside
abbrev pub inside : Cuts → Cuts
inside cuts run = filter (λ cut. nat_lt cut (length run)) (cuts run)

-- cuts rise strictly from the start of each run, where there is none, and the last is at its end
abbrev pub CutsCover : Cuts → Type 0
CutsCover cuts = (run : List ℕ) → RisesTo 0 (with_status 0 (cuts run)) (length run)

-- the boundaries of a text of lines: those of its code points, at the places of its items
abbrev pub table_line_boundaries_of : Cuts → TableRules Classic → Text → List Boundary
table_line_boundaries_of cuts rules text = boundaries_in (line_boundaries (inside cuts) rules) text

-- some code points are complex, as the options read them
abbrev pub HasComplexCodePoint : TableRules Classic → List ℕ → Type 0
HasComplexCodePoint rules code_points = Contains (map (line_class rules) code_points) rules.table.complex_property

-- No boundary of lines but the first stands before a mark, except after what bears none.

-- where a boundary stands between two code points of which the second is a mark, the first bears none
abbrev pub KeepsMarks : {engine : LineEngine} → TableRules engine → List ℕ → List Boundary → Type 0
KeepsMarks {engine} rules code_points found =
    (k before mark : ℕ) → Contains (offsets found) (suc k)
    → slice_get code_points k ≡ Some before → slice_get code_points (suc k) ≡ Some mark
    → is_mark engine (line_class rules mark) ≡ true → bears_none engine (line_class rules before) ≡ true
