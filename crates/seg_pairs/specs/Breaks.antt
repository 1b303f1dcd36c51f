-- The boundaries that a pair table finds in a text: from its start on, verdict by verdict.
use Rattle.std.specs.Prelude.{ℕ, zero, suc, Option, List, [], ◌∷◌, length, map, slice_index_or, ◌≡◌, ◌≢◌, ◌<◌, ◌==◌, Bool, ◌++◌, take, Contains}
use Rattle.std.specs.List.{prefix_len}
use Rattle.seg_text.specs.declared.boundary.Boundary.{Boundary}
use Rattle.seg_text.specs.Boundaries.{boundary, Stretch, list_boundaries, boundaries_in, Cuts, AreCutsOf, with_status, cut_places, later_boundaries}
use Rattle.seg_text.specs.Items.{Text, code_points}
use Rattle.seg_data.specs.Table.{Table}
use Rattle.seg_pairs.specs.PairTable.{PairTable, class_of}
use Rattle.seg_pairs.specs.declared.pair_data.PairDataBorrowed.{PairDataBorrowed}
use Rattle.seg_pairs.specs.PairData.{pair_table_of, override_of}
use Rattle.seg_pairs.specs.Verdict.{Verdict, verdict, complex_verdict}
use Rattle.seg_pairs.specs.Verdict.Verdict.{BreakAfter, GoAfter, RunBegins}
use Rattle.seg_pairs.specs.declared.runs.Event.{Event}
use Rattle.seg_pairs.specs.declared.runs.Event.TheVariants.{End, Break, Run}

-- the rule status of a class, of which class 0 has none
abbrev pub status_of : List ℕ → ℕ → ℕ
status_of statuses zero = 0
status_of statuses (suc class) = slice_index_or statuses class 0

-- the first stretch of so many elements by the verdict on the first: up to a boundary, which has the status of its class,
-- or up to the element whose verdict is asked next; a run, which no table begins by itself, is all of them
abbrev pub stretch_of : List ℕ → ℕ → Verdict → Stretch
stretch_of statuses count (BreakAfter taken class) =
    record { extent = taken; boundaries = boundary taken (status_of statuses class) ∷ [] }
stretch_of statuses count (GoAfter taken) = record { extent = taken; boundaries = [] }
stretch_of statuses count RunBegins = record { extent = count; boundaries = [] }

-- the first stretch of some classes
unfoldable pub class_stretch : PairTable → List ℕ → Stretch
class_stretch t classes = stretch_of t.rule_status_table (length classes) (verdict t classes)

-- the classes of code points, by a table and its override
abbrev pub classes_by : PairTable → Option Table → List ℕ → List ℕ
classes_by t overriding code_points = map (class_of t overriding) code_points

-- the first stretch of some code points
abbrev pub table_stretch : PairTable → Option Table → List ℕ → Stretch
table_stretch t overriding code_points = class_stretch t (classes_by t overriding code_points)

-- the boundaries of a list of code points
abbrev pub table_boundaries : PairTable → Option Table → List ℕ → List Boundary
table_boundaries t overriding code_points = list_boundaries (table_stretch t overriding) code_points

-- Boundaries by a pair table in texts with complex elements: a boundary stands before a complex element after another, and
-- two begin a run, which is cut in some way. After a run the table goes on with the element that follows it.

abbrev pub is_complex : PairTable → Option Table → ℕ → Bool
is_complex t overriding code_point = class_of t overriding code_point == t.complex_property

-- some of these code points are complex
abbrev pub HasComplexElement : PairTable → Option Table → List ℕ → Type 0
HasComplexElement t overriding code_points = Contains (classes_by t overriding code_points) t.complex_property

-- a run has all code points up to the first that isn't complex
abbrev pub run_length : PairTable → Option Table → List ℕ → ℕ
run_length t overriding code_points = prefix_len (is_complex t overriding) code_points

-- the status of the boundaries in a run: that of the complex class
abbrev pub run_status : PairTable → ℕ
run_status t = status_of t.rule_status_table t.complex_property

-- the first stretch of some code points by the verdict on the first: as without runs, or a run with its cuts
abbrev pub stretch_with_runs : Cuts → PairTable → Option Table → List ℕ → Verdict → Stretch
stretch_with_runs cuts t overriding code_points (BreakAfter taken class) =
    stretch_of t.rule_status_table (length code_points) (BreakAfter taken class)
stretch_with_runs cuts t overriding code_points (GoAfter taken) =
    stretch_of t.rule_status_table (length code_points) (GoAfter taken)
stretch_with_runs cuts t overriding code_points RunBegins =
    let extent = run_length t overriding code_points in
    record { extent = extent; boundaries = with_status (run_status t) (cuts (take extent code_points)) }

-- the first stretch of some code points
abbrev pub complex_stretch : Cuts → PairTable → Option Table → List ℕ → Stretch
complex_stretch cuts t overriding code_points =
    stretch_with_runs cuts t overriding code_points (complex_verdict t (classes_by t overriding code_points))

-- a text that is being read, and the pair table and its override by which it is
pub record Unread : Type 0 where
  pub table : PairTable
  pub overriding : Option Table
  pub text : Text

abbrev pub unread_by : PairDataBorrowed → Text → Unread
unread_by pairs text = record { table = pair_table_of pairs; overriding = override_of pairs; text = text }

-- the boundaries of an unread text but that at its start
abbrev pub unread_boundaries : Cuts → Unread → List Boundary
unread_boundaries cuts unread = boundaries_in (later_boundaries (complex_stretch cuts unread.table unread.overriding)) unread.text

-- what comes next, however runs are cut: the end, a boundary with the status of its class, or a run with its boundaries
abbrev pub LeadsTo : {I : Type 0} → (I → Text) → Unread → Event I → Unread → Type 0
LeadsTo text before End after = (before.text.items ≡ []) × (after ≡ before)
LeadsTo text before (Break place class) after =
    (cuts : Cuts) → unread_boundaries cuts before
    ≡ boundary place (status_of before.table.rule_status_table class) ∷ unread_boundaries cuts after
LeadsTo text before (Run run) after =
    (cuts : Cuts) → AreCutsOf (length (text run).items) (cuts (code_points (text run).items))
    → unread_boundaries cuts before ≡ with_status (run_status before.table) (cut_places cuts (text run)) ++ unread_boundaries cuts after

-- the text goes on by the same table, and less of it is left
pub record GoesOnUnread (before after : Unread) : Type 0 where
  pub table : after.table ≡ before.table
  pub overriding : after.overriding ≡ before.overriding
  pub end : after.text.end ≡ before.text.end
  pub fewer : before.text.items ≢ [] → length after.text.items < length before.text.items
