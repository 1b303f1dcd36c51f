-- A line that is wider than its columns, and one that isn't, as they are shown; and a part of one.
use Rattle.std.proofs.Common.{◌≡◌, ℕ, ◌<◌, ◌≤◌, Bool, List, ◌++◌, Option, None, Some, refl, sym, ap, ◌∙◌, arith}
use Rattle.std.specs.Prelude.{◌&&◌}
use Rattle.std.proofs.lemmas.Bool.{le-ltb, lt-ltb}
use Rattle.icu_segmenter.specs.Decoding.{utf8}
use Rattle.icu_segmenter.specs.LineBreaks.{LineRules}
use Rattle.icu_segmenter.specs.Wrapping.{Measure, TextLine, columns_in}
use Rattle.icu_segmenter.specs.WrappedLines.{wrapped_within}
use Rattle.seg_wrap.specs.declared.wrap.wrapping.Room.{Room}
use Rattle.segment_text.specs.Trimmed.{printed_line, without_trailing_space}
use Rattle.segment_output.specs.Wrapped.{Indents, Wrapping, indent_in, indented_line, printed_lines, room_from, shown_by, shown_line}

pub shown-wide : (wrapping : Wrapping) (rules : LineRules) (line : TextLine) → wrapping.broken ≡ Some rules → columns_in wrapping.room line.is_first < line.columns
    → shown_line wrapping line
    ≡ printed_lines wrapping.indents line.is_first (wrapped_within utf8 wrapping.measure rules (room_from wrapping.room line.is_first) (without_trailing_space line.units))
shown-wide wrapping rules line broken wider = rw broken (rw (lt-ltb (columns_in wrapping.room line.is_first) line.columns wider) refl)

pub shown-whole : (wrapping : Wrapping) (line : TextLine) → ((rules : LineRules) → wrapping.broken ≡ Some rules → line.columns ≤ columns_in wrapping.room line.is_first)
    → shown_line wrapping line ≡ indented_line wrapping.indents line.is_first line.units
shown-whole wrapping line narrow = on wrapping.broken refl
  where
    on : (broken : Option LineRules) → wrapping.broken ≡ broken → shown_by broken wrapping line ≡ indented_line wrapping.indents line.is_first line.units
    on None is = refl
    on (Some rules) is = rw (le-ltb (columns_in wrapping.room line.is_first) line.columns (narrow rules is)) refl

pub part-added : (indents : Indents) (is_first first : Bool) (before after indent blank bytes : List ℕ) (line : TextLine) → after ≡ before ++ printed_line indent blank bytes
    → indent ≡ indent_in indents (first && is_first) → first ≡ line.is_first → blank ≡ indents.others → bytes ≡ line.units
    → after ≡ before ++ indented_line indents (line.is_first && is_first) line.units
part-added indents is_first first before after indent blank bytes line added indent-is first-is blank-is bytes-is = rw (added, indent-is, first-is, blank-is, bytes-is) refl

-- a line is added that is shown as its parts
pub line-wide : (wrapping : Wrapping) (rules : LineRules) (bytes shown before after : List ℕ) (parts : List TextLine) (room : Room) (columns : ℕ) (is_first : Bool)
    → wrapping.broken ≡ Some rules → columns_in wrapping.room is_first < columns → parts ≡ wrapped_within utf8 wrapping.measure rules room shown
    → room ≡ room_from wrapping.room is_first → shown ≡ without_trailing_space bytes
    → after ≡ before ++ printed_lines wrapping.indents is_first parts
    → (line : TextLine) → line.units ≡ bytes → line.columns ≡ columns → line.is_first ≡ is_first → after ≡ before ++ shown_line wrapping line
line-wide wrapping rules bytes shown before after parts room columns is_first broken wider parts-are room-is shown-is added line units-are columns-are first-is =
    added
    ∙ ap (λ (more : List ℕ). before ++ more)
    (rw (parts-are, room-is, shown-is, ← units-are, ← first-is)
    (sym (shown-wide wrapping rules line broken (rw (columns-are, first-is) wider))))

-- and one that is shown as it is
pub line-whole : (wrapping : Wrapping) (bytes before after indent blank : List ℕ) (columns : ℕ) (is_first : Bool)
    → ((rules : LineRules) → wrapping.broken ≡ Some rules → columns ≤ columns_in wrapping.room is_first)
    → indent ≡ indent_in wrapping.indents is_first → blank ≡ wrapping.indents.others
    → after ≡ before ++ printed_line indent blank bytes
    → (line : TextLine) → line.units ≡ bytes → line.columns ≡ columns → line.is_first ≡ is_first → after ≡ before ++ shown_line wrapping line
line-whole wrapping bytes before after indent blank columns is_first narrow indent-is blank-is added line units-are columns-are first-is =
    added
    ∙ ap (λ (more : List ℕ). before ++ more)
    (rw (indent-is, blank-is, ← units-are, ← first-is)
    (sym (shown-whole wrapping line (λ rules is. rw (columns-are, first-is) (narrow rules is)))))

-- where no line is broken
abbrev count_of : Option LineRules → ℕ
count_of None = 0
count_of (Some rules) = 1

pub narrow-none : (broken : Option LineRules) (columns limit : ℕ) → broken ≡ None → (rules : LineRules) → broken ≡ Some rules → columns ≤ limit
narrow-none broken columns limit none rules some = absurd (omega (arith, ap count_of (sym none ∙ some)))

pub parts-by : (parts : List TextLine) (measure counted : Measure) (rules broken : LineRules) (room : Room) (bytes : List ℕ)
    → parts ≡ wrapped_within utf8 measure rules room bytes → measure ≡ counted → rules ≡ broken → parts ≡ wrapped_within utf8 counted broken room bytes
parts-by parts measure counted rules broken room bytes is measure-is rules-is = rw (← measure-is, ← rules-is) is
