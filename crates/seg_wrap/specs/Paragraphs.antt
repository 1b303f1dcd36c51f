-- Lines of a text, chosen paragraph by paragraph.
use Rattle.std.specs.Prelude.{ℕ, ◌-◌, Bool, true, false, List, [], ◌∷◌, ◌++◌, drop, take, length, map, min, if◌then◌else◌, ◌≡◌, Option, None, Some}
use Rattle.seg_balance.specs.declared.balance.Limits.{Limits}
use Rattle.seg_balance.specs.declared.balance.MeasuredSegment.{MeasuredSegment}
use Rattle.seg_balance.specs.Balanced.{AreBalanced, AreFilled, ends_hyphenated, with_hyphen}
use Rattle.seg_hyphens.specs.declared.patterns.HyphenationPatterns.{HyphenationPatterns}
use Rattle.seg_hyphens.specs.Liang.{Hyphenation}
use Rattle.seg_hyphens.specs.Patterns.{Means}
use Rattle.seg_hyphens.specs.Words.{AreWordPoints}
use Rattle.seg_lines.specs.Between.{between}
use Rattle.seg_text.specs.Items.{Text, rest_after, start_of}
use Rattle.seg_wrap.specs.declared.wrap.measure.Measuring.{Measuring}
use Rattle.seg_wrap.specs.declared.wrap.paragraphs.Fit.{Fit}
use Rattle.seg_wrap.specs.declared.wrap.paragraphs.Fit.TheVariants.{Balanced, First}
use Rattle.seg_wrap.specs.declared.wrap.paragraphs.ParagraphStyle.{ParagraphStyle}
use Rattle.seg_wrap.specs.declared.wrap.wrapping.Room.{Room}
use Rattle.seg_wrap.specs.declared.wrap.wrapping.Span.{Span}
use Rattle.seg_wrap.specs.Walk.{measure_of}
use Rattle.seg_wrap.specs.Wrapping.{Line, Measure, Segment, are_trailing, as_one, columns_of, even, segment_of, total_of}

-- balanced lines of so many columns
abbrev pub balanced_style : ℕ → ParagraphStyle
balanced_style columns = record { room = even columns; fit = Balanced }

-- ---- paragraphs

-- the first paragraph of these segments: up to the first that is mandatory
unfoldable pub first_paragraph : List Segment → List Segment
first_paragraph [] = []
first_paragraph (segment ∷ segments) = segment ∷ (if segment.is_mandatory then [] else first_paragraph segments)

-- and those behind it
unfoldable pub behind_paragraph : List Segment → List Segment
behind_paragraph [] = []
behind_paragraph (segment ∷ segments) = if segment.is_mandatory then segments else behind_paragraph segments

-- ---- parts

-- a part of a text behind which a line may end, and whether it shows a hyphen then
pub record Part : Type 0 where
  pub segment : Segment
  pub is_hyphenated : Bool

-- what a part takes of a line
abbrev pub measured : Part → MeasuredSegment
measured part = record {
  columns = columns_of part.segment.cells;
  trailing_columns = total_of part.segment.cells - columns_of part.segment.cells;
  is_blank = are_trailing part.segment.cells;
  is_hyphenated = part.is_hyphenated;
  is_mandatory = part.segment.is_mandatory;
}

-- a segment, cut behind so many of its characters, from so many on: each part but the last ends with a hyphen
unfoldable pub cut_at : Measure → ℕ → List ℕ → Segment → List Part
cut_at measure from [] segment = record { segment = segment_of measure (drop from segment.characters) segment.is_mandatory; is_hyphenated = false } ∷ []
cut_at measure from (count ∷ counts) segment =
    record { segment = segment_of measure (between from count segment.characters) false; is_hyphenated = true } ∷ cut_at measure count counts segment

-- behind so many of these characters a word may be hyphenated: where the patterns let it
abbrev pub AreHyphens : Option HyphenationPatterns → List ℕ → List ℕ → Type 0
AreHyphens None characters counts = counts ≡ []
AreHyphens (Some patterns) characters counts = (hyphenation : Hyphenation) → Means patterns hyphenation → AreWordPoints hyphenation characters counts

-- the parts of segments: of each those between its hyphens
unfoldable pub AreParts : Option HyphenationPatterns → Measure → List Segment → List Part → Type 0
AreParts patterns measure [] parts = parts ≡ []
AreParts patterns measure (segment ∷ segments) parts =
    (counts : List ℕ) × AreHyphens patterns segment.characters counts
    × (later : List Part) × (parts ≡ cut_at measure 0 counts segment ++ later) × AreParts patterns measure segments later

-- parts as one segment
unfoldable pub joined : List Part → Segment
joined [] = record { characters = []; cells = []; is_mandatory = false }
joined (part ∷ []) = part.segment
joined (part ∷ next ∷ parts) = as_one part.segment (joined (next ∷ parts))

-- ---- lines

-- these parts as a line, which is the first of its paragraph or not
abbrev pub line_of_parts : Bool → List Part → Line
line_of_parts is_first parts =
    let hyphen = ends_hyphenated (map measured parts) in
    record {
      characters = (joined parts).characters;
      columns = with_hyphen (columns_of (joined parts).cells) hyphen;
      is_first = is_first;
      is_hyphenated = hyphen;
      is_mandatory = (joined parts).is_mandatory;
    }

-- lines of a paragraph with so many of these parts each, from its first line on or from a later one
unfoldable pub lines_with : Bool → List ℕ → List Part → List Line
lines_with is_first [] parts = []
lines_with is_first (count ∷ counts) parts = line_of_parts is_first (take count parts) ∷ lines_with false counts (drop count parts)

-- the columns that lines have at most, of which more than 4,294,967,295 are as many
abbrev pub limits_of : Room → Limits
limits_of room = record { first = min room.first 4294967295; others = min room.others 4294967295 }

-- so many parts are chosen for each line: as many as it may have, or those of balanced lines
abbrev pub AreChosen : Fit → Limits → List MeasuredSegment → List ℕ → Type 0
AreChosen First limits segments counts = AreFilled limits true segments counts
AreChosen Balanced limits segments counts = AreBalanced limits true segments counts

-- these are the lines of a paragraph with these parts
abbrev pub AreLinesOf : ParagraphStyle → List Part → List Line → Type 0
AreLinesOf style parts lines = (counts : List ℕ) × (AreChosen style.fit (limits_of style.room) (map measured parts) counts × (lines ≡ lines_with true counts parts))

-- where lines of a text stand
unfoldable pub spans_of : Text → List Line → List Span
spans_of text [] = []
spans_of text (line ∷ lines) =
    let rest = rest_after (length line.characters) text in
    record {
      start = start_of text;
      end = start_of rest;
      columns = line.columns;
      is_first = line.is_first;
      is_hyphenated = line.is_hyphenated;
      is_mandatory = line.is_mandatory;
    } ∷ spans_of rest lines

-- what is left of a text, its segments, how they are measured, and how lines are chosen
pub record ParagraphsLeft : Type 0 where
  pub text : Text
  pub segments : List Segment
  pub measuring : Measuring
  pub style : ParagraphStyle

-- the lines of the first paragraph were given, hyphenated by patterns, if by some
pub record GivesParagraph (patterns : Option HyphenationPatterns) (before : ParagraphsLeft) (spans : List Span) (after : ParagraphsLeft) : Type 0 where
  pub parts : List Part
  pub are : AreParts patterns (measure_of before.measuring) (first_paragraph before.segments) parts
  pub lines : List Line
  pub chosen : AreLinesOf before.style parts lines
  pub stand : spans ≡ spans_of before.text lines
  pub text : after.text ≡ rest_after (length (joined parts).characters) before.text
  pub segments : after.segments ≡ behind_paragraph before.segments
  pub measuring : after.measuring ≡ before.measuring
  pub style : after.style ≡ before.style
