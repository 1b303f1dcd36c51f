-- What is seen of lines that are given, and of iterators over them.
use Rattle.std.specs.Prelude.{◌≡◌, ℕ, List}
use Rattle.std.specs.List.{flat_map}
use Rattle.seg_text.specs.Decoding.{utf8}
use Rattle.seg_text.specs.Items.{Text}
use Rattle.seg_lines.specs.LineBreaks.{LineRules, line_boundaries_of}
use Rattle.seg_lines.specs.Lines.{line_rules}
use Rattle.seg_wrap.specs.declared.wrap.LineWrapper.{LineWrapper}
use Rattle.seg_wrap.specs.declared.wrap.WrappedLine.{WrappedLine}
use Rattle.seg_wrap.specs.declared.wrap.WrapIterator.{WrapIterator}
use Rattle.seg_wrap.specs.declared.wrap.paragraphs.ParagraphStyle.{ParagraphStyle}
use Rattle.seg_wrap.specs.declared.wrap.wrapping.Room.{Room}
use Rattle.seg_wrap.specs.declared.wrap.WrappedUtf8Line.{WrappedUtf8Line}
use Rattle.seg_wrap.specs.declared.wrap.WrapUtf8Iterator.{WrapUtf8Iterator}
use Rattle.seg_wrap.specs.declared.wrap.utf16.WrappedUtf16Line.{WrappedUtf16Line}
use Rattle.seg_wrap.specs.declared.wrap.utf16.WrapUtf16Iterator.{WrapUtf16Iterator}
use Rattle.seg_wrap.specs.Paragraphs.{ParagraphsLeft}
use Rattle.seg_wrap.specs.Walk.{measure_of}
use Rattle.seg_wrap.specs.Wrapping.{Measure, TextLine, even, segments_of, text_lines, wrapped_lines}

-- the lines of a text that stands in some units, which this decodes, so measured, wrapped to these columns at the breaks that these rules find
abbrev pub wrapped_within : (List ℕ → Text) → Measure → LineRules → Room → List ℕ → List TextLine
wrapped_within decode measure rules room units =
    text_lines units (decode units) (wrapped_lines room (segments_of measure (decode units) (line_boundaries_of rules (decode units))))

-- and to as many columns in each line
abbrev pub wrapped_units : (List ℕ → Text) → Measure → LineRules → ℕ → List ℕ → List TextLine
wrapped_units decode measure rules limit units = wrapped_within decode measure rules (even limit) units

-- the wrapped lines of possibly ill-formed UTF-8
abbrev pub wrapped_text : Measure → LineRules → ℕ → List ℕ → List TextLine
wrapped_text measure rules limit bytes = wrapped_units utf8 measure rules limit bytes

-- the paragraphs of such a text are left, whose lines are chosen so
pub record AreParagraphsOf (decode : List ℕ → Text) (measure : Measure) (rules : LineRules) (chosen : ParagraphStyle) (units : List ℕ) (left : ParagraphsLeft) : Type 0 where
  pub text : left.text ≡ decode units
  pub segments : left.segments ≡ segments_of measure (decode units) (line_boundaries_of rules (decode units))
  pub measured : measure_of left.measuring ≡ measure
  pub style : left.style ≡ chosen

-- what lines stand in, one after another
abbrev pub joined_units : List TextLine → List ℕ
joined_units lines = flat_map (λ line. line.units) lines

-- what a wrapper finds line breaks by
abbrev pub wrapper_rules : LineWrapper → LineRules
wrapper_rules wrapper = line_rules wrapper.lines

-- and how it measures what stands between them
abbrev pub wrapper_measure : LineWrapper → Measure
wrapper_measure wrapper = measure_of wrapper.measuring

-- a line that was given
abbrev pub line_in : WrappedLine → TextLine
line_in line = record { units = line.text.now; columns = line.columns; is_first = line.is_first; is_mandatory = line.is_mandatory }

abbrev pub utf8_line_in : WrappedUtf8Line → TextLine
utf8_line_in line = record { units = line.bytes.now; columns = line.columns; is_first = line.is_first; is_mandatory = line.is_mandatory }

abbrev pub utf16_line_in : WrappedUtf16Line → TextLine
utf16_line_in line = record { units = line.units.now; columns = line.columns; is_first = line.is_first; is_mandatory = line.is_mandatory }

-- the lines that an iterator has still to give
abbrev pub lines_to_come : WrapIterator → List TextLine
lines_to_come iterator = text_lines iterator.text.now iterator.lines.text iterator.lines.lines

abbrev pub utf8_lines_to_come : WrapUtf8Iterator → List TextLine
utf8_lines_to_come iterator = text_lines iterator.bytes.now iterator.lines.text iterator.lines.lines

abbrev pub utf16_lines_to_come : WrapUtf16Iterator → List TextLine
utf16_lines_to_come iterator = text_lines iterator.units.now iterator.lines.text iterator.lines.lines
