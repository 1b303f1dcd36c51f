-- What is written of wrapped lines where there may be only so many.
use Rattle.std.specs.Prelude.{◌≡◌, ℕ, ◌-◌, nat_le, Option, None, Some, List, [], ◌∷◌, ◌++◌, if◌then◌else◌}
use Rattle.icu_segmenter.specs.Decoding.{utf8}
use Rattle.icu_segmenter.specs.NearBoundaries.{line_feed}
use Rattle.icu_segmenter.specs.Wrapping.{TextLine, bytes_columns, even}
use Rattle.icu_segmenter.specs.WrappedLines.{wrapped_within}
use Rattle.segment_text.specs.Limit.{last_line, lines_before, most_lines, placed_behind}
use Rattle.segment_text.specs.Size.{line_feeds}
use Rattle.segment_text.specs.Trimmed.{without_trailing_space}
use Rattle.segment_text.specs.declared.limit.Limit.{Limit}
use Rattle.segment_output.specs.Paragraphs.{Choosing, IsParagraphOutput}
use Rattle.segment_output.specs.Wrapped.{Wrapping}

-- the first of some lines, without its trailing white space, if it has room in so many columns
abbrev pub first_within : ℕ → List TextLine → List ℕ
first_within columns [] = []
first_within columns (line ∷ lines) = if nat_le line.columns columns then without_trailing_space line.units else []

-- the segments that a line begins with, as many as have room in so many columns
abbrev pub kept_of : Wrapping → ℕ → List ℕ → List ℕ
kept_of wrapping columns line = first_within columns (wrapped_within utf8 wrapping.measure wrapping.lines (even columns) line)

-- a line as its first segments that have room beside a placeholder, and this behind them
abbrev pub shortened_line : Wrapping → List ℕ → List ℕ → List ℕ
shortened_line wrapping placeholder line =
    placed_behind (kept_of wrapping (wrapping.columns - bytes_columns placeholder) line) placeholder ++ line_feed

-- how many lines there may be, and what ends the last of them where there are more
pub record Bound : Type 0 where
  pub lines : ℕ
  pub placeholder : List ℕ

abbrev pub bound_of : Limit → Bound
bound_of limit = record { lines = limit.lines; placeholder = limit.placeholder.now }

-- what is written of lines that are these without a limit: all of them, if they're few enough; otherwise as many as there may be, the last one shortened
abbrev pub limited_output : Wrapping → Bound → List ℕ → List ℕ
limited_output wrapping bound whole =
    if nat_le (line_feeds whole) (most_lines bound.lines) then whole
    else lines_before bound.lines whole ++ shortened_line wrapping bound.placeholder (last_line bound.lines whole)

-- what is written of some bytes: the lines of their paragraphs, as many as there may be, if there is a limit
abbrev pub IsSetOutput : Choosing → Option Bound → List ℕ → List ℕ → Type 0
IsSetOutput choosing None bytes written = IsParagraphOutput choosing bytes written
IsSetOutput choosing (Some bound) bytes written = (whole : List ℕ) × IsParagraphOutput choosing bytes whole × (written ≡ limited_output choosing.wrapping bound whole)
