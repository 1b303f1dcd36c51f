-- What a field of a form shows of a text.
use Rattle.std.specs.Prelude.{ℕ, Option, Some, None, List, slice_range}

-- what stands before a segment that has no room any more
abbrev pub before_segment : List ℕ → Option (ℕ × List ℕ) → List ℕ
before_segment text None = text
before_segment text (Some segment) = slice_range text 0 segment.0
