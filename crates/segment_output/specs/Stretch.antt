-- Stretches of a text in which each segment is written as it stands.
use Rattle.std.specs.Prelude.{◌≡◌, ℕ, ◌+◌, ◌≤◌, Option, List, [], ◌∷◌, ◌++◌, length}
use Rattle.segment_output.specs.Output.{Segment, line_in, units_of}
use Rattle.segment_output.specs.declared.output.Style.{Style}
use Rattle.segment_output.specs.declared.stretch.Stretch.{Stretch}

-- each segment of a stretch is written as it stands, and a byte behind it; and 16 bytes stand behind a stretch
abbrev pub IsStretch : Style → List ℕ → Stretch → Type 0
IsStretch style text stretch =
    (stretch.from ≤ stretch.to → stretch.to + 16 ≤ length text)
    × ((file : Option (List ℕ)) (segment shown : Segment) → stretch.from ≤ segment.from → segment.from ≤ segment.to → segment.to ≤ stretch.to
    → line_in style file text segment shown ≡ units_of text segment ++ stretch.last ∷ [])
