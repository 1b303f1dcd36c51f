-- Where a text that comes block by block is split.
use Rattle.std.specs.Prelude.{◌≡◌, ℕ, ◌==◌, ◌||◌, Bool, true, false, List, ◌++◌}
use Rattle.std.specs.List.{list_all}
use Rattle.icu_segmenter.specs.NearBoundaries.{line_feed}

-- whole lines: some bytes, of which the last is a line feed
abbrev pub AreLines : List ℕ → Type 0
AreLines bytes = (before : List ℕ) × (bytes ≡ before ++ line_feed)

-- what a blank line has before its line feed: spaces, tabs and carriage returns
abbrev pub is_blank : ℕ → Bool
is_blank byte = byte == 0x20 || byte == 0x09 || byte == 0x0D

-- whole paragraphs: lines, of which the last is blank
abbrev pub AreParagraphs : List ℕ → Type 0
AreParagraphs bytes = (before blanks : List ℕ) × (bytes ≡ (before ++ line_feed) ++ (blanks ++ line_feed)) × (list_all is_blank blanks ≡ true)

-- a text is split behind whole lines, and behind whole paragraphs where their lines are joined
abbrev pub AreWhole : Bool → List ℕ → Type 0
AreWhole true bytes = AreParagraphs bytes
AreWhole false bytes = AreLines bytes
