-- What is written of a text whose lines are chosen paragraph by paragraph.
use Rattle.std.specs.Prelude.{◌≡◌, ℕ, ◌==◌, Bool, not, Option, List, [], ◌∷◌, ◌++◌, if◌then◌else◌, length}
use Rattle.std.specs.Io.KnownBytes.{Appends}
use Rattle.std.specs.List.{flat_map}
use Rattle.icu_segmenter.specs.Decoding.{utf8}
use Rattle.icu_segmenter.specs.Items.{IsRising, Text}
use Rattle.icu_segmenter.specs.Paragraphs.{GivesParagraph, ParagraphsLeft}
use Rattle.icu_segmenter.specs.WrappedLines.{AreParagraphsOf}
use Rattle.icu_segmenter.specs.Wrapping.{TextLine}
use Rattle.seg_hyphens.specs.declared.patterns.HyphenationPatterns.{HyphenationPatterns}
use Rattle.seg_lines.specs.Between.{between}
use Rattle.seg_wrap.specs.declared.wrap.paragraphs.Fit.{Fit}
use Rattle.seg_wrap.specs.declared.wrap.wrapping.Span.{Span}
use Rattle.segment_output.specs.Wrapped.{Wrapping, shown_line}
use Rattle.segment_output.specs.Wrapper.{wrapping_of}
use Rattle.segment_output.specs.declared.wrapper.Wrapper.{Wrapper}

-- what stands behind a line that ends inside a word
abbrev pub hyphen : List ℕ
hyphen = 0x2D ∷ []

-- a line of some bytes, with its hyphen
abbrev pub line_at : List ℕ → Span → TextLine
line_at bytes span = record {
  units = between span.start span.end bytes ++ (if span.is_hyphenated then hyphen else []);
  columns = span.columns;
  is_first = span.is_first;
  is_mandatory = span.is_mandatory;
}

-- these lines as they are shown
abbrev pub shown_spans : Wrapping → List ℕ → List Span → List ℕ
shown_spans wrapping bytes spans = flat_map (λ (span : Span). shown_line wrapping (line_at bytes span)) spans

-- the lines of these paragraphs come next, one paragraph after another, hyphenated by patterns, if by some
unfoldable pub GiveParagraphs : Option HyphenationPatterns → ParagraphsLeft → List (List Span) → ParagraphsLeft → Type 0
GiveParagraphs patterns before [] after = before ≡ after
GiveParagraphs patterns before (spans ∷ paragraphs) after =
    (next : ParagraphsLeft) × GivesParagraph patterns before spans next × GiveParagraphs patterns next paragraphs after

-- what is written from a paragraph on: the lines of each, up to the end
pub record IsWrittenFrom (wrapping : Wrapping) (patterns : Option HyphenationPatterns) (bytes : List ℕ) (left : ParagraphsLeft) (written : List ℕ) : Type 0 where
  pub paragraphs : List (List Span)
  pub after : ParagraphsLeft
  pub given : GiveParagraphs patterns left paragraphs after
  pub none_left : after.segments ≡ []
  pub shown : written ≡ flat_map (shown_spans wrapping bytes) paragraphs

-- how paragraphs are written: how lines are wrapped, how they are chosen, and by which patterns words are hyphenated, if by some
pub record Choosing : Type 0 where
  pub wrapping : Wrapping
  pub fit : Fit
  pub patterns : Option HyphenationPatterns

abbrev pub chosen_by : Wrapper → Fit → Choosing
chosen_by wrapper fit = record { wrapping = wrapping_of wrapper; fit = fit; patterns = wrapper.patterns }

-- what is written of some bytes: the lines of their paragraphs, each as it is shown
pub record IsParagraphOutput (choosing : Choosing) (bytes written : List ℕ) : Type 0 where
  pub left : ParagraphsLeft
  pub are : AreParagraphsOf utf8 choosing.wrapping.measure choosing.wrapping.lines (record { room = choosing.wrapping.room; fit = choosing.fit }) bytes left
  pub is : IsWrittenFrom choosing.wrapping choosing.patterns bytes left written

-- something is written, of which this holds
abbrev pub AppendsSome : Option (List ℕ) → Option (List ℕ) → (List ℕ → Type 0) → Type 0
AppendsSome old new Is = (written : List ℕ) × Is written × Appends old new written

-- ---- one paragraph after another

-- a text that stands in some bytes, or a rest of it
abbrev pub IsTextWithin : List ℕ → Text → Type 0
IsTextWithin bytes text = IsRising text.items text.end × (text.end ≡ length bytes)

-- the lines of a paragraph are added, if there is one
pub record AddsParagraph (wrapping : Wrapping) (patterns : Option HyphenationPatterns) (bytes : List ℕ) (before after : ParagraphsLeft) (old new : List ℕ) (is_some : Bool) : Type 0 where
  pub spans : List Span
  pub given : GivesParagraph patterns before spans after
  pub added : new ≡ old ++ shown_spans wrapping bytes spans
  pub some : is_some ≡ not (length spans == 0)
