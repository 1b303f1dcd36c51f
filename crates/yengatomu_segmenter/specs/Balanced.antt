-- Balanced lines of a paragraph.
use Rattle.std.specs.Prelude.{◌≡◌, ℕ, ◌+◌, ◌-◌, ◌^◌, ◌⊎◌, None, List, [], drop, length, map, min}
use Rattle.icu_segmenter.specs.Filled.{TakesFirst}
use Rattle.icu_segmenter.specs.Items.{Text}
use Rattle.icu_segmenter.specs.LineBreaks.{LineFinder, LineRules}
use Rattle.icu_segmenter.specs.LineBreaks.LineFinder.{ByClusters, ByPlaces, ByTable, ByTurns, ByMachine}
use Rattle.icu_segmenter.specs.Paragraphs.{GivesParagraph, ParagraphsLeft, balanced_style}
use Rattle.icu_segmenter.specs.WrappedLines.{AreParagraphsOf}
use Rattle.icu_segmenter.specs.Wrapping.{Measure}
use Rattle.seg_wrap.specs.declared.wrap.wrapping.Span.{Span}
use Rattle.yengatomu_segmenter.specs.Finders.{Finder}
use Rattle.yengatomu_segmenter.specs.Finders.Finder.{Clusters, Words, Sentences, Lines}
use Rattle.yengatomu_segmenter.specs.Wrapped.{measure_by}

-- what is given of lines that are found by a machine; by a pair table there are none
abbrev pub IfByMachine : LineFinder → List Span → Type 0 → Type 0
IfByMachine ByClusters spans Given = Given
IfByMachine ByPlaces spans Given = spans ≡ []
IfByMachine (ByTable rules) spans Given = spans ≡ []
IfByMachine (ByTurns rules) spans Given = spans ≡ []
IfByMachine (ByMachine m) spans Given = Given

-- these are the balanced lines of the first paragraph of a text that stands in some units
pub record GivesFirst (decode : List ℕ → Text) (measure : Measure) (rules : LineRules) (columns : ℕ) (units : List ℕ) (spans : List Span) : Type 0 where
  pub left : ParagraphsLeft
  pub are : AreParagraphsOf decode measure rules (balanced_style columns) units left
  pub after : ParagraphsLeft
  pub gives : GivesParagraph None left spans after

-- the lines of the first paragraph of what stands behind a place, in a text that stands in some units, which this decodes; other kinds have none
abbrev pub IsParagraphBehind : Finder → (List ℕ → Text) → ℕ → List ℕ → ℕ → List Span → Type 0
IsParagraphBehind (Lines rules clusters) decode columns units from spans =
    IfByMachine rules.finder spans (GivesFirst decode (measure_by clusters) rules columns (drop from units) spans)
IsParagraphBehind (Clusters rules) decode columns units from spans = spans ≡ []
IsParagraphBehind (Words rules) decode columns units from spans = spans ≡ []
IsParagraphBehind (Sentences rules abbreviations) decode columns units from spans = spans ≡ []

-- where lines end behind a place, and how many columns they take
abbrev pub span_ends : ℕ → List Span → List ℕ
span_ends from spans = map (λ (span : Span). from + span.end) spans

abbrev pub span_widths : List Span → List ℕ
span_widths spans = map (λ (span : Span). min span.columns (2 ^ 64 - 1)) spans

-- what two buffers of a caller held, and what they hold
pub record Written : Type 0 where
  pub ends_before : List ℕ
  pub ends : List ℕ
  pub widths_before : List ℕ
  pub widths : List ℕ

-- as many of these lines were written as both have room for
pub record TakeLines (from : ℕ) (spans : List Span) (written : Written) (count : ℕ) : Type 0 where
  pub ends : TakesFirst (min (length written.ends_before) (length written.widths_before)) (span_ends from spans) written.ends_before written.ends count
  pub widths : TakesFirst (min (length written.ends_before) (length written.widths_before)) (span_widths spans) written.widths_before written.widths count

-- a paragraph has so many lines, of which the first were written; or the number says that there is none, since it is out of memory, and nothing was written
abbrev pub GivesLines : (List Span → Type 0) → ℕ → Written → ℕ → Type 0
GivesLines AreLines from written count =
    ((count ≡ 2 ^ 64 - 1) × ((written.ends ≡ written.ends_before) × (written.widths ≡ written.widths_before)))
    ⊎ ((spans : List Span) × (AreLines spans × ((count ≡ length spans) × ((put : ℕ) × TakeLines from spans written put))))
