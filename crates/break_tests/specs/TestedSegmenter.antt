-- The boundaries that each segmenter gives.
use Rattle.std.specs.Prelude.{◌≡◌, ℕ, ◌==◌, Option, Some, None, IfSome, List, filter}
use Rattle.icu_segmenter.specs.Boundaries.{offsets}
use Rattle.icu_segmenter.specs.Clusters.{owned_cluster_rules, owned_sentence_rules}
use Rattle.icu_segmenter.specs.Items.{Text}
use Rattle.icu_segmenter.specs.LineBreaks.{LineRules, line_boundaries_of}
use Rattle.icu_segmenter.specs.Lines.{owned_line_rules}
use Rattle.icu_segmenter.specs.Rules.{boundaries_of}
use Rattle.icu_segmenter.specs.Decoding.{utf16, utf8}
use Rattle.icu_segmenter.specs.WordRules.{word_boundaries_of}
use Rattle.icu_segmenter.specs.Words.{owned_word_rules}
use Rattle.break_tests.specs.declared.sample.Sample.{Sample}
use Rattle.break_tests.specs.declared.segmenter.TestedSegmenter.{TestedSegmenter}
use Rattle.break_tests.specs.declared.segmenter.TestedSegmenter.TheVariants.{Clusters, Words, Sentences, Lines, LinesByTable}

-- the places of a text's boundaries by a segmenter
abbrev pub places_by : TestedSegmenter → Text → List ℕ
places_by (Clusters clusters) text = offsets (boundaries_of (owned_cluster_rules clusters) text)
places_by (Words words) text = offsets (word_boundaries_of (owned_word_rules words) text)
places_by (Sentences sentences) text = offsets (boundaries_of (owned_sentence_rules sentences) text)
places_by (Lines lines) text = offsets (line_boundaries_of (owned_line_rules lines) text)
places_by (LinesByTable lines) text = offsets (line_boundaries_of (owned_line_rules lines) text)

-- the places where a line must be broken: the status there is 1
abbrev pub mandatory_by : LineRules → Text → List ℕ
mandatory_by rules text = offsets (filter (λ boundary. boundary.status == 1) (line_boundaries_of rules text))

-- .. of lines by a machine, and none of others
abbrev pub mandatory_places_by : TestedSegmenter → Text → Option (List ℕ)
mandatory_places_by (Lines lines) text = Some (mandatory_by (owned_line_rules lines) text)
mandatory_places_by _ text = None

-- lines have just the sample's mandatory ones
abbrev pub HasMandatory : TestedSegmenter → Sample → Type 0
HasMandatory segmenter sample =
    IfSome (mandatory_places_by segmenter (utf8 sample.text.bytes.items)) (λ places. places ≡ sample.mandatory.items)

-- a segmenter gives just a sample's boundaries, in each encoding
pub record IsPassed (segmenter : TestedSegmenter) (sample : Sample) : Type 0 where
  pub in_str : places_by segmenter (utf8 sample.text.bytes.items) ≡ sample.places.items
  pub in_utf8 : places_by segmenter (utf8 sample.text.bytes.items) ≡ sample.places.items
  pub in_utf16 : places_by segmenter (utf16 sample.units.items) ≡ sample.unit_places.items
  pub mandatory : HasMandatory segmenter sample
