-- Texts that come part by part, and what is written of them.
use Rattle.std.specs.Prelude.{◌≡◌, ◌⊎◌, ℕ, ◌+◌, ◌≤◌, Option, None, List, ◌++◌, drop, false, length, take}
use Rattle.std.specs.Io.KnownBytes.{Appends, Consumes}
use Rattle.std.specs.Borrow.{Bor}
use Rattle.std.specs.Option.{option_map}
use Rattle.icu_segmenter.specs.Boundary.{Boundary}
use Rattle.icu_segmenter.specs.Boundaries.{IsCover}
use Rattle.icu_segmenter.specs.Decoding.{utf8}
use Rattle.icu_segmenter.specs.LineBreaks.{line_boundaries_of}
use Rattle.icu_segmenter.specs.NearBoundaries.{SplitsAt, line_feed}
use Rattle.icu_segmenter.specs.Rules.{PartsBehind}
use Rattle.segment_output.specs.Output.{Look, lines_at}
use Rattle.segment_text.specs.Blocks.{AreWhole}
use Rattle.segment_text.specs.Preparation.{prepared}
use Rattle.segment_output.specs.TextSegmenter.{boundaries_by, segments_by, segments_to}
use Rattle.segment_text.specs.Size.{both_sizes, size_of}
use Rattle.segment_output.specs.Wrapped.{wrapped_output, EndsLines}
use Rattle.segment_output.specs.Wrapper.{wrapping_of}
use Rattle.segment_output.specs.declared.output.Style.{Style}
use Rattle.segment_output.specs.declared.parts.Printing.{Printing}
use Rattle.segment_output.specs.declared.parts.Printing.TheVariants.{Segments, Lines}
use Rattle.segment_output.specs.declared.parts.Progress.{Progress}
use Rattle.segment_output.specs.declared.parts.Splitting.{Splitting}
use Rattle.segment_output.specs.declared.segmenter.TextSegmenter.{TextSegmenter}

-- ---- what is written of a text

-- where its segments or its lines may end
abbrev pub boundaries_for : Printing → List ℕ → List Boundary
boundaries_for (Segments segmenter style file) bytes = boundaries_by segmenter.now bytes
boundaries_for (Lines wrapper) bytes = line_boundaries_of (wrapping_of wrapper.now).lines (utf8 bytes)

-- how segments are written, with the name of a file, if it is said
abbrev pub look_by : Style → Option (Bor (List ℕ)) → Look
look_by style file = record { style = style; file = option_map (λ name. name.now) file }

-- what is written of a text before which so many bytes stand: its segments with their places in all, or its wrapped lines
abbrev pub printed_behind : Printing → ℕ → List ℕ → List ℕ
printed_behind (Segments segmenter style file) before bytes = lines_at (look_by style file) before bytes (segments_by segmenter.now bytes)
printed_behind (Lines wrapper) before bytes = wrapped_output (wrapping_of wrapper.now) bytes

-- how many segments are counted; lines aren't
abbrev pub count_for : Printing → List ℕ → ℕ
count_for (Segments segmenter style file) bytes = length (segments_by segmenter.now bytes)
count_for (Lines wrapper) bytes = 0

-- may a text be split behind its line feeds, so that of each part is written what is written of it in the whole
abbrev pub MayBeSplit : Printing → Type 0
MayBeSplit (Segments segmenter style file) = PartsBehind (boundaries_by segmenter.now) line_feed
MayBeSplit (Lines wrapper) = PartsBehind (boundaries_for (Lines wrapper)) line_feed × EndsLines (wrapping_of wrapper.now).lines

-- ---- parts as they come

-- the text that is made of some bytes, what is written of it, and how many segments it has
abbrev pub text_for : Splitting → List ℕ → List ℕ
text_for splitting bytes = prepared splitting.preparation bytes

abbrev pub output_for : Splitting → List ℕ → List ℕ
output_for splitting bytes = printed_behind splitting.printing 0 (text_for splitting bytes)

abbrev pub found_for : Splitting → List ℕ → ℕ
found_for splitting bytes = count_for splitting.printing (text_for splitting bytes)

-- a part is written behind those before it
pub record IsPartWritten (splitting : Splitting) (part : List ℕ) (before after : Progress) (old new : Option (List ℕ)) : Type 0 where
  pub cover : IsCover 0 (length (text_for splitting part)) (boundaries_for splitting.printing (text_for splitting part))
  pub size : after.size ≡ both_sizes before.size (size_of part)
  pub made : after.made ≡ before.made + length (text_for splitting part)
  pub count : after.segments ≡ before.segments + found_for splitting part
  pub written : Appends old new (printed_behind splitting.printing before.made (text_for splitting part))

-- segments are written, of the text as it stands: it may be split at certain places too
abbrev pub MayBeSplitAmid : Splitting → Type 0
MayBeSplitAmid splitting =
    (segmenter : Bor TextSegmenter) × (style : Style) × (file : Option (Bor (List ℕ))) × (splitting.printing ≡ Segments segmenter style file)
    × (splitting.preparation.tabs ≡ None) × (splitting.preparation.joins ≡ false)

-- of what has come the segments up to a place where the text may be split are written, and what stands from there on is held
pub record IsFrontWritten (splitting : Splitting) (bytes : List ℕ) (before after : Progress) (old new : Option (List ℕ)) : Type 0 where
  pub segmenter : Bor TextSegmenter
  pub style : Style
  pub file : Option (Bor (List ℕ))
  pub segments : splitting.printing ≡ Segments segmenter style file
  pub unspaced : splitting.preparation.tabs ≡ None
  pub unjoined : splitting.preparation.joins ≡ false
  pub place : ℕ
  pub within : place ≤ length bytes
  pub splits : SplitsAt (boundaries_by segmenter.now) bytes place
  pub cover : IsCover 0 (length bytes) (boundaries_by segmenter.now bytes)
  pub held : after.held.items ≡ drop place bytes
  pub size : after.size ≡ both_sizes before.size (size_of (take place bytes))
  pub made : after.made ≡ before.made + place
  pub count : after.segments ≡ before.segments + length (segments_to segmenter.now place bytes)
  pub written : Appends old new (lines_at (look_by style file) before.made bytes (segments_to segmenter.now place bytes))

-- a block has come: all up to the last place where it may be split, with what was held before it, is written, and what stands behind it is held;
-- where there is no such place it is held, and nothing is written
abbrev pub IsAdded : Splitting → List ℕ → Progress → Progress → Type 0 → Option (List ℕ) → Option (List ℕ) → Type 0
IsAdded splitting block before after IsUnwritten old new =
    ((after.held.items ≡ before.held.items ++ block) × (after.size ≡ before.size) × (after.made ≡ before.made) × (after.segments ≡ before.segments) × IsUnwritten)
    ⊎ (((part : List ℕ) × AreWhole splitting.preparation.joins part × (before.held.items ++ block ≡ part ++ after.held.items)
    × IsPartWritten splitting part before after old new)
    ⊎ IsFrontWritten splitting (before.held.items ++ block) before after old new)

-- of a text that was read in part, something is written of its first bytes, and nothing of the rest that was read: whatever comes, all that is
-- written begins so, and goes on with what is written of the rest and of what comes, which stand behind the first bytes. These are whole lines
-- or paragraphs, but where a text may be split at certain places too
pub record IsBegun (splitting : Splitting) (from to old new : Option (List ℕ)) : Type 0 where
  pub parts : List ℕ
  pub rest : List ℕ
  pub output : List ℕ
  pub whole : MayBeSplitAmid splitting ⊎ AreWhole splitting.preparation.joins parts
  pub read : Consumes from to (parts ++ rest)
  pub written : Appends old new output
  pub begins : (more : List ℕ) → (others : List ℕ) × (output_for splitting ((parts ++ rest) ++ more) ≡ output ++ others)
  pub goes_on : (more : List ℕ) → let text = text_for splitting (rest ++ more) in IsCover 0 (length text) (boundaries_for splitting.printing text)
      → output_for splitting ((parts ++ rest) ++ more) ≡ output ++ printed_behind splitting.printing (length (text_for splitting parts)) text
