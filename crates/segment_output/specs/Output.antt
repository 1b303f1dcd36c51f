-- What is written of a text: each of its segments on a line of its own, or how many there are.
use Rattle.std.specs.Prelude.{ℕ, ◌+◌, Bool, false, not, ◌||◌, Option, None, Some, List, [], ◌∷◌, ◌++◌, if◌then◌else◌, codes, drop, map, filter, decimal}
use Rattle.std.specs.List.{flat_map, slice_range, zip}
use Rattle.std.specs.Option.{option_map}
use Rattle.std.specs.Str.Lossy.{utf8_lossy}
use Rattle.json.specs.Print.{print}
use Rattle.json.specs.Token.{Token, begin_object, end_object, key, string, number, boolean}
use Rattle.icu_segmenter.specs.Boundary.{Boundary}
use Rattle.icu_segmenter.specs.WordRules.{is_word_like}
use Rattle.icu_segmenter.specs.declared.options.WordType.{WordType}
use Rattle.icu_segmenter.specs.declared.options.WordType.TheVariants as word
use Rattle.segment_text.specs.Counts.{line_end}
use Rattle.segment_text.specs.Escapes.{escaped}
use Rattle.segment_output.specs.declared.marks.Mark.{Mark}
use Rattle.segment_output.specs.declared.marks.Mark.TheVariants.{Unmarked, Word, Line, Rule}
use Rattle.segment_output.specs.declared.output.Part.{Part}
use Rattle.segment_output.specs.declared.output.Style.{Style}
use Rattle.segment_output.specs.declared.output.Style.TheVariants.{Escaped, Raw, ZeroEnded, Json, Offsets, Counted}

-- a segment: where it begins, where it ends, and what is said of it
pub record Segment : Type 0 where
  pub from : ℕ
  pub to : ℕ
  pub mark : Mark

-- is it a word, or by rules of the caller's own what ends at a boundary without status 1
abbrev pub is_word : Mark → Bool
is_word Unmarked = false
is_word (Word kind) = is_word_like kind
is_word (Line is_mandatory) = false
is_word (Rule is_marked) = not is_marked

-- is it shown: all are, or words alone
abbrev pub is_shown : Bool → Mark → Bool
is_shown alone mark = not alone || is_word mark

-- what stands between two boundaries
abbrev pub segment_between : (ℕ × Mark) × (ℕ × Mark) → Segment
segment_between (start, end) = record { from = start.0; to = end.0; mark = end.1 }

-- places of which nothing is said
abbrev pub unmarked : List ℕ → List (ℕ × Mark)
unmarked places = map (λ (place : ℕ). (place, Unmarked)) places

-- boundaries, and places, that a limit admits
abbrev pub shown_boundaries : (ℕ → Bool) → List Boundary → List Boundary
shown_boundaries admits boundaries = filter (λ (found : Boundary). admits found.offset) boundaries

abbrev pub shown_places : (ℕ → Bool) → List ℕ → List ℕ
shown_places admits places = filter admits places

-- the segments between the boundaries of a text, which are neighbours, of which each says what ends there; all, or words alone
abbrev pub segments : Bool → List (ℕ × Mark) → List Segment
segments alone boundaries = map segment_between (filter (λ pair. is_shown alone pair.1.1) (zip boundaries (drop 1 boundaries)))

-- ---- objects of JSON

abbrev pub type_word : WordType → List ℕ
type_word word.None = codes "none"
type_word word.Number = codes "number"
type_word word.Letter = codes "letter"

-- what is said of a segment: of words their type, of lines whether the line must end there, and by rules of the caller's own a status
abbrev pub mark_tokens : Mark → List Token
mark_tokens Unmarked = []
mark_tokens (Word kind) = key (codes "type") ∷ string (type_word kind) ∷ []
mark_tokens (Line is_mandatory) = key (codes "mandatory") ∷ boolean is_mandatory ∷ []
mark_tokens (Rule is_marked) = key (codes "status") ∷ number (decimal (if is_marked then 1 else 0)) ∷ []

-- the name of the file that a text is in, where it is said
abbrev pub file_tokens : Option (List ℕ) → List Token
file_tokens None = []
file_tokens (Some name) = key (codes "file") ∷ string name ∷ []

-- the object of a text, with U+FFFD for what is ill-formed, and of its places
abbrev pub object_of : Option (List ℕ) → List ℕ → Segment → List Token
object_of file text segment =
    begin_object
    ∷ file_tokens file ++ key (codes "text") ∷ string (utf8_lossy text)
    ∷ key (codes "begin") ∷ number (decimal segment.from)
    ∷ key (codes "end") ∷ number (decimal segment.to)
    ∷ mark_tokens segment.mark ++ end_object ∷ []

-- ---- lines

-- what stands in a segment
abbrev pub units_of : List ℕ → Segment → List ℕ
units_of text segment = slice_range text segment.from segment.to

-- how segments are written: in a style, and where objects and places name a file, with that name
pub record Look : Type 0 where
  pub style : Style
  pub file : Option (List ℕ)

-- the line of a segment, where the second is what is shown of its places; where segments are only counted, it has none
abbrev pub line_in : Style → Option (List ℕ) → List ℕ → Segment → Segment → List ℕ
line_in Escaped file text segment shown = escaped (units_of text segment) ++ 10 ∷ []
line_in Raw file text segment shown = units_of text segment ++ 10 ∷ []
line_in ZeroEnded file text segment shown = units_of text segment ++ 0 ∷ []
line_in Json file text segment shown = print (object_of file (units_of text segment) shown) ++ 10 ∷ []
line_in Offsets file text segment shown = decimal shown.from ++ 32 ∷ decimal shown.to ++ line_end file
line_in (Counted asked) file text segment shown = []

abbrev pub line_with : Look → List ℕ → Segment → Segment → List ℕ
line_with look text segment shown = line_in look.style look.file text segment shown

abbrev pub line_of : Look → List ℕ → Segment → List ℕ
line_of look text segment = line_with look text segment segment

abbrev pub lines_of : Look → List ℕ → List Segment → List ℕ
lines_of look text segments = flat_map (line_of look text) segments

-- the segment so much later
abbrev pub later : ℕ → Segment → Segment
later before segment = record { from = before + segment.from; to = before + segment.to; mark = segment.mark }

-- the line of a segment of a part of a text, before which so many bytes stand: its places are those in the whole text
abbrev pub line_at : Look → ℕ → List ℕ → Segment → List ℕ
line_at look before part segment = line_with look part segment (later before segment)

abbrev pub lines_at : Look → ℕ → List ℕ → List Segment → List ℕ
lines_at look before part segments = flat_map (line_at look before part) segments

-- how the segments of a part are written
abbrev pub look_of : Part → Look
look_of part = record { style = part.style; file = option_map (λ name. name.now) part.file }

-- the segment that ends at a place, if one begins before it
abbrev pub ended : Option ℕ → ℕ × Mark → List Segment
ended None end = []
ended (Some start) end = record { from = start; to = end.0; mark = end.1 } ∷ []
