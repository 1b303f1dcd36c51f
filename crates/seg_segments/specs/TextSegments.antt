-- The segments of a text: what stands between neighbouring boundaries.
use Rattle.std.specs.Prelude.{◌≡◌, ℕ, ◌+◌, ◌<◌, List, [], ◌∷◌, All, drop, filter, length, map}
use Rattle.std.specs.List.{flat_map}
use Rattle.seg_text.specs.declared.boundary.Boundary.{Boundary}
use Rattle.seg_text.specs.Items.{Item, Text, rest_after, start_of}
use Rattle.seg_lines.specs.Between.{between}
use Rattle.seg_words.specs.declared.word.WordType.{WordType}
use Rattle.seg_words.specs.WordRules.{is_word_like}

-- a segment: where it begins, the units that it stands in, and what the status of the boundary says at which it ends
pub record Segment (M : Type 0) : Type 0 where
  pub offset : ℕ
  pub units : List ℕ
  pub mark : M

-- boundaries: their places, with what their statuses say
abbrev pub marked : {M : Type 0} → (ℕ → M) → List Boundary → List (ℕ × M)
marked mark boundaries = map (λ (boundary : Boundary). (boundary.offset, mark boundary.status)) boundaries

-- of clusters and sentences they say nothing
abbrev pub nothing : ℕ → Unit {0}
nothing status = tt {0}

-- the segments from one place on, each of which ends at the next boundary
unfoldable pub segments_from : {M : Type 0} → List ℕ → ℕ → List (ℕ × M) → List (Segment M)
segments_from units from [] = []
segments_from units from ((to, mark) ∷ boundaries) =
    record { offset = from; units = between from to units; mark = mark } ∷ segments_from units to boundaries

-- the segments of a text with these boundaries, of which the first is at its start
abbrev pub segments_of : {M : Type 0} → (ℕ → M) → List ℕ → List Boundary → List (Segment M)
segments_of mark units boundaries = segments_from units 0 (drop 1 (marked mark boundaries))

-- what they stand in
abbrev pub units_of : {M : Type 0} → List (Segment M) → List (List ℕ)
units_of segments = map (λ (segment : Segment _). segment.units) segments

-- .. with where they begin
abbrev pub indices_of : {M : Type 0} → List (Segment M) → List (ℕ × List ℕ)
indices_of segments = map (λ (segment : Segment _). (segment.offset, segment.units)) segments

-- those that are words
abbrev pub words_of : List (Segment WordType) → List (Segment WordType)
words_of segments = filter (λ (segment : Segment WordType). is_word_like segment.mark) segments

-- a place of a text: that of an item or of the end
pub record IsPlace (text : Text) (place : ℕ) : Type 0 where
  pub before : ℕ
  pub at : place ≡ start_of (rest_after before text)

-- a text so much later
abbrev pub later_text : ℕ → Text → Text
later_text before text = record { items = map (λ (item : Item). (before + item.0, item.1)) text.items; end = before + text.end }

-- a text that stands in some units is cut into these segments: joined they are the units, none is empty, and each begins
-- at a place of the text
pub record AreSegments {M : Type 0} (text : Text) (units : List ℕ) (segments : List (Segment M)) : Type 0 where
  pub joined : flat_map (λ (segment : Segment M). segment.units) segments ≡ units
  pub some : All (λ (segment : Segment M). 0 < length segment.units) segments
  pub places : All (λ (segment : Segment M). IsPlace text segment.offset) segments

-- boundaries rise from one place on to the end, and a text may be cut at each
abbrev pub AreCuts : {M : Type 0} → (ℕ → Type 0) → ℕ → List (ℕ × M) → ℕ → Type 0
AreCuts MayCut from [] end = MayCut from × (from ≡ end)
AreCuts MayCut from (to ∷ boundaries) end = MayCut from × ((from < to.0) × AreCuts MayCut to.0 boundaries end)
