-- Parts of a text that may be cut apart from one another.
use Rattle.std.specs.Prelude.{◌≡◌, ℕ, ◌+◌, ◌<◌, ◌≤◌, ◌⊎◌, Option, List, [], ◌∷◌, ◌++◌, decimal, drop, length, take}
use Rattle.icu_segmenter.specs.Boundary.{Boundary}
use Rattle.icu_segmenter.specs.Boundaries.{IsCover, shift_all}
use Rattle.segment_text.specs.Counts.{line_end}
use Rattle.segment_text.specs.Size.{both_sizes, size_of}
use Rattle.segment_output.specs.declared.splits.PartLines.{PartLines}

-- a text may be split at a place: its boundaries are some that cover what stands before it, and then those of what begins there, without its start,
-- so much later
pub record IsSplit (find : List ℕ → List Boundary) (text : List ℕ) (place : ℕ) : Type 0 where
  pub front : List Boundary
  pub cover : IsCover 0 place front
  pub is : find text ≡ front ++ shift_all place (drop 1 (find (drop place text)))

-- the ends of a text's parts from a place on: they rise to its end, and before that each stands so many bytes or more behind the one before, where
-- the text may be split
abbrev pub ArePartEnds : (List ℕ → List Boundary) → ℕ → List ℕ → ℕ → List ℕ → Type 0
ArePartEnds find least text begin [] = begin ≡ length text
ArePartEnds find least text begin (end ∷ ends) =
    (begin < end) × ((end ≡ length text) ⊎ ((begin + least ≤ end) × IsSplit find text end)) × ArePartEnds find least text end ends

-- the line of a part: where it begins and ends, and the name of its file, where that is said
abbrev pub part_line : Option (List ℕ) → ℕ → ℕ → List ℕ
part_line file begin end = decimal begin ++ 32 ∷ decimal end ++ line_end file

-- the lines of parts with these ends
abbrev pub part_lines : Option (List ℕ) → ℕ → List ℕ → List ℕ
part_lines file begin [] = []
part_lines file begin (end ∷ ends) = part_line file begin end ++ part_lines file end ends

-- what is written are the lines of a text's parts
abbrev pub AreParts : (List ℕ → List Boundary) → ℕ → Option (List ℕ) → List ℕ → List ℕ → Type 0
AreParts find least file text written = (ends : List ℕ) × ArePartEnds find least text 0 ends × (written ≡ part_lines file 0 ends)

-- ---- parts as they come

-- a part ends at a place of some bytes that are held, and what stands from there on is held
pub record EndsPart (find : List ℕ → List Boundary) (least : ℕ) (file : Option (List ℕ)) (bytes : List ℕ) (before after : PartLines) : Type 0 where
  pub place : ℕ
  pub within : place ≤ length bytes
  pub some : 0 < place
  pub enough : least ≤ place
  pub splits : (more : List ℕ) → IsSplit find (bytes ++ more) place
  pub held : after.held.items ≡ drop place bytes
  pub ends : after.before ≡ before.before + place
  pub size : after.size ≡ both_sizes before.size (size_of (take place bytes))
  pub lines : after.lines.items ≡ before.lines.items ++ part_line file before.before (before.before + place)

-- .. or all is held
abbrev pub IsHeld : (List ℕ → List Boundary) → ℕ → Option (List ℕ) → List ℕ → PartLines → PartLines → Type 0
IsHeld find least file bytes before after =
    ((after.held.items ≡ bytes) × (after.before ≡ before.before) × (after.size ≡ before.size) × (after.lines.items ≡ before.lines.items))
    ⊎ EndsPart find least file bytes before after

-- the end of the last part, which has what is held behind those before it, if something is
abbrev pub last_end : ℕ → List ℕ → List ℕ
last_end before [] = []
last_end before (byte ∷ held) = (before + length (byte ∷ held)) ∷ []
