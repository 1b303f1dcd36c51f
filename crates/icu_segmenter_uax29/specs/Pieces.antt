-- Pieces of which each follows the one before: where they begin and end.
use Rattle.std.specs.Prelude.{◌≡◌, ℕ, ◌+◌, List, [], ◌∷◌, length, map, slice_range}
use Rattle.std.specs.Str.{IsUtf8}
use Rattle.unicode_segmentation.specs.Segments.{Rule, cut, segments}
use Rattle.seg_text.specs.declared.boundary.Boundary.{Boundary}
use Rattle.seg_text.specs.Boundaries.{boundaries_in, offsets}
use Rattle.seg_text.specs.Decoding.{utf8}
use Rattle.seg_text.specs.Items.{Text, code_points, start_of, rest_after}

-- where each piece ends, if the first begins at `from` and each follows the one before
unfoldable pub piece_ends : {X : Type 0} → ℕ → List (List X) → List ℕ
piece_ends from [] = []
piece_ends from (piece ∷ pieces) = (from + length piece) ∷ piece_ends (from + length piece) pieces

-- the boundaries of pieces of which each follows the one before: the start, and where each ends
abbrev pub piece_bounds : {X : Type 0} → List (List X) → List ℕ
piece_bounds pieces = 0 ∷ piece_ends 0 pieces

-- the boundaries of pieces of a text's code points, as places of its items
abbrev pub piece_places : Text → List (List ℕ) → List ℕ
piece_places text pieces = map (λ count. start_of (rest_after count text)) (piece_bounds pieces)

-- what stands from each place up to the next
unfoldable pub parts_at : List ℕ → List ℕ → List (List ℕ)
parts_at (place ∷ (next ∷ places)) units = slice_range units place next ∷ parts_at (next ∷ places) units
parts_at _ units = []

-- what finds the boundaries of code points finds the pieces that a rule of the standard cuts
pub record FindsPieces (rule : Rule) (find : List ℕ → List Boundary) : Type 0 where
  -- in a list of code points its boundaries are the start and the end of each piece, and no others
  pub in_lists : (cs : List ℕ) → offsets (find cs) ≡ piece_bounds (cut rule [] cs [])
  -- so they are in a text, as places of its items
  pub in_texts : (text : Text) → offsets (boundaries_in find text) ≡ piece_places text (cut rule [] (code_points text.items) [])
  -- and in a str, of the segments that the kit's `unicode_segmentation` gives
  pub in_strs : (bytes : List ℕ) → IsUtf8 bytes → offsets (boundaries_in find (utf8 bytes)) ≡ piece_bounds (segments rule bytes)
  pub parts : (bytes : List ℕ) → IsUtf8 bytes → parts_at (offsets (boundaries_in find (utf8 bytes))) bytes ≡ segments rule bytes
