-- The parts of a str between the bounds of its segments are the segments.
use Rattle.std.proofs.Common.{◌≡◌, ℕ, ◌+◌, ◌-◌, List, [], ◌∷◌, ◌++◌, length, take, refl, sym, ap, ap₂, ◌∙◌, arith, append_assoc, length-append, take_at, drop_at}
use Rattle.std.specs.List.{concat, slice_range}
use Rattle.std.specs.Str.{IsUtf8}
use Rattle.unicode_segmentation.specs.Segments.{Rule, segments}
use Rattle.unicode_segmentation.proofs.SegmentsLemmas.{concat-segments}
use Rattle.icu_segmenter_uax29.specs.Pieces.{parts_at, piece_ends, piece_bounds}

slice-middle : (front piece rest : List ℕ) → slice_range (front ++ (piece ++ rest)) (length front) (length front + length piece) ≡ piece
slice-middle front piece rest =
    let count : length front + length piece - length front ≡ length piece = omega arith in
    ap₂ take count (drop_at front (piece ++ rest) _ refl) ∙ take_at piece rest _ refl

parts-from : (units front : List ℕ) (pieces : List (List ℕ)) → units ≡ front ++ concat pieces
    → parts_at (length front ∷ piece_ends (length front) pieces) units ≡ pieces
unfolding parts_at piece_ends
parts-from units front [] is = refl
parts-from units front (piece ∷ pieces) is =
    let count : length (front ++ piece) ≡ length front + length piece = length-append front piece in
    let whole : units ≡ (front ++ piece) ++ concat pieces = is ∙ sym (append_assoc front piece (concat pieces)) in
    let first : slice_range units (length front) (length front + length piece) ≡ piece =
    ap (λ units. slice_range units (length front) (length front + length piece)) is ∙ slice-middle front piece (concat pieces) in
    ap₂ (λ first rest. first ∷ rest) first
    (ap (λ n. parts_at (n ∷ piece_ends n pieces) units) (sym count) ∙ parts-from units (front ++ piece) pieces whole)

pub parts-are : (rule : Rule) (text : List ℕ) → IsUtf8 text → parts_at (piece_bounds (segments rule text)) text ≡ segments rule text
parts-are rule text well = parts-from text [] (segments rule text) (sym (concat-segments rule text well))
