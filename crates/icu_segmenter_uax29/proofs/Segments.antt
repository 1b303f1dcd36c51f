-- Where boundaries are, in code points, the ends of a rule's pieces, they are so in texts.
use Rattle.std.proofs.Common.{◌≡◌, ℕ, List, [], map, ap, ◌∙◌}
use Rattle.unicode_segmentation.specs.Segments.{Rule, cut}
use Rattle.seg_text.specs.declared.boundary.Boundary.{Boundary}
use Rattle.seg_text.specs.Boundaries.{offsets}
use Rattle.seg_text.specs.Items.{code_points, start_of, rest_after}
use Rattle.icu_segmenter_uax29.specs.Pieces.{FindsPieces, parts_at, piece_bounds}
use Rattle.icu_segmenter_uax29.proofs.Parts.{parts-are}
use Rattle.icu_segmenter_uax29.proofs.Texts.{offsets-in, text-segments}

pub finds-pieces : (rule : Rule) (find : List ℕ → List Boundary) → ((cs : List ℕ) → offsets (find cs) ≡ piece_bounds (cut rule [] cs [])) → FindsPieces rule find
finds-pieces rule find are = record {
  in_lists = are;
  in_texts = λ text. offsets-in text (find (code_points text.items)) ∙ ap (map (λ count. start_of (rest_after count text))) (are (code_points text.items));
  in_strs = λ bytes well. text-segments rule find are bytes well;
  parts = λ bytes well. ap (λ places. parts_at places bytes) (text-segments rule find are bytes well) ∙ parts-are rule bytes well;
}
