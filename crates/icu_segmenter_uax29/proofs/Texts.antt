-- Boundaries of a str that are, in code points, the ends of the kit's pieces are so in bytes.
use Rattle.std.proofs.Common.{◌≡◌, ℕ, zero, suc, ◌+◌, ◌<◌, ◌≤◌, true, List, [], ◌∷◌, ◌++◌, map, take, drop, length, refl, sym, ap, ap₂, subst, ◌∙◌, arith, append_assoc, length-append, take_at, drop_at}
use Rattle.std.proofs.lemmas.Bool.{and_parts, cond_both}
use Rattle.std.proofs.lemmas.Str.{chars-encodes, encodes-append, length-encode, len_utf8_bounds}
use Rattle.std.specs.Prelude.{encode_utf8, encode_utf8_all}
use Rattle.std.specs.List.{concat}
use Rattle.std.specs.Str.{IsUtf8, all_scalars}
use Rattle.unicode_segmentation.specs.Segments.{Rule, cut, prepend, segments}
use Rattle.seg_text.specs.declared.boundary.Boundary.{Boundary}
use Rattle.seg_text.specs.Items.{Item, Text, place_of, start_of, rest_after, code_points, items_by}
use Rattle.seg_text.specs.Boundaries.{offsets, boundary_in, boundaries_in}
use Rattle.seg_text.specs.Lemmas.Readers.{items_by-nil, items_by-cons}
use Rattle.seg_text.specs.Lemmas.Rising.{read_utf8-reader}
use Rattle.seg_text.specs.Decoding.{utf8, utf8_items, read_utf8}
use Rattle.seg_text.proofs.Str.{read_utf8-encode, utf8_items-characters}
use Rattle.icu_segmenter_uax29.specs.Pieces.{piece_ends}

-- the items of characters, from a place on
items_at : ℕ → List ℕ → List Item
items_at place [] = []
items_at place (c ∷ cs) = (place, c) ∷ items_at (place + length (encode_utf8 c)) cs

pub some-item : (place : ℕ) (bytes : List ℕ) → 0 < length bytes
    → items_by read_utf8 place bytes ≡ (place, (read_utf8 bytes).1) ∷ items_by read_utf8 (place + (read_utf8 bytes).0) (drop (read_utf8 bytes).0 bytes)
some-item place [] some = absurd (omega arith)
some-item place (byte ∷ bytes) some = items_by-cons read_utf8 read_utf8-reader place byte bytes

encode_utf8_some : (c : ℕ) → 0 < length (encode_utf8 c)
encode_utf8_some c = omega (arith, length-encode c, len_utf8_bounds c)

items-encodes : (cs : List ℕ) (place : ℕ) → all_scalars cs ≡ true → items_by read_utf8 place (encode_utf8_all cs) ≡ items_at place cs
unfolding items_at
items-encodes [] place are = items_by-nil read_utf8 place
items-encodes (c ∷ cs) place are =
    let some : 0 < length (encode_utf8 c ++ encode_utf8_all cs) = omega (arith, length-append (encode_utf8 c) (encode_utf8_all cs), encode_utf8_some c) in
    let parts = and_parts _ (all_scalars cs) are in
    rw (
      some-item place (encode_utf8 c ++ encode_utf8_all cs) some,
      read_utf8-encode c (encode_utf8_all cs) parts.0,
      drop_at (encode_utf8 c) (encode_utf8_all cs) _ refl,
    )
    (ap (λ items. (place, c) ∷ items) (items-encodes cs (place + length (encode_utf8 c)) parts.1))

place-at : (n place : ℕ) (cs : List ℕ) → n ≤ length cs
    → place_of (drop n (items_at place cs)) (place + length (encode_utf8_all cs)) ≡ place + length (encode_utf8_all (take n cs))
unfolding items_at
place-at zero place [] few = refl
place-at zero place (c ∷ cs) few = omega arith
place-at (suc n) place [] few = absurd (omega arith)
place-at (suc n) place (c ∷ cs) few =
    let all = length-append (encode_utf8 c) (encode_utf8_all cs) in
    let some = length-append (encode_utf8 c) (encode_utf8_all (take n cs)) in
    let end : place + length (encode_utf8 c ++ encode_utf8_all cs) ≡ place + length (encode_utf8 c) + length (encode_utf8_all cs) = omega (arith, all) in
    let later = place-at n (place + length (encode_utf8 c)) cs (omega arith) in
    ap (λ e. place_of (drop n (items_at (place + length (encode_utf8 c)) cs)) e) end ∙ later ∙ omega (arith, some)

-- where the pieces of some characters end, in bytes
ends-encoded : (all : List ℕ) (pieces : List (List ℕ)) (before : List ℕ) → all ≡ before ++ concat pieces
    → map (λ n. place_of (drop n (items_at 0 all)) (length (encode_utf8_all all))) (piece_ends (length before) pieces)
    ≡ piece_ends (length (encode_utf8_all before)) (map encode_utf8_all pieces)
unfolding piece_ends
ends-encoded all [] before is = refl
ends-encoded all (piece ∷ pieces) before is =
    let front = before ++ piece in
    let count : length before + length piece ≡ length front = sym (length-append before piece) in
    let whole : all ≡ front ++ concat pieces = is ∙ sym (append_assoc before piece (concat pieces)) in
    let size : length all ≡ length front + length (concat pieces) = ap length whole ∙ length-append front (concat pieces) in
    let begin : take (length front) all ≡ front = ap (take (length front)) whole ∙ take_at front (concat pieces) _ refl in
    let bytes : length (encode_utf8_all front) ≡ length (encode_utf8_all before) + length (encode_utf8_all piece) = ap length (encodes-append before piece) ∙ length-append (encode_utf8_all before) (encode_utf8_all piece) in
    let zero_end : length (encode_utf8_all all) ≡ 0 + length (encode_utf8_all all) = omega arith in
    let zero_place : 0 + length (encode_utf8_all (take (length front) all)) ≡ length (encode_utf8_all (take (length front) all)) = omega arith in
    let place : place_of (drop (length front) (items_at 0 all)) (length (encode_utf8_all all)) ≡ length (encode_utf8_all before) + length (encode_utf8_all piece) =
    ap (place_of (drop (length front) (items_at 0 all))) zero_end
    ∙ place-at (length front) 0 all (omega arith) ∙ zero_place ∙ ap (λ cs. length (encode_utf8_all cs)) begin ∙ bytes in
    ap (λ n. map (λ n. place_of (drop n (items_at 0 all)) (length (encode_utf8_all all))) (n ∷ piece_ends n pieces)) count
    ∙ ap₂ (λ n ns. n ∷ ns) place (ends-encoded all pieces front whole ∙ ap (λ n. piece_ends n (map encode_utf8_all pieces)) bytes)

concat-prepend : (part : List ℕ) (pieces : List (List ℕ)) → concat (prepend part pieces) ≡ part ++ concat pieces
concat-prepend part [] = refl
concat-prepend part (piece ∷ pieces) = append_assoc part piece (concat pieces)

pub concat-cut : (rule : Rule) (before cs after : List ℕ) → concat (cut rule before cs after) ≡ cs
unfolding cut
concat-cut rule before [] after = refl
concat-cut rule before (c ∷ cs) after =
    let rest = cut rule (c ∷ before) cs after in
    cond_both (rule (c ∷ before) (cs ++ after)) ((c ∷ []) ∷ rest) (prepend (c ∷ []) rest) (λ pieces. concat pieces ≡ c ∷ cs)
    (λ _. ap (λ cs. c ∷ cs) (concat-cut rule (c ∷ before) cs after))
    (λ _. concat-prepend (c ∷ []) rest ∙ ap (λ cs. c ∷ cs) (concat-cut rule (c ∷ before) cs after))

pub offsets-in : (text : Text) (found : List Boundary) → offsets (map (boundary_in text) found) ≡ map (λ n. start_of (rest_after n text)) (offsets found)
offsets-in text [] = refl
offsets-in text (b ∷ found) = ap (λ ns. start_of (rest_after b.offset text) ∷ ns) (offsets-in text found)

encoded-segments : (rule : Rule) (find : List ℕ → List Boundary) → ((cs : List ℕ) → offsets (find cs) ≡ 0 ∷ piece_ends 0 (cut rule [] cs []))
    → (cs : List ℕ) → all_scalars cs ≡ true → offsets (boundaries_in find (utf8 (encode_utf8_all cs))) ≡ 0 ∷ piece_ends 0 (segments rule (encode_utf8_all cs))
unfolding segments utf8_items
encoded-segments rule find are cs scalars =
    let bytes = encode_utf8_all cs in
    let text = utf8 bytes in
    let items = items-encodes cs 0 scalars in
    let spelt = chars-encodes cs scalars in
    let decoded : code_points text.items ≡ cs = utf8_items-characters 0 bytes (cs, (scalars, refl)) ∙ spelt in
    let pieces = cut rule [] cs [] in
    let end : 0 + length bytes ≡ length bytes = omega arith in
    let first : place_of (items_at 0 cs) (length bytes) ≡ 0 = ap (place_of (items_at 0 cs)) (sym end) ∙ place-at 0 0 cs (omega arith) in
    offsets-in text (find (code_points text.items))
    ∙ ap (λ cs. map (λ n. start_of (rest_after n text)) (offsets (find cs))) decoded
    ∙ ap (map (λ n. start_of (rest_after n text))) (are cs)
    ∙ ap₂ (λ items end. map (λ n. place_of (drop n items) end) (0 ∷ piece_ends 0 pieces)) items end
    ∙ ap₂ (λ n ns. n ∷ ns) first (ends-encoded cs pieces [] (sym (concat-cut rule [] cs [])))
    ∙ ap (λ cs. 0 ∷ piece_ends 0 (map encode_utf8_all (cut rule [] cs []))) (sym spelt)

-- Law: where the boundaries of code points are the ends of the pieces, those of a str are the ends of the kit's segments, in bytes
pub text-segments : (rule : Rule) (find : List ℕ → List Boundary) → ((cs : List ℕ) → offsets (find cs) ≡ 0 ∷ piece_ends 0 (cut rule [] cs []))
    → (text : List ℕ) → IsUtf8 text → offsets (boundaries_in find (utf8 text)) ≡ 0 ∷ piece_ends 0 (segments rule text)
text-segments rule find are text (cs, (scalars, is)) =
    subst (λ t. offsets (boundaries_in find (utf8 t)) ≡ 0 ∷ piece_ends 0 (segments rule t)) is (encoded-segments rule find are cs scalars)
