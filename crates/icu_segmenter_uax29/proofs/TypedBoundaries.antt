-- The boundaries of the machine of typed words are the ends of words, each with the type of its word.
use Rattle.std.proofs.Common.{◌≡◌, ℕ, zero, suc, ◌+◌, ◌-◌, List, [], ◌∷◌, ◌++◌, take, drop, length, refl, sym, ap, ap₂, ◌∙◌, arith, inl, inr}
use Rattle.std.specs.List.{concat}
use Rattle.std.proofs.lemmas.List.{drop_all}
use Rattle.unicode_segmentation.specs.Word.{is_word_break}
use Rattle.seg_text.specs.declared.boundary.Boundary.{Boundary}
use Rattle.seg_text.specs.Boundaries.{Stretch, boundary, later_boundaries, later_boundaries_within, offsets, shift_all, start}
use Rattle.seg_machine.specs.Machine.{Machine}
use Rattle.seg_machine.specs.Pick.{machine_boundaries, machine_stretch}
use Rattle.seg_rules.proofs.Law.{shift-shift, shift-zero}
use Rattle.icu_segmenter_uax29.specs.Pieces.{piece_ends}
use Rattle.icu_segmenter_uax29.specs.TypedWords.{typed_word_machine}
use Rattle.icu_segmenter_uax29.specs.Words.{word_machine, words}
use Rattle.icu_segmenter_uax29.specs.WordTypes.{typed_ends, word_type}
use Rattle.icu_segmenter_uax29.proofs.Texts.{concat-cut}
use Rattle.icu_segmenter_uax29.proofs.TypedPicks.{stretches}
use Rattle.icu_segmenter_uax29.proofs.WordPlaces.{words-are}

-- ---- the code points of pieces

take-piece : (piece rest : List ℕ) → take (length piece) (piece ++ rest) ≡ piece
take-piece [] rest = refl
take-piece (c ∷ piece) rest = ap (λ cs. c ∷ cs) (take-piece piece rest)

drop-piece : (piece rest : List ℕ) → drop (length piece) (piece ++ rest) ≡ rest
drop-piece [] rest = refl
drop-piece (c ∷ piece) rest = drop-piece piece rest

-- ---- boundaries with the types of what stands before them, of some code points from an offset on, at these offsets

unfoldable typed_places : ℕ → List ℕ → List ℕ → List Boundary
typed_places from cs [] = []
typed_places from cs (end ∷ ends) = boundary end (word_type (take (end - from) cs)) ∷ typed_places end (drop (end - from) cs) ends

places-ends : (from : ℕ) (pieces : List (List ℕ)) → typed_places from (concat pieces) (piece_ends from pieces) ≡ typed_ends from pieces
unfolding typed_places typed_ends piece_ends
places-ends from [] = refl
places-ends from (piece ∷ pieces) =
    let end = from + length piece in
    let size : end - from ≡ length piece = omega arith in
    let cs = piece ++ concat pieces in
    ap (λ n. boundary end (word_type (take n cs)) ∷ typed_places end (drop n cs) (piece_ends end pieces)) size
    ∙ ap₂ (λ word rest. boundary end (word_type word) ∷ typed_places end rest (piece_ends end pieces)) (take-piece piece (concat pieces)) (drop-piece piece (concat pieces))
    ∙ ap (λ places. boundary end (word_type piece) ∷ places) (places-ends end pieces)

-- what is left of both machines' boundaries, through so many stretches at most
abbrev left : Machine → ℕ → List ℕ → List Boundary
left m most cs = later_boundaries_within (machine_stretch m) most cs

none-left : (m : Machine) (most : ℕ) (c : ℕ) (cs : List ℕ) → machine_stretch m (c ∷ cs) ≡ record { extent = length (c ∷ cs); boundaries = [] } → left m (suc most) (c ∷ cs) ≡ []
unfolding later_boundaries_within
none-left m zero c cs none = ap (λ (s : Stretch). s.boundaries ++ []) none
none-left m (suc most) c cs none =
    ap (λ (s : Stretch). s.boundaries ++ shift_all s.extent (left m (suc most) (drop s.extent (c ∷ cs)))) none
    ∙ ap (λ rest. shift_all (suc (length cs)) (left m (suc most) rest)) (drop_all (length (c ∷ cs)) (c ∷ cs) (omega arith))

typed-places : (most n : ℕ) (cs : List ℕ)
    → shift_all n (left typed_word_machine most cs) ≡ typed_places n cs (offsets (shift_all n (left word_machine most cs)))
unfolding later_boundaries_within typed_places
typed-places zero n cs = refl
typed-places (suc most) n [] = refl
typed-places (suc most) n (c ∷ cs) =
    elim (stretches (c ∷ cs)) [
      | inl (typed, plain) ↦
          ap (shift_all n) (none-left typed_word_machine most c cs typed)
          ∙ sym (ap (λ later. typed_places n (c ∷ cs) (offsets (shift_all n later))) (none-left word_machine most c cs plain))
      | inr (k, (status, (typed, plain))) ↦
          let end = n + k in
          let rest = drop k (c ∷ cs) in
          let size : end - n ≡ k = omega arith in
          ap (λ (s : Stretch). shift_all n (s.boundaries ++ shift_all s.extent (left typed_word_machine most (drop s.extent (c ∷ cs))))) typed
          ∙ ap (λ later. boundary end (word_type (take k (c ∷ cs))) ∷ later) (shift-shift n k (left typed_word_machine most rest) ∙ typed-places most end rest)
          ∙ sym (ap (λ (s : Stretch). typed_places n (c ∷ cs) (offsets (shift_all n (s.boundaries ++ shift_all s.extent (left word_machine most (drop s.extent (c ∷ cs))))))) plain
          ∙ ap (λ later. typed_places n (c ∷ cs) (end ∷ offsets later)) (shift-shift n k (left word_machine most rest))
          ∙ ap (λ m. boundary end (word_type (take m (c ∷ cs))) ∷ typed_places end (drop m (c ∷ cs)) (offsets (shift_all end (left word_machine most rest)))) size)
    ]

-- Law: the boundaries are the start and the end of each word, with its type
pub typed-are : (cs : List ℕ) → machine_boundaries typed_word_machine cs ≡ start ∷ typed_ends 0 (words cs)
unfolding later_boundaries
typed-are cs =
    let plain = left word_machine (length cs) cs in
    let typed = left typed_word_machine (length cs) cs in
    let ends = ap (drop 1) (words-are cs) in
    ap (λ later. start ∷ later)
    (sym (shift-zero typed) ∙ typed-places (length cs) 0 cs
    ∙ ap (λ later. typed_places 0 cs (offsets later)) (shift-zero plain)
    ∙ ap₂ (typed_places 0) (sym (concat-cut is_word_break [] cs [])) ends
    ∙ places-ends 0 (words cs))

offsets-of : (from : ℕ) (pieces : List (List ℕ)) → offsets (typed_ends from pieces) ≡ piece_ends from pieces
unfolding typed_ends piece_ends
offsets-of from [] = refl
offsets-of from (piece ∷ pieces) = ap (λ ends. (from + length piece) ∷ ends) (offsets-of (from + length piece) pieces)

-- Law: so their offsets are the bounds of words
pub bounds-are : (cs : List ℕ) → offsets (machine_boundaries typed_word_machine cs) ≡ 0 ∷ piece_ends 0 (words cs)
bounds-are cs = ap offsets (typed-are cs) ∙ ap (λ ends. 0 ∷ ends) (offsets-of 0 (words cs))
