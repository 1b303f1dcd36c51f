-- The cuts of runs: they cover the run where those of each piece cover the piece.
use Rattle.std.proofs.Common.{◌≡◌, ℕ, zero, suc, ◌<◌, ◌≤◌, List, [], ◌∷◌, ◌++◌, length, map, take, drop, refl, sym, ap, ◌∙◌, arith}
use Rattle.std.specs.Prelude.{None, Some}
use Rattle.std.proofs.lemmas.List.{length-drop, length-map, take-map}
use Rattle.std.proofs.lemmas.List.Sums.{prefix_len-le-length}
use Rattle.seg_text.specs.declared.boundary.Boundary.{Boundary}
use Rattle.seg_text.specs.Items.{Item, Text, start_of, rest_after, text_before, code_points}
use Rattle.seg_text.specs.Boundaries.{boundary_in, boundaries_in, offsets, RisesTo, AreCutsOf, cut_places, with_status, later_boundaries, HasProgress, IsWithin}
use Rattle.seg_text.proofs.Covers.{covers-list}
use Rattle.seg_text.proofs.Places.{place-before}
use Rattle.seg_text.proofs.Stretches.{text-later-next, text-later-nil}
use Rattle.seg_data.specs.declared.provider.ComplexScript.{ComplexScript}
use Rattle.seg_clusters.specs.Scripts.{script_of, has_script, GivesPiece, piece_length, piece_script, PieceCuts, CoverPieces, CoverRuns, at_end, piece_stretch, run_cuts}
use Rattle.seg_clusters.proofs.Pieces.{piece-some}

progress : (cuts : PieceCuts) → HasProgress (piece_stretch cuts)
progress cuts first rest = piece-some first rest

piece-within : (code_points : List ℕ) → piece_length code_points ≤ length code_points
piece-within [] = omega arith
piece-within (first ∷ rest) = prefix_len-le-length (has_script (script_of first)) (first ∷ rest)

pub length-taken : (n : ℕ) (xs : List ℕ) → n ≤ length xs → length (take n xs) ≡ n
length-taken zero xs inside = refl
length-taken (suc n) [] inside = absurd (omega arith)
length-taken (suc n) (x ∷ xs) inside = ap suc (length-taken n xs (omega (arith, inside)))

-- the cuts of a run cover it

taken-rises : (cuts : PieceCuts) (script : ComplexScript) → CoverPieces cuts → (n first : ℕ) (rest : List ℕ) → 0 < n → n ≤ length (first ∷ rest)
    → RisesTo 0 (with_status 0 (cuts script (take n (first ∷ rest)))) n
taken-rises cuts script cover zero first rest some inside = absurd (omega arith)
taken-rises cuts script cover (suc n) first rest some inside =
    rw (length-taken n rest (omega (arith, inside))) at (cover script first (take n rest))

stretch-within : (cuts : PieceCuts) → CoverPieces cuts → (first : ℕ) (rest : List ℕ) → IsWithin (length (first ∷ rest)) (piece_stretch cuts (first ∷ rest))
stretch-within cuts cover first rest =
    let n = piece_length (first ∷ rest) in
    let rises = taken-rises cuts (script_of first) cover n first rest (piece-some first rest) (piece-within (first ∷ rest)) in
    record {
      some = piece-some first rest;
      within = piece-within (first ∷ rest);
      rises = (n, omega arith, rises);
      last = λ all. rises;
    }

-- only offsets rise
pub offsets-rise : (boundaries : List Boundary) (from end : ℕ) → RisesTo from boundaries end → RisesTo from (with_status 0 (offsets boundaries)) end
offsets-rise [] from end rises = rises
offsets-rise (boundary ∷ boundaries) from end rises = (rises.0, offsets-rise boundaries boundary.offset end rises.1)

pub runs-covered : (cuts : PieceCuts) → CoverPieces cuts → CoverRuns cuts
runs-covered cuts cover run =
    offsets-rise (later_boundaries (piece_stretch cuts) run) 0 (length run) (covers-list (piece_stretch cuts) (stretch-within cuts cover) run).1

pub at_end-covers : CoverPieces at_end
at_end-covers script first rest = (omega arith, refl)

-- so they stay in it

pub rises-inside : (cuts : List ℕ) (from end : ℕ) → RisesTo from (with_status 0 cuts) end → (from ≤ end) × AreCutsOf end cuts
rises-inside [] from end rises = (omega (arith, rises), tt)
rises-inside (cut ∷ cuts) from end rises =
    let later = rises-inside cuts cut end rises.1 in
    (omega (arith, rises.0, later.0), (later.0, later.1))

pub run-cuts-inside : (cuts : PieceCuts) → CoverPieces cuts → (run : List ℕ) → AreCutsOf (length run) (run_cuts cuts run)
run-cuts-inside cuts cover run = (rises-inside (run_cuts cuts run) 0 (length run) (runs-covered cuts cover run)).1

-- their places, piece by piece

abbrev pub place_after : Text → ℕ → ℕ
place_after text cut = start_of (rest_after cut text)

pub places-offsets : (text : Text) (boundaries : List Boundary) → map (place_after text) (offsets boundaries) ≡ offsets (map (boundary_in text) boundaries)
places-offsets text [] = refl
places-offsets text (boundary ∷ boundaries) = ap (λ (rest : List ℕ). place_after text boundary.offset ∷ rest) (places-offsets text boundaries)

pub offsets-append : (some others : List Boundary) → offsets (some ++ others) ≡ offsets some ++ offsets others
offsets-append [] others = refl
offsets-append (boundary ∷ some) others = ap (λ (rest : List ℕ). boundary.offset ∷ rest) (offsets-append some others)

pub places-with : (text : Text) (cuts : List ℕ) → offsets (map (boundary_in text) (with_status 0 cuts)) ≡ map (place_after text) cuts
places-with text [] = refl
places-with text (cut ∷ cuts) = ap (λ (rest : List ℕ). place_after text cut ∷ rest) (places-with text cuts)

pub cuts-nil : (cuts : PieceCuts) (end : ℕ) → cut_places (run_cuts cuts) (record { items = []; end = end }) ≡ []
cuts-nil cuts end =
    places-offsets (record { items = []; end = end }) (later_boundaries (piece_stretch cuts) []) ∙ ap offsets (text-later-nil (piece_stretch cuts) end)

-- the cuts of the first piece, and then those of what is left
pub cuts-next : (cuts : PieceCuts) (item : Item) (items : List Item) (end : ℕ)
    → let text : Text = record { items = item ∷ items; end = end } in let run = code_points (item ∷ items) in
    cut_places (run_cuts cuts) text
    ≡ map (place_after text) (cuts (piece_script run) (take (piece_length run) run)) ++ cut_places (run_cuts cuts) (rest_after (piece_length run) text)
cuts-next cuts item items end =
    let text : Text = record { items = item ∷ items; end = end } in
    let run = code_points (item ∷ items) in
    let first = piece_stretch cuts in
    let rest = rest_after (piece_length run) text in
    places-offsets text (later_boundaries first run)
    ∙ ap offsets (text-later-next first (progress cuts) item items end)
    ∙ offsets-append (map (boundary_in text) (first run).boundaries) (boundaries_in (later_boundaries first) rest)
    ∙ ap (λ (some : List ℕ). some ++ offsets (boundaries_in (later_boundaries first) rest)) (places-with text (cuts (piece_script run) (take (piece_length run) run)))
    ∙ ap (λ (others : List ℕ). map (place_after text) (cuts (piece_script run) (take (piece_length run) run)) ++ others)
    (sym (places-offsets rest (later_boundaries first (code_points rest.items))))

-- a piece's cuts stay in it
piece-inside : (cuts : PieceCuts) (script : ComplexScript) → CoverPieces cuts → (n first : ℕ) (rest : List ℕ) → 0 < n → n ≤ length (first ∷ rest)
    → AreCutsOf n (cuts script (take n (first ∷ rest)))
piece-inside cuts script cover n first rest some inside =
    (rises-inside (cuts script (take n (first ∷ rest))) 0 n (taken-rises cuts script cover n first rest some inside)).1

-- so they stand at the same places in what was before the piece
before-places : (text : Text) (n count : ℕ) (cuts : List ℕ) → count ≤ n → AreCutsOf count cuts
    → map (place_after text) cuts ≡ map (place_after (text_before n text)) cuts
before-places text n count [] below are = refl
before-places text n count (cut ∷ cuts) below are =
    rw (place-before text.items text.end n cut (omega (arith, below, are.0)), before-places text n count cuts below are.1) refl

piece-at : (cuts : PieceCuts) → CoverPieces cuts → (items : List Item) (end : ℕ) → 0 < piece_length (code_points items)
    → let text : Text = record { items = items; end = end } in let n = piece_length (code_points items) in
    cut_places (run_cuts cuts) text ≡ cut_places (cuts (piece_script (code_points items))) (text_before n text) ++ cut_places (run_cuts cuts) (rest_after n text)
piece-at cuts cover [] end some = absurd (omega (arith, some))
piece-at cuts cover (item ∷ items) end some =
    let text : Text = record { items = item ∷ items; end = end } in
    let run = code_points (item ∷ items) in
    let n = piece_length run in
    let script = piece_script run in
    let inside = piece-inside cuts script cover n item.1 (code_points items) some (piece-within run) in
    cuts-next cuts item items end
    ∙ ap (λ (found : List ℕ). found ++ cut_places (run_cuts cuts) (rest_after n text)) (before-places text n n (cuts script (take n run)) (omega arith) inside)
    ∙ ap (λ (first : List ℕ). map (place_after (text_before n text)) (cuts script first) ++ cut_places (run_cuts cuts) (rest_after n text)) (take-map (λ (item : Item). item.1) n (item ∷ items))

-- a piece was given
pub piece-next : {I : Type 0} (text : I → Text) (cuts : PieceCuts) → CoverPieces cuts → (before after : Text) (piece : I × ComplexScript)
    → GivesPiece text before (Some piece) after
    → cut_places (run_cuts cuts) before ≡ cut_places (cuts piece.1) (text piece.0) ++ cut_places (run_cuts cuts) after
piece-next text cuts cover before after piece gives =
    piece-at cuts cover before.items before.end gives.0
    ∙ ap (λ (script : ComplexScript). cut_places (cuts script) (text_before (piece_length (code_points before.items)) before) ++ cut_places (run_cuts cuts) (rest_after (piece_length (code_points before.items)) before)) (sym gives.2)
    ∙ ap (λ (first : Text). cut_places (cuts piece.1) first ++ cut_places (run_cuts cuts) (rest_after (piece_length (code_points before.items)) before)) (sym gives.1)
    ∙ ap (λ (rest : Text). cut_places (cuts piece.1) (text piece.0) ++ cut_places (run_cuts cuts) rest) (sym gives.3)

-- less is left then
pub piece-fewer : {I : Type 0} (text : I → Text) (before after : Text) (piece : I × ComplexScript) → GivesPiece text before (Some piece) after
    → length after.items < length before.items
piece-fewer text before after piece gives =
    rw (gives.3) (drop-fewer (piece_length (code_points before.items)) before.items gives.0 (rw (length-map before.items (λ (item : Item). item.1)) at (piece-within (code_points before.items))))
  where
    drop-fewer : (n : ℕ) (items : List Item) → 0 < n → n ≤ length items → length (drop n items) < length items
    drop-fewer n items some inside = rw (length-drop n items) (omega (arith, some, inside))

-- none was left
pub end-none : {I : Type 0} (text : I → Text) (cuts : PieceCuts) (before after : Text) → GivesPiece text before None after
    → (cut_places (run_cuts cuts) before ≡ []) × (cut_places (run_cuts cuts) after ≡ [])
end-none text cuts before after gives =
    let none : cut_places (run_cuts cuts) before ≡ [] = ap (λ (items : List Item). cut_places (run_cuts cuts) (record { items = items; end = before.end })) gives.0 ∙ cuts-nil cuts before.end in
    (none, ap (cut_places (run_cuts cuts)) gives.1 ∙ none)

-- nothing was left of a piece and of the pieces after it
pub nothing-left : (piece later before after left : List ℕ) → piece ≡ [] → later ≡ [] → before ≡ [] → after ≡ [] → piece ++ before ≡ left
    → (left ≡ []) × (later ++ after ≡ [])
nothing-left piece later before after left none empty nothing still is = (
  sym is ∙ ap (λ (some : List ℕ). some ++ before) none ∙ nothing,
  ap (λ (some : List ℕ). some ++ after) empty ∙ still,
)

-- nothing was left of a piece, and the next one was given, with its cuts
pub left-next : {I : Type 0} (text : I → Text) (cuts : PieceCuts) → CoverPieces cuts → (before after : Text) (piece : I × ComplexScript) (none found left : List ℕ)
    → GivesPiece text before (Some piece) after → none ≡ [] → found ≡ cut_places (cuts piece.1) (text piece.0)
    → none ++ cut_places (run_cuts cuts) before ≡ left → found ++ cut_places (run_cuts cuts) after ≡ left
left-next text cuts cover before after piece none found left gives nothing are is =
    ap (λ (some : List ℕ). some ++ cut_places (run_cuts cuts) after) are
    ∙ sym (piece-next text cuts cover before after piece gives)
    ∙ ap (λ (some : List ℕ). some ++ cut_places (run_cuts cuts) before) (sym nothing)
    ∙ is
