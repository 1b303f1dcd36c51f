-- One line more is printed.
use Rattle.std.proofs.Common.{◌≡◌, ℕ, Option, None, Some, List, [], ◌∷◌, ◌++◌, map, sym, ap, ◌∙◌, append_assoc, append-nil}
use Rattle.std.specs.Io.KnownBytes.{Appends}
use Rattle.icu_segmenter.specs.Wrapping.{TextLine}
use Rattle.textcut.specs.Wrapped.{printed_line, printed_lines}

appends-more : (old mid new : Option (List ℕ)) (xs ys : List ℕ) → Appends old mid xs → Appends mid new ys → Appends old new (xs ++ ys)
appends-more None mid new xs ys first more = tt
appends-more (Some old) None new xs ys first more = absurd first
appends-more (Some old) (Some mid) None xs ys first more = absurd more
appends-more (Some old) (Some mid) (Some new) xs ys first more =
    more ∙ ap (λ (bytes : List ℕ). bytes ++ ys) first ∙ append_assoc old xs ys

lines-more : {X : Type 0} (view : X → TextLine) (lines : List X) (line : X)
    → printed_lines (map view (lines ++ line ∷ [])) ≡ printed_lines (map view lines) ++ printed_line (view line).units
lines-more view [] line = append-nil (printed_line (view line).units)
lines-more view (first ∷ lines) line =
    ap (λ (rest : List ℕ). printed_line (view first).units ++ rest) (lines-more view lines line)
    ∙ sym (append_assoc (printed_line (view first).units) (printed_lines (map view lines)) (printed_line (view line).units))

pub printed-more : {X : Type 0} (view : X → TextLine) (old mid new : Option (List ℕ)) (lines : List X) (line : X)
    → Appends old mid (printed_lines (map view lines)) → Appends mid new (printed_line (view line).units)
    → Appends old new (printed_lines (map view (lines ++ line ∷ [])))
printed-more view old mid new lines line first more =
    rw (lines-more view lines line) (appends-more old mid new (printed_lines (map view lines)) (printed_line (view line).units) first more)
