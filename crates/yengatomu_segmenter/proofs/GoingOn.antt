-- Behind a line feed, where texts may be parted there, come the boundaries of the rest.
use Rattle.std.proofs.Common.{◌≡◌, ℕ, ◌+◌, List, [], ◌∷◌, ◌++◌, map, take, drop, length, refl, sym, ap, ap₂, ◌∙◌, arith, drop_at, take_at, inl, inr, append_assoc, subst}
use Rattle.std.proofs.str.Laws.{one}
use Rattle.std.proofs.lemmas.List.{map-append}
use Rattle.seg_text.specs.declared.boundary.Boundary.{Boundary}
use Rattle.seg_text.specs.Items.{Text}
use Rattle.seg_text.specs.Boundaries.{IsCover, RisesTo, boundaries_in, offsets, shift_all}
use Rattle.icu_segmenter.specs.NearBoundaries.{BeginsLine, line_feed}
use Rattle.icu_segmenter.specs.Rules.{PartsBehind, PartsTexts}
use Rattle.seg_text.specs.Decoding.{latin1, utf8, utf16}
use Rattle.seg_text.proofs.GoingOn.{GoesOn}

-- the last boundary of a cover is its end
last-place : (found : Boundary) (boundaries : List Boundary) (end : ℕ) → RisesTo found.offset boundaries end → (before : List ℕ) × (offsets (found ∷ boundaries) ≡ before ++ end ∷ [])
last-place found [] end rises = ([], ap (λ place. place ∷ []) rises)
last-place found (next ∷ boundaries) end rises =
    let (before, is) = last-place next boundaries end rises.1 in
    (found.offset ∷ before, ap (λ places. found.offset ∷ places) is)

last-of : (boundaries : List Boundary) (end : ℕ) → IsCover 0 end boundaries → (before : List ℕ) × (offsets boundaries ≡ before ++ end ∷ [])
last-of [] end cover = absurd cover
last-of (found ∷ boundaries) end (first, rises) = last-place found boundaries end (rw first rises)

offsets-shifted : (n : ℕ) (boundaries : List Boundary) → offsets (shift_all n boundaries) ≡ map (λ place. n + place) (offsets boundaries)
offsets-shifted n [] = refl
offsets-shifted n (found ∷ boundaries) = ap (λ (places : List ℕ). (n + found.offset) ∷ places) (offsets-shifted n boundaries)

zero-later : (places : List ℕ) → places ≡ map (λ place. 0 + place) places
zero-later [] = refl
zero-later (place ∷ places) = let same : place ≡ 0 + place = omega arith in ap₂ (λ place places. place ∷ places) same (zero-later places)

module _ (find : List ℕ → List Boundary) (decode : List ℕ → Text) where
  abbrev found_in : List ℕ → List Boundary
  found_in units = boundaries_in find (decode units)

  at-start : (units : List ℕ) (from : ℕ) → from ≡ 0 → IsCover 0 (length units) (found_in units) → GoesOn find decode units from
  at-start units from none cover = rw none ([], on (found_in units) cover)
    where
      on : (boundaries : List Boundary) → IsCover 0 (length units) boundaries → offsets boundaries ≡ 0 ∷ map (λ place. 0 + place) (offsets (drop 1 boundaries))
      on [] cover = absurd cover
      on (found ∷ boundaries) (first, rises) = ap₂ (λ place places. place ∷ places) first (zero-later (offsets boundaries))

  behind-line : PartsBehind found_in line_feed → (units : List ℕ) (from : ℕ) (before second : List ℕ) → units ≡ (before ++ line_feed) ++ second → from ≡ length (before ++ line_feed)
      → IsCover 0 (length (take from units)) (found_in (take from units)) → GoesOn find decode units from
  behind-line parts units from before second is at cover =
      let first : List ℕ = before ++ line_feed in
      let front : take from units ≡ first = ap (take from) is ∙ take_at first second from (sym at) in
      let rest : drop from units ≡ second = ap (drop from) is ∙ drop_at first second from (sym at) in
      let (places, last) = last-of (found_in (take from units)) (length (take from units)) cover in
      let ends : length (take from units) ≡ from = ap length front ∙ sym at in (
        places,
        ap (λ units. offsets (found_in units)) is ∙ ap offsets (parts before second)
            ∙ map-append (λ (found : Boundary). found.offset) (found_in first) (shift_all (length first) (drop 1 (found_in second)))
            ∙ ap (λ before. before ++ offsets (shift_all (length first) (drop 1 (found_in second)))) (sym (ap (λ units. offsets (found_in units)) front) ∙ last ∙ ap (λ end. places ++ end ∷ []) ends)
            ∙ ap (λ later. (places ++ from ∷ []) ++ later) (offsets-shifted (length first) (drop 1 (found_in second)))
            ∙ ap₂ (λ n units. (places ++ from ∷ []) ++ map (λ place. n + place) (offsets (drop 1 (found_in units)))) (sym at) (sym rest)
            ∙ append_assoc places (from ∷ []) (map (λ place. from + place) (offsets (drop 1 (found_in (drop from units))))),
      )

  pub behind-feeds : PartsBehind found_in line_feed → (units : List ℕ) (from : ℕ) → BeginsLine units from
      → IsCover 0 (length units) (found_in units) → IsCover 0 (length (take from units)) (found_in (take from units)) → GoesOn find decode units from
  behind-feeds parts units from (inl none) whole first = at-start units from none whole
  behind-feeds parts units from (inr (before, second, is, at)) whole first = behind-line parts units from before second is at first

-- a line feed is one unit

pub feeds-utf8 : (find : List ℕ → List Boundary) → PartsTexts find 0x0A → PartsBehind (λ bytes. boundaries_in find (utf8 bytes)) line_feed
feeds-utf8 find parts = subst (PartsBehind (λ bytes. boundaries_in find (utf8 bytes))) (one 0x0A (omega arith)) parts.in_utf8

pub feeds-utf16 : (find : List ℕ → List Boundary) → PartsTexts find 0x0A → PartsBehind (λ units. boundaries_in find (utf16 units)) line_feed
feeds-utf16 find parts = parts.in_utf16

pub feeds-latin1 : (find : List ℕ → List Boundary) → PartsTexts find 0x0A → PartsBehind (λ bytes. boundaries_in find (latin1 bytes)) line_feed
feeds-latin1 find parts = parts.in_latin1 (omega arith)
