-- Parts of texts.
use Rattle.std.proofs.Common.{◌≡◌, ℕ, suc, ◌+◌, ◌-◌, ◌<◌, ◌≤◌, ◌⊎◌, List, [], ◌∷◌, ◌++◌, length, map, drop, take, get_or, append_assoc, refl, sym, ap, subst, subst₂, ◌∙◌, arith, inl, inr}
use Rattle.std.specs.Prelude.{Option, Some, None, Contains}
use Rattle.std.proofs.lemmas.Bool.Decides.{leb_tells}
use Rattle.std.proofs.lemmas.List.{length-append, length-take-le, take-append-drop}
use Rattle.std.proofs.Math.Seq.{drop-append_seam, drop-cons, take-append_seam}
use Rattle.std.proofs.lemmas.List.Elements.{Contains-append_left, Contains-append_right, Contains-append_cases}
use Rattle.seg_text.specs.declared.boundary.Boundary.{Boundary}
use Rattle.seg_text.specs.Boundaries.{IsCover, RisesTo, offsets, shift_all}
use Rattle.seg_text.specs.Decoding.{utf8, utf16}
use Rattle.seg_text.specs.Items.{Text}
use Rattle.seg_clusters.specs.Rules.{PartsBehind, PartsTexts}
use Rattle.seg_segments.specs.NearBoundaries.{BeginsLine, IsNearestAbove, IsNearestBelow, IsPart, StartsAt, boundaries_of_units, line_feed, places_of_units}
use Rattle.seg_segments.proofs.Nearest.{has-none, has-cases, has-here, has-later}

-- ---- what covers contain

rises-last : (from end : ℕ) (boundaries : List Boundary) → RisesTo from boundaries end → (from ≡ end) ⊎ Contains (offsets boundaries) end
rises-last from end [] rises = inl rises
rises-last from end (one ∷ boundaries) rises =
    elim (rises-last one.offset end boundaries rises.1) [
      | inl here ↦ inr (subst (Contains (offsets (one ∷ boundaries))) here (has-here one.offset (offsets boundaries)))
      | inr later ↦ inr (has-later one.offset (offsets boundaries) end later)
    ]

rises-order : (from end : ℕ) (boundaries : List Boundary) → RisesTo from boundaries end → from ≤ end
rises-order from end [] rises = omega (arith, rises)
rises-order from end (one ∷ boundaries) rises = omega (arith, rises.0, rises-order one.offset end boundaries rises.1)

rises-within : (from end : ℕ) (boundaries : List Boundary) (place : ℕ) → RisesTo from boundaries end → Contains (offsets boundaries) place → place ≤ end
rises-within from end [] place rises has = absurd (has-none place has)
rises-within from end (one ∷ boundaries) place rises has =
    elim (has-cases one.offset (offsets boundaries) place has) [
      | inl here ↦ omega (arith, here, rises-order one.offset end boundaries rises.1)
      | inr later ↦ rises-within one.offset end boundaries place rises.1 later
    ]

pub cover-start : (end : ℕ) (boundaries : List Boundary) → IsCover 0 end boundaries → Contains (offsets boundaries) 0
cover-start end [] cover = absurd cover
cover-start end (one ∷ boundaries) cover = subst (Contains (offsets (one ∷ boundaries))) cover.0 (has-here one.offset (offsets boundaries))

cover-end : (end : ℕ) (boundaries : List Boundary) → IsCover 0 end boundaries → Contains (offsets boundaries) end
cover-end end [] cover = absurd cover
cover-end end (one ∷ boundaries) cover =
    elim (rises-last 0 end boundaries cover.1) [
      | inl here ↦ subst (Contains (offsets (one ∷ boundaries))) (cover.0 ∙ here) (has-here one.offset (offsets boundaries))
      | inr later ↦ has-later one.offset (offsets boundaries) end later
    ]

pub cover-within : (end : ℕ) (boundaries : List Boundary) (place : ℕ) → IsCover 0 end boundaries → Contains (offsets boundaries) place → place ≤ end
cover-within end [] place cover has = absurd cover
cover-within end (one ∷ boundaries) place cover has =
    elim (has-cases one.offset (offsets boundaries) place has) [
      | inl here ↦ omega (arith, here, cover.0, rises-order 0 end boundaries cover.1)
      | inr later ↦ rises-within 0 end boundaries place cover.1 later
    ]

-- ---- boundaries that are joined

joined-offsets : (before : ℕ) (first second : List Boundary)
    → offsets (first ++ shift_all before second) ≡ offsets first ++ map (λ (place : ℕ). before + place) (offsets second)
joined-offsets before [] [] = refl
joined-offsets before [] (one ∷ second) = ap (λ (places : List ℕ). (before + one.offset) ∷ places) (joined-offsets before [] second)
joined-offsets before (one ∷ first) second = ap (λ (places : List ℕ). one.offset ∷ places) (joined-offsets before first second)

pub has-mapped : (f : ℕ → ℕ) (places : List ℕ) (place : ℕ) → Contains places place → Contains (map f places) (f place)
has-mapped f [] place has = absurd (has-none place has)
has-mapped f (one ∷ places) place has =
    elim (has-cases one places place has) [
      | inl here ↦ subst (λ (x : ℕ). Contains (map f (one ∷ places)) (f x)) here (has-here (f one) (map f places))
      | inr later ↦ has-later (f one) (map f places) (f place) (has-mapped f places place later)
    ]

pub mapped-has : (f : ℕ → ℕ) (places : List ℕ) (image : ℕ) → Contains (map f places) image → (place : ℕ) × Contains places place × (image ≡ f place)
mapped-has f [] image has = absurd (has-none image has)
mapped-has f (one ∷ places) image has =
    elim (has-cases (f one) (map f places) image has) [
      | inl here ↦ (one, has-here one places, sym here)
      | inr later ↦ let found = mapped-has f places image later in (found.0, has-later one places found.0 found.1, found.2)
    ]

-- places but the first
pub behind-first : (boundaries : List Boundary) → drop 1 (offsets boundaries) ≡ offsets (drop 1 boundaries)
behind-first [] = refl
behind-first (one ∷ boundaries) = refl

pub among-all : (places : List ℕ) (place : ℕ) → Contains (drop 1 places) place → Contains places place
among-all [] place has = has
among-all (one ∷ places) place has = has-later one places place has

pub cover-starts : (end : ℕ) (boundaries : List Boundary) → IsCover 0 end boundaries → StartsAt 0 (offsets boundaries)
cover-starts end [] cover = absurd cover
cover-starts end (one ∷ boundaries) cover = ap (λ (place : ℕ). place ∷ offsets boundaries) cover.0

joined-part : (before : ℕ) (first second : List Boundary) → IsCover 0 before first
    → IsPart (offsets first ++ map (λ (place : ℕ). before + place) (offsets (drop 1 second))) before (offsets second)
joined-part before first second covers = record {
  among = λ place has.
      Contains-append_right (offsets first) _ _
      (has-mapped (λ (place : ℕ). before + place) (offsets (drop 1 second)) place (subst (λ (places : List ℕ). Contains places place) (behind-first second) has));
  all = λ place has.
      elim (Contains-append_cases (offsets first) _ place has) [
        | inl early ↦ inl (cover-within before first place covers early)
        | inr late ↦
            let found = mapped-has (λ (place : ℕ). before + place) (offsets (drop 1 second)) place late in
            inr (found.0, among-all (offsets second) found.0 (subst (λ (places : List ℕ). Contains places found.0) (sym (behind-first second)) found.1), found.2)
      ];
}

-- ---- the part from the start of a line on

pub whole-part : (places : List ℕ) → IsPart places 0 places
whole-part places = record {
  among = λ place has. subst (Contains places) (omega arith) (among-all places place has);
  all = λ place has. inr (place, has, omega arith);
}

-- a part that begins at a boundary
abbrev pub IsBoundaryPart : (List ℕ → Text) → (List ℕ → List Boundary) → List ℕ → ℕ → List ℕ → Type 0
IsBoundaryPart decode find units start part =
    IsPart (places_of_units decode find units) start (places_of_units decode find part) × Contains (places_of_units decode find units) start

split : (decode : List ℕ → Text) (find : List ℕ → List Boundary) (before second : List ℕ) → PartsBehind (boundaries_of_units decode find) line_feed
    → IsCover 0 (length (before ++ line_feed)) (boundaries_of_units decode find (before ++ line_feed))
    → IsBoundaryPart decode find ((before ++ line_feed) ++ second) (length (before ++ line_feed)) second
split decode find before second parts covers =
    let first : List ℕ = before ++ line_feed in
    let joined = ap offsets (parts before second) ∙ joined-offsets (length first) (boundaries_of_units decode find first) (drop 1 (boundaries_of_units decode find second)) in (
      subst (λ (places : List ℕ). IsPart places (length first) (places_of_units decode find second)) (sym joined)
          (joined-part (length first) (boundaries_of_units decode find first) (boundaries_of_units decode find second) covers),
      subst (λ (places : List ℕ). Contains places (length first)) (sym joined)
          (Contains-append_left (places_of_units decode find first) _ _ (cover-end (length first) (boundaries_of_units decode find first) covers)),
    )

pub start-part : (decode : List ℕ → Text) (find : List ℕ → List Boundary) (units part : List ℕ) (start : ℕ) → start ≡ 0 → part ≡ drop start units
    → IsCover 0 (length units) (boundaries_of_units decode find units) → IsBoundaryPart decode find units start part
start-part decode find units part start is is_part whole =
    let same : part ≡ units = is_part ∙ ap (λ (n : ℕ). drop n units) is in
    subst₂ (IsBoundaryPart decode find units) (sym is) (sym same)
    (whole-part (places_of_units decode find units), cover-start (length units) (boundaries_of_units decode find units) whole)

pub line-part : (decode : List ℕ → Text) (find : List ℕ → List Boundary) (units first part : List ℕ) (start : ℕ) → first ≡ take start units → part ≡ drop start units
    → BeginsLine units start → PartsBehind (boundaries_of_units decode find) line_feed → IsCover 0 (length units) (boundaries_of_units decode find units)
    → IsCover 0 (length first) (boundaries_of_units decode find first) → IsBoundaryPart decode find units start part
line-part decode find units first part start is_first is_part (inl is) parts whole covers = start-part decode find units part start is is_part whole
line-part decode find units first part start is_first is_part (inr (before, second, is, at)) parts whole covers =
    let front : List ℕ = before ++ line_feed in
    let taken : first ≡ front = is_first ∙ ap (λ (n : ℕ). take n units) at ∙ ap (take (length front)) is ∙ take-append_seam front second in
    let rest : part ≡ second = is_part ∙ ap (λ (n : ℕ). drop n units) at ∙ ap (drop (length front)) is ∙ drop-append_seam front second in
    subst (λ (units : List ℕ). IsBoundaryPart decode find units start part) (sym is)
    (subst₂ (IsBoundaryPart decode find (front ++ second)) (sym at) (sym rest)
    (split decode find before second parts (subst (λ (text : List ℕ). IsCover 0 (length text) (boundaries_of_units decode find text)) taken covers)))

behind-feed : (units : List ℕ) (last other : ℕ) → last < length units → get_or units last other ≡ 0x0A → BeginsLine units (last + 1)
behind-feed units last other within is = inr (
  take last units,
  drop (last + 1) units,
  sym (take-append-drop last units) ∙ ap (λ (rest : List ℕ). take last units ++ rest) (rest-at ∙ ap (λ (n : ℕ). 0x0A ∷ drop n units) next)
      ∙ sym (append_assoc (take last units) line_feed (drop (last + 1) units)),
  omega (arith, within, length-take-le last units (omega (arith, within)), length-append (take last units) line_feed),
)
  where
    next : suc last ≡ last + 1
    next = omega arith

    rest-at : drop last units ≡ 0x0A ∷ drop (suc last) units
    rest-at = drop-cons units last other within ∙ ap (λ (unit : ℕ). unit ∷ drop (suc last) units) is

pub feed-before : (units : List ℕ) (start other : ℕ) → 0 < start → start ≤ length units → get_or units (start - 1) other ≡ 0x0A → BeginsLine units start
feed-before units start other some within is =
    let next : start - 1 + 1 ≡ start = omega (arith, some) in
    subst (BeginsLine units) next (behind-feed units (start - 1) other (omega (arith, some, within)) is)

-- a line feed is one unit

pub feeds-utf8 : (find : List ℕ → List Boundary) → PartsTexts find 0x0A → PartsBehind (boundaries_of_units utf8 find) line_feed
unfolding lib.Utf8.encode
feeds-utf8 find parts = parts.in_utf8

pub feeds-utf16 : (find : List ℕ → List Boundary) → PartsTexts find 0x0A → PartsBehind (boundaries_of_units utf16 find) line_feed
feeds-utf16 find parts = parts.in_utf16

-- ---- the nearest of a whole text

inner-place : (part : List ℕ) (place : ℕ) → StartsAt 0 part → Contains part place → 0 < place → Contains (drop 1 part) place
inner-place part place starts has some =
    elim (has-cases 0 (drop 1 part) place (subst (λ (places : List ℕ). Contains places place) starts has)) [
      | inl here ↦ absurd (omega (arith, here, some))
      | inr later ↦ later
    ]

pub part-above-none : (places part : List ℕ) (start place : ℕ) → IsPart places start part → start ≤ place → IsNearestAbove part (place - start) None
    → IsNearestAbove places place None
part-above-none places part start place is order none = λ other has.
    elim (is.all other has) [
      | inl early ↦ omega (arith, early, order)
      | inr (inner, has, at) ↦ omega (arith, at, order, none inner has)
    ]

pub part-above-some : (places part : List ℕ) (start place found : ℕ) → StartsAt 0 part → IsPart places start part → start ≤ place
    → IsNearestAbove part (place - start) (Some found) → IsNearestAbove places place (Some (start + found))
part-above-some places part start place found starts is order nearest = (
  is.among found (inner-place part found starts nearest.0 (omega (arith, nearest.1))),
  omega (arith, order, nearest.1),
  λ other has above.
      elim (is.all other has) [
        | inl early ↦ absurd (omega (arith, early, order, above))
        | inr (inner, there, at) ↦ omega (arith, at, nearest.2 inner there (omega (arith, at, above, order)))
      ],
)

pub part-below-none : (part : List ℕ) (start below : ℕ) → StartsAt 0 part → start < below → IsNearestBelow part (below - start) None → ⊥
part-below-none part start below starts order none =
    omega (arith, order, none 0 (subst (λ (places : List ℕ). Contains places 0) (sym starts) (has-here 0 (drop 1 part))))

-- what is found above the start, or at a boundary, is the nearest
pub part-below-some : (places part : List ℕ) (start below found : ℕ) → StartsAt 0 part → IsPart places start part → start < below
    → IsNearestBelow part (below - start) (Some found) → (0 < found) ⊎ Contains places start → IsNearestBelow places below (Some (start + found))
part-below-some places part start below found starts is order nearest told = (
  elim (inner-or-start found nearest.0) [
    | inl some ↦ is.among found some
    | inr none ↦ elim told [
      | inl some ↦ absurd (omega (arith, none, some))
      | inr here ↦ subst (Contains places) (omega (arith, none)) here
    ]
  ],
  omega (arith, order, nearest.1),
  λ other has less.
      elim (is.all other has) [
        | inl early ↦ omega (arith, early)
        | inr (inner, there, at) ↦ omega (arith, at, nearest.2 inner there (omega (arith, at, less, order)))
      ],
)
  where
    inner-or-start : (found : ℕ) → Contains part found → Contains (drop 1 part) found ⊎ (0 ≡ found)
    inner-or-start found has =
        elim (has-cases 0 (drop 1 part) found (subst (λ (places : List ℕ). Contains places found) starts has)) [
          | inl here ↦ inr here
          | inr later ↦ inl later
        ]

-- where nothing is found above the start, the nearest is at the start or below it
pub part-below-goes : (places part : List ℕ) (start below found : ℕ) (nearest : Option ℕ) → IsPart places start part → start < below
    → IsNearestBelow part (below - start) (Some found) → found ≡ 0 → IsNearestBelow places (start + 1) nearest → IsNearestBelow places below nearest
part-below-goes places part start below found nearest is order there none further = on nearest further
  where
    up-to-start : (other : ℕ) → Contains places other → other < below → other ≤ start
    up-to-start other has less =
        elim (is.all other has) [
          | inl early ↦ early
          | inr (inner, inside, at) ↦ omega (arith, at, none, there.2 inner inside (omega (arith, at, less, order)))
        ]

    on : (nearest : Option ℕ) → IsNearestBelow places (start + 1) nearest → IsNearestBelow places below nearest
    on None further = λ other has.
        elim (leb_tells below other) [
          | inl past ↦ past.1
          | inr less ↦ absurd (omega (arith, up-to-start other has less.1, further other has))
        ]
    on (Some last) further = (further.0, omega (arith, further.1, order), λ other has less. further.2 other has (omega (arith, up-to-start other has less)))
