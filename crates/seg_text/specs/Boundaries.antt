-- Boundaries: where a list, or a text, may be cut. Each has an offset, in a list so many elements and in a text so many
-- units, and a status.
use Rattle.std.specs.Prelude.{◌≡◌, ℕ, suc, ◌+◌, ◌<◌, Option, Some, List, [], ◌∷◌, drop, map, slice_get, MatchOption, ◌≤◌, zero, ◌⊎◌, Bool, if◌then◌else◌, ◌++◌, length, true, false}
use Rattle.seg_text.specs.declared.boundary.Boundary.{Boundary}
use Rattle.seg_text.specs.Items.{Text, start_of, rest_after, code_points}
use Rattle.seg_text.specs.declared.reach.Reach.{Reach}

abbrev pub boundary : ℕ → ℕ → Boundary
boundary offset status = record { offset = offset; status = status }

-- the first boundary of any list
abbrev pub start : Boundary
start = boundary 0 0

abbrev pub offsets : List Boundary → List ℕ
offsets boundaries = map (λ (boundary : Boundary). boundary.offset) boundaries

-- a boundary, and boundaries, so much later
abbrev pub shift : ℕ → Boundary → Boundary
shift before found = boundary (before + found.offset) found.status

abbrev pub shift_all : ℕ → List Boundary → List Boundary
shift_all before boundaries = map (shift before) boundaries

-- a boundary of a text's code points, as one of the text: at the place after so many items
abbrev pub boundary_in : Text → Boundary → Boundary
boundary_in text counted = boundary (start_of (rest_after counted.offset text)) counted.status

-- the boundaries of a text, where this finds those of a list of code points
abbrev pub boundaries_in : (List ℕ → List Boundary) → Text → List Boundary
boundaries_in find text = map (boundary_in text) (find (code_points text.items))

-- the boundaries rise strictly, from one offset on to the end
abbrev pub RisesTo : ℕ → List Boundary → ℕ → Type 0
RisesTo from [] end = from ≡ end
RisesTo from (boundary ∷ boundaries) end = (from < boundary.offset) × RisesTo boundary.offset boundaries end

-- strict cover: the first is the start, the last the end, and each is above the one before
abbrev pub IsCover : ℕ → ℕ → List Boundary → Type 0
IsCover from end [] = ⊥
IsCover from end (boundary ∷ boundaries) = (boundary.offset ≡ from) × RisesTo from boundaries end

-- what was found in one text and in another are the same boundaries, counted in code points
abbrev pub AreSameCounted : Text → List Boundary → Text → List Boundary → Type 0
AreSameCounted one found other others =
    (counted : List Boundary) × (found ≡ map (boundary_in one) counted) × (others ≡ map (boundary_in other) counted)

-- a list may be cut anew from any of its boundaries: after each come those of the rest, taken alone and shifted, all but
-- its first, which is at 0
abbrev pub RestartsIn : {X : Type 0} → (List X → List Boundary) → List X → Type 0
RestartsIn find xs =
    (k : ℕ) (boundary : Boundary) → slice_get (find xs) k ≡ Some boundary
    → drop (suc k) (find xs) ≡ shift_all boundary.offset (drop 1 (find (drop boundary.offset xs)))

-- so may any list
abbrev pub HasRestart : {X : Type 0} → (List X → List Boundary) → Type 0
HasRestart {X} find = (xs : List X) → RestartsIn find xs

-- what an engine has still to give, and the status of the boundary that it gave last: 0 at first and after the end
pub record Remainder : Type 0 where
  pub left : List Boundary
  pub status : ℕ

-- the offsets that are still to come
abbrev pub offsets_left : Remainder → List ℕ
offsets_left remainder = offsets remainder.left

-- an engine gave the first boundary that was left, and has its status
abbrev pub GivesNext : Remainder → Option ℕ → Remainder → Type 0
GivesNext before given after =
    MatchOption given ((before.left ≡ []) × (after.left ≡ []) × (after.status ≡ 0))
    (λ offset. before.left ≡ boundary offset after.status ∷ after.left)

-- Cuts: where a list, or a text, may be cut, each an offset alone.

-- how a list of code points is cut: after so many of them each
abbrev pub Cuts : Type 0
Cuts = List ℕ → List ℕ

-- offsets as boundaries that all have one status
abbrev pub with_status : ℕ → List ℕ → List Boundary
with_status status offsets = map (λ (offset : ℕ). boundary offset status) offsets

-- the places of a text's cuts
abbrev pub cut_places : Cuts → Text → List ℕ
cut_places cuts text = map (λ (cut : ℕ). start_of (rest_after cut text)) (cuts (code_points text.items))

-- cuts stay in a list of so many code points
abbrev pub AreCutsOf : ℕ → List ℕ → Type 0
AreCutsOf count [] = Unit {0}
AreCutsOf count (cut ∷ cuts) = (cut ≤ count) × AreCutsOf count cuts

-- A list that is cut stretch by stretch.

-- how many elements a stretch has, and the boundaries in it, counted from its first element
pub record Stretch : Type 0 where
  pub extent : ℕ
  pub boundaries : List Boundary

-- the list is these stretches, each the first of what is left (`first`), and has these boundaries: those of its first
-- stretch, and then those of the rest
abbrev pub AreLaterBoundaries : {X : Type 0} → (List X → Stretch) → List X → List Stretch → List Boundary → Type 0
AreLaterBoundaries first [] [] found = found ≡ []
AreLaterBoundaries first (x ∷ xs) (stretch ∷ stretches) found =
    (first (x ∷ xs) ≡ stretch)
    × ((later : List Boundary) × (found ≡ stretch.boundaries ++ shift_all stretch.extent later)
    × AreLaterBoundaries first (drop stretch.extent (x ∷ xs)) stretches later)
AreLaterBoundaries first [] (stretch ∷ stretches) found = ⊥
AreLaterBoundaries first (x ∷ xs) [] found = ⊥

-- the boundaries as a function, through so many stretches at most
unfoldable pub later_boundaries_within : {X : Type 0} → (List X → Stretch) → ℕ → List X → List Boundary
later_boundaries_within first zero xs = []
later_boundaries_within first (suc most) [] = []
later_boundaries_within first (suc most) (x ∷ xs) =
    let stretch = first (x ∷ xs) in
    stretch.boundaries ++ shift_all stretch.extent (later_boundaries_within first most (drop stretch.extent (x ∷ xs)))

unfoldable pub later_boundaries : {X : Type 0} → (List X → Stretch) → List X → List Boundary
later_boundaries first xs = later_boundaries_within first (length xs) xs

-- all boundaries: that at the start, and then those of the stretches
abbrev pub list_boundaries : {X : Type 0} → (List X → Stretch) → List X → List Boundary
list_boundaries first xs = start ∷ later_boundaries first xs

-- these are the boundaries: one at the start, and then those of stretches that are each the first of what is left
abbrev pub AreBoundaries : {X : Type 0} → (List X → Stretch) → List X → List Boundary → Type 0
AreBoundaries first xs found =
    (stretches : List Stretch) × ((later : List Boundary) × (found ≡ start ∷ later)
    × AreLaterBoundaries first xs stretches later)

-- each list has such boundaries, and no others
pub record HasOneAnswer {X : Type 0} (first : List X → Stretch) : Type 0 where
  pub exists : (xs : List X) → AreBoundaries first xs (list_boundaries first xs)
  pub only : (xs : List X) (found : List Boundary) → AreBoundaries first xs found → found ≡ list_boundaries first xs

-- what an engine over a text has still to give: all boundaries of it, or where it has started those of its stretches
abbrev pub remainder : Bool → (List ℕ → Stretch) → Text → ℕ → Remainder
remainder started first text status = record {
  left = if started then boundaries_in (later_boundaries first) text else boundaries_in (list_boundaries first) text;
  status = status;
}

-- each stretch has some of the elements that there are
abbrev pub HasProgress : {X : Type 0} → (List X → Stretch) → Type 0
HasProgress {X} first = (x : X) (xs : List X) → 0 < (first (x ∷ xs)).extent

-- a stretch has one boundary, at its end, or none
abbrev pub HasEndAlone : Stretch → Type 0
HasEndAlone stretch =
    (stretch.boundaries ≡ [])
    ⊎ ((status : ℕ) × (stretch.boundaries ≡ boundary stretch.extent status ∷ []))

-- of so many elements a stretch has some. Its boundaries rise strictly in it, and to its end where it has them all
pub record IsWithin (count : ℕ) (stretch : Stretch) : Type 0 where
  pub some : 0 < stretch.extent
  pub within : stretch.extent ≤ count
  pub rises : (end : ℕ) × (end ≤ stretch.extent) × RisesTo 0 stretch.boundaries end
  pub last : stretch.extent ≡ count → RisesTo 0 stretch.boundaries stretch.extent

-- How far the boundaries of a text were given.

-- what is left of the boundaries from one place to the end: all of them, or, once one was given, those after it
abbrev pub AreLeft : Bool → ℕ → ℕ → List Boundary → Type 0
AreLeft false from end boundaries = IsCover from end boundaries
AreLeft true from end boundaries = RisesTo from boundaries end

abbrev pub AreAhead : Reach → List Boundary → Type 0
AreAhead reach boundaries = AreLeft reach.started reach.place reach.end boundaries
