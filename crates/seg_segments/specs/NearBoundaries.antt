-- Boundaries near a place of a text.
use Rattle.std.specs.Prelude.{IsTrue, Bool, ◌≡◌, ℕ, ◌+◌, ◌<◌, ◌≤◌, ◌⊎◌, Option, List, [], ◌∷◌, ◌++◌, Contains, MatchOption, drop, filter, length, nat_le}
use Rattle.seg_text.specs.declared.boundary.Boundary.{Boundary}
use Rattle.seg_text.specs.Boundaries.{boundaries_in, offsets, shift_all}
use Rattle.seg_text.specs.Decoding.{utf8}
use Rattle.seg_text.specs.Items.{Text}
use Rattle.seg_segments.specs.declared.cursor.certain.Start.{Start}

-- the boundaries of a text that stands in some units, which the first decodes, where the second finds those of a list of code points; and
-- their places
abbrev pub boundaries_of_units : (List ℕ → Text) → (List ℕ → List Boundary) → List ℕ → List Boundary
boundaries_of_units decode find units = boundaries_in find (decode units)

abbrev pub places_of_units : (List ℕ → Text) → (List ℕ → List Boundary) → List ℕ → List ℕ
places_of_units decode find units = offsets (boundaries_of_units decode find units)

-- .. of bytes, as possibly ill-formed UTF-8
abbrev pub boundary_places : (List ℕ → List Boundary) → List ℕ → List ℕ
boundary_places find bytes = places_of_units utf8 find bytes

-- the nearest of some places above another one, if there is one
abbrev pub IsNearestAbove : List ℕ → ℕ → Option ℕ → Type 0
IsNearestAbove places place nearest =
    MatchOption nearest ((other : ℕ) → Contains places other → other ≤ place)
    (λ found. Contains places found × (place < found) × ((other : ℕ) → Contains places other → place < other → found ≤ other))

-- .. and below it
abbrev pub IsNearestBelow : List ℕ → ℕ → Option ℕ → Type 0
IsNearestBelow places place nearest =
    MatchOption nearest ((other : ℕ) → Contains places other → place ≤ other)
    (λ found. Contains places found × (found < place) × ((other : ℕ) → Contains places other → other < place → other ≤ found))

-- a line feed: one unit, in UTF-8 and in UTF-16
abbrev pub line_feed : List ℕ
line_feed = 0x0A ∷ []

-- a line begins at the place: the start, or right behind a line feed
abbrev pub BeginsLine : List ℕ → ℕ → Type 0
BeginsLine units place = (place ≡ 0) ⊎ ((before second : List ℕ) × (units ≡ (before ++ line_feed) ++ second) × (place ≡ length (before ++ line_feed)))

-- the part of a text from one place on: its places but the first, so much later, are places of the whole text, and all of those above its start
pub record IsPart (places : List ℕ) (start : ℕ) (part : List ℕ) : Type 0 where
  pub among : (place : ℕ) → Contains (drop 1 part) place → Contains places (start + place)
  pub all : (place : ℕ) → Contains places place → (place ≤ start) ⊎ ((inner : ℕ) × Contains part inner × (place ≡ start + inner))

-- the first of some places is this one
abbrev pub StartsAt : ℕ → List ℕ → Type 0
StartsAt first places = places ≡ first ∷ drop 1 places

-- the code points around a place tell that a search may begin there: what begins there has the places that it has alone, but perhaps for its start,
-- where it may be known that a boundary stands
abbrev pub IsTold : (List ℕ → Text) → (List ℕ → List Boundary) → List ℕ → Start → Type 0
IsTold decode find units start =
    IsPart (places_of_units decode find units) start.place (places_of_units decode find (drop start.place units))
    × (IsTrue start.is_boundary → Contains (places_of_units decode find units) start.place)

-- a search may begin at the place: at the start; where a line begins, if texts may be parted behind line feeds; and where the code points around it tell so
abbrev pub MayBegin : (List ℕ → Text) → (List ℕ → List Boundary) → Bool → List ℕ → Start → Type 0
MayBegin decode find has_parts units start =
    (start.place ≡ 0) ⊎ (IsTrue has_parts × BeginsLine units start.place) ⊎ IsTold decode find units start

-- the boundaries up to a place
abbrev pub up_to : ℕ → List Boundary → List Boundary
up_to place boundaries = filter (λ (found : Boundary). nat_le found.offset place) boundaries

-- each text that begins with some units may be split at a place of theirs: a boundary stands there, and whatever comes behind these units, the
-- boundaries are those up to the place that the units have alone, and then those of what begins there, without its start, so much later
pub record SplitsAt (find : List ℕ → List Boundary) (units : List ℕ) (place : ℕ) : Type 0 where
  pub boundary : Contains (offsets (find units)) place
  pub parts : (more : List ℕ) → find (units ++ more) ≡ up_to place (find units) ++ shift_all place (drop 1 (find (drop place units ++ more)))
