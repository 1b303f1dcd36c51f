-- How many boundaries and items are left.
use Rattle.std.proofs.Common.{◌≡◌, ℕ, suc, ◌+◌, ◌-◌, ◌≤◌, Bool, true, false, List, [], ◌∷◌, length, refl, arith}
use Rattle.std.proofs.lemmas.List.{length-map}
use Rattle.std.specs.Prelude.{Option, None, Some, IfSome, min}
use Rattle.std.specs.Option.{SomeIff}
use Rattle.std.specs.Iterator.{UpTo, item_count}
use Rattle.std.specs.Iterator.SizeHint.{IsWithinCount}
use Rattle.seg_text.specs.declared.boundary.Boundary.{Boundary}
use Rattle.seg_text.specs.Boundaries.{Remainder, RisesTo, offsets_left, AreLeft, Stretch, IsWithin, remainder}
use Rattle.seg_text.specs.Items.{Item, Text, IsRising, place_of, start_of}
use Rattle.seg_text.specs.Lemmas.Encodings.{IsEncoding, text-rises}
use Rattle.seg_text.specs.Decoding.{read_utf8, utf8_items}
use Rattle.seg_text.specs.Lemmas.Readers.{items_by-cons, place_of-items_by}
use Rattle.seg_text.specs.Lemmas.Rising.{read_utf8-reader, utf8_items-rises}
use Rattle.seg_text.proofs.Covers.{covers}
use Rattle.seg_text.proofs.Encodings.{start-at}

-- boundaries that rise to an end are as many as the units to there at most
pub rising-few : (boundaries : List Boundary) (from end : ℕ) → RisesTo from boundaries end → from + length boundaries ≤ end
rising-few [] from end rises = omega (arith, rises)
rising-few (first ∷ boundaries) from end rises = omega (arith, rises.0, rising-few boundaries first.offset end rises.1)

-- so are items
pub items-few : (items : List Item) (end : ℕ) → IsRising items end → place_of items end + length items ≤ end
items-few [] end rises = omega arith
items-few (item ∷ items) end rises = omega (arith, rises.0, items-few items end rises.1)

-- what is said of boundaries is said of their places
pub hint-lower : (r : Remainder) (lower : ℕ) → lower ≤ length r.left → IsWithinCount lower (item_count offsets_left r)
hint-lower r lower few = λ _. rw (length-map r.left (λ (b : Boundary). b.offset)) few

pub hint-upper : (r : Remainder) (upper : Option ℕ) → IfSome upper (λ most. length r.left ≤ most) → IfSome upper (UpTo (item_count offsets_left r))
hint-upper r None few = tt
hint-upper r (Some most) few = (tt, rw (length-map r.left (λ (b : Boundary). b.offset)) few)

-- what an engine that goes through a text stretch by stretch has still to give
pub stretches-left : (first : List ℕ → Stretch) → ((x : ℕ) (xs : List ℕ) → IsWithin (length (x ∷ xs)) (first (x ∷ xs)))
    → (started : Bool) (text : Text) (status : ℕ) → IsRising text.items text.end
    → AreLeft started (start_of text) text.end (remainder started first text status).left
stretches-left first within false text status rising = covers first within text rising
stretches-left first within true text status rising = (covers first within text rising).1

-- how many are left, once one was given and before
pub few-later : (started : Bool) (from end : ℕ) (left : List Boundary) → started ≡ true → AreLeft started from end left → length left ≤ end - from
few-later true from end left on rises = omega (arith, rising-few left from end rises)
few-later false from end left on cover = cc

pub few-all : (started : Bool) (from end : ℕ) (left : List Boundary) → started ≡ false → AreLeft started from end left → length left ≤ suc (end - from)
few-all true from end left off rises = cc
few-all false from end [] off cover = absurd cover
few-all false from end (first ∷ left) off cover = omega (arith, rising-few left from end cover.1)

pub most-all : (most : Option ℕ) (Fits : Type 0) (units count : ℕ) → count ≤ suc units → SomeIff most Fits (units + 1) → IfSome most (λ most. count ≤ most)
most-all None Fits units count few is = tt
most-all (Some most) Fits units count few is = omega (arith, few, is.1)

-- how many items a reader finds in the units
pub characters-few : {U C : Type 0} {read : List U → ℕ × C} {code : C → ℕ} {characters : ℕ → List U → List (ℕ × C)} {text : ℕ → List U → Text}
    → IsEncoding read code characters text → (place : ℕ) (units : List U) → length (characters place units) ≤ length units
characters-few {U = U} {C = C} {read = read} {code = code} {characters = characters} {text = text} encoding place units =
    let same : length (text place units).items ≡ length (characters place units) = rw (encoding.items place units) (length-map (characters place units) _) in
    let last : (text place units).end ≡ place + length units = rw (encoding.is place units) refl in
    omega (arith, same, last, start-at encoding place units, items-few (text place units).items (text place units).end (text-rises read code characters text encoding place units))

pub characters-some : {U C : Type 0} {read : List U → ℕ × C} {code : C → ℕ} {characters : ℕ → List U → List (ℕ × C)} {text : ℕ → List U → Text}
    → IsEncoding read code characters text → (place : ℕ) (units : List U) → min (length units) 1 ≤ length (characters place units)
characters-some encoding place [] = omega arith
characters-some encoding place (unit ∷ units) = rw (encoding.some place unit units) (omega arith)

pub utf8-few : (place : ℕ) (bytes : List ℕ) → length (utf8_items place bytes) ≤ length bytes
unfolding utf8_items
utf8-few place bytes =
    omega (arith, items-few (utf8_items place bytes) (place + length bytes) (utf8_items-rises place bytes), place_of-items_by read_utf8 read_utf8-reader place bytes)

pub utf8-some : (place : ℕ) (bytes : List ℕ) → min (length bytes) 1 ≤ length (utf8_items place bytes)
unfolding utf8_items
utf8-some place [] = omega arith
utf8-some place (byte ∷ bytes) = rw (items_by-cons read_utf8 read_utf8-reader place byte bytes) (omega arith)
