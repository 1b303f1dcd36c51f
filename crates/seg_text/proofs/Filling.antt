-- Buffers that are filled one by one.
use Rattle.std.proofs.Common.{◌≡◌, ℕ, zero, suc, ◌+◌, ◌-◌, ◌<◌, ◌≤◌, List, [], ◌∷◌, ◌++◌, take, drop, set, slice_index, length, map, Bool, true, false, refl, sym, ap, ◌∙◌, subst, arith}
use Rattle.std.proofs.lemmas.Bool.{lt-ltb}
use Rattle.std.proofs.lemmas.List.{append-nil, drop-map, drop_all, drop-append-le, length-append, length-drop, length-map, map-append, take-append-le, take_all}
use borrow.Rule.Slice.PartMut.{mid_len, mid_of, put_mid}
use Rattle.seg_text.specs.declared.boundary.Boundary.{Boundary}
use Rattle.seg_text.specs.declared.reach.Reach.{Reach}
use Rattle.seg_text.specs.Boundaries.{Remainder, RisesTo, AreAhead, AreLeft, boundary, offsets}
use Rattle.seg_text.specs.Filled.{TakesFirst, WritesSome, after_given, last_status, statuses}

-- so many of all numbers were written, and these are left
pub record Filling {X : Type 0} (all old now : List X) (index : ℕ) (left : List X) : Type 0 where
  pub rest : drop index all ≡ left
  pub some : index ≤ length all
  pub written : now ≡ take index all ++ drop index old

pub begun : {X : Type 0} (all old left : List X) → all ≡ left → Filling all old old 0 left
begun all old left is = record { rest = is; some = omega arith; written = refl }

one-more : {X : Type 0} (all old : List X) (index : ℕ) (x : X) (left : List X) → index < length old → drop index all ≡ x ∷ left
    → (set (take index all ++ drop index old) index x ≡ take (suc index) all ++ drop (suc index) old) × (drop (suc index) all ≡ left) × (index < length all)
one-more {X} [] old index x left inside is = absurd (omega (arith, ap length is, length-drop {A = X} index []))
one-more (y ∷ all) [] index x left inside is = absurd (omega arith)
one-more (y ∷ all) (o ∷ old) zero x left inside is = (cc, cc, omega arith)
one-more (y ∷ all) (o ∷ old) (suc index) x left inside is =
    let (written, rest, some) = one-more all old index x left (omega arith) is in
    (ap (λ now. y ∷ now) written, rest, omega arith)

pub went-on : {X : Type 0} (all old now : List X) (index : ℕ) (x : X) (left later : List X) → Filling all old now index left → left ≡ x ∷ later → index < length old
    → Filling all old (set now index x) (index + 1) later
went-on all old now index x left later filling is inside =
    let (written, rest, some) = one-more all old index x later inside (filling.rest ∙ is) in
    let next : index + 1 ≡ suc index = omega arith in
    rw next (record { rest = rest; some = some; written = ap (λ now. set now index x) filling.written ∙ written })

some-more : {X : Type 0} (all old : List X) (index count : ℕ) → index ≤ length all → index ≤ length old
    → (take index (take index all ++ drop index old) ++ (take count (drop index all) ++ drop count (drop index (take index all ++ drop index old)))
    ≡ take (index + count) all ++ drop (index + count) old)
    × (drop (index + count) all ≡ drop count (drop index all))
some-more all old zero count inside within =
    let none : zero + count ≡ count = omega arith in
    rw none (refl, refl)
some-more [] old (suc index) count inside within = absurd (omega (arith, inside))
some-more (y ∷ all) [] (suc index) count inside within = absurd (omega (arith, within))
some-more (y ∷ all) (o ∷ old) (suc index) count inside within =
    let (written, rest) = some-more all old index count (omega (arith, inside)) (omega (arith, within)) in
    let one : suc index + count ≡ suc (index + count) = omega arith in
    rw one (ap (λ now. y ∷ now) written, rest)

-- the part of a buffer from a place on, over whose first ones some were written
in-part : {X : Type 0} (now new given : List X) (index count : ℕ) → new ≡ given ++ drop count (mid_of index (length now - index) now)
    → put_mid index (length now - index) now new ≡ take index now ++ (given ++ drop count (drop index now))
in-part now new given index count is =
    let long : length (drop index now) ≤ length now - index = omega (arith, length-drop index now) in
    ap (λ (rest : List _). take index now ++ (new ++ rest)) (drop_all (length now - index) (drop index now) long)
    ∙ ap (λ (part : List _). take index now ++ part) (append-nil new ∙ is ∙ ap (λ (part : List _). given ++ drop count part) (take_all (length now - index) (drop index now) long))

-- some more at once
pub went-on-some : {X : Type 0} (all old now : List X) (index count : ℕ) (left later new : List X) → Filling all old now index left → count ≤ length left → index ≤ length old
    → later ≡ drop count left → new ≡ take count left ++ drop count (mid_of index (length now - index) now)
    → Filling all old (put_mid index (length now - index) now new) (index + count) later
went-on-some all old now index count left later new filling few inside rest new-is =
    let (written, behind) = some-more all old index count filling.some inside in
    let long : index + length left ≡ length all = omega (arith, filling.some, ap length filling.rest, length-drop index all) in
    record {
      rest = behind ∙ ap (drop count) filling.rest ∙ sym rest;
      some = omega (arith, few, long);
      written = in-part now new (take count left) index count new-is ∙ rw (filling.written, ← filling.rest) written;
    }

-- of boundaries
pub went-on-batch : (of : Boundary → ℕ) (before after : List Boundary) (all old now new : List ℕ) (index count : ℕ) → Filling all old now index (map of before)
    → count ≤ length before → index ≤ length old → after ≡ drop count before → new ≡ take count (map of before) ++ drop count (mid_of index (length now - index) now)
    → Filling all old (put_mid index (length now - index) now new) (index + count) (map of after)
went-on-batch of before after all old now new index count filling few inside rest is =
    went-on-some all old now index count (map of before) (map of after) new filling (omega (arith, few, length-map before of)) inside
    (ap (map of) rest ∙ sym (drop-map of count before)) is

-- a batch has no more room than is left of the buffer
pub part-room : (now : List ℕ) (index count : ℕ) → index ≤ length now → count ≤ length (mid_of index (length now - index) now) → index + count ≤ length now
part-room now index count inside few = omega (arith, few, inside, mid_len index (length now) now (omega arith))

-- what is left behind one that is gone
pub behind : {X : Type 0} (all : List X) (index : ℕ) (x : X) (left : List X) → drop index all ≡ x ∷ left → drop (index + 1) all ≡ left
behind all index x left is =
    let next : index + 1 ≡ suc index = omega arith in
    rw next (on all index is)
  where
    on : (all : List _) (index : ℕ) → drop index all ≡ x ∷ left → drop (suc index) all ≡ left
    on [] zero is = cc
    on [] (suc index) is = cc
    on (y ∷ all) zero is = cc
    on (y ∷ all) (suc index) is = on all index is

-- none are left
pub at-end : {X : Type 0} (room : ℕ) (all old now : List X) (index : ℕ) (left : List X) → Filling all old now index left → left ≡ [] → index < room → TakesFirst room all old now index
at-end room all old now index left filling is inside =
    let none = ap length (filling.rest ∙ is) in
    record { few = omega (arith, length-drop index all, none, filling.some, inside); first = filling.written }

-- there is no room left
pub full : {X : Type 0} (room : ℕ) (all old now : List X) (index : ℕ) (left : List X) → Filling all old now index left → index ≡ room → TakesFirst room all old now room
full room all old now index left filling is =
    rw (← is) (record { few = omega (arith, filling.some); first = filling.written })

-- nothing is written where there is nothing
pub nothing : {X : Type 0} (room : ℕ) (old : List X) → TakesFirst room [] old old 0
nothing room old = record { few = omega arith; first = refl }

-- Boundaries of an engine.

-- so many were written, in turn
pub record Writing (room : ℕ) (before now : Remainder) (index : ℕ) : Type 0 where
  pub left : now.left ≡ drop index before.left
  pub status : now.status ≡ last_status before.status (take index before.left)
  pub some : index ≤ length before.left
  pub within : index ≤ room

last-taken : (status index : ℕ) (boundaries : List Boundary) (next : Boundary) (later : List Boundary) → drop index boundaries ≡ next ∷ later
    → (last_status status (take (index + 1) boundaries) ≡ next.status) × (drop (index + 1) boundaries ≡ later) × (index < length boundaries)
last-taken status index boundaries next later is =
    let one : index + 1 ≡ suc index = omega arith in
    rw one (on status index boundaries is)
  where
    on : (status index : ℕ) (boundaries : List Boundary) → drop index boundaries ≡ next ∷ later
        → (last_status status (take (suc index) boundaries) ≡ next.status) × (drop (suc index) boundaries ≡ later) × (index < length boundaries)
    on status zero [] is = cc
    on status (suc index) [] is = cc
    on status zero (first ∷ boundaries) is = (cc, cc, omega arith)
    on status (suc index) (first ∷ boundaries) is =
        let (last, rest, some) = on first.status index boundaries is in
        (last, rest, omega (arith, some))

pub writing-on : (room : ℕ) (before now next : Remainder) (index offset : ℕ) → Writing room before now index → index < room → now.left ≡ boundary offset next.status ∷ next.left
    → Writing room before next (index + 1)
writing-on room before now next index offset w inside is =
    let (last, rest, some) = last-taken before.status index before.left (boundary offset next.status) next.left (sym w.left ∙ is) in
    record { left = sym rest; status = sym last; some = omega (arith, some); within = omega (arith, inside) }

last-of-some : (status index count : ℕ) (boundaries : List Boundary) → index ≤ length boundaries
    → last_status (last_status status (take index boundaries)) (take count (drop index boundaries)) ≡ last_status status (take (index + count) boundaries)
    × (drop count (drop index boundaries) ≡ drop (index + count) boundaries)
last-of-some status zero count boundaries inside =
    let none : zero + count ≡ count = omega arith in
    rw none (refl, refl)
last-of-some status (suc index) count [] inside = absurd (omega (arith, inside))
last-of-some status (suc index) count (first ∷ boundaries) inside =
    let one : suc index + count ≡ suc (index + count) = omega arith in
    rw one (last-of-some first.status index count boundaries (omega (arith, inside)))

-- some more at once
pub writing-some : (room : ℕ) (before now next : Remainder) (index count : ℕ) → Writing room before now index → count ≤ length now.left → index + count ≤ room
    → next.left ≡ drop count now.left → next.status ≡ last_status now.status (take count now.left) → Writing room before next (index + count)
writing-some room before now next index count w few inside left status =
    let (last, rest) = last-of-some before.status index count before.left w.some in
    record {
      left = left ∙ ap (drop count) w.left ∙ rest;
      status = status ∙ rw (w.status, w.left) last;
      some = omega (arith, w.some, few, ap length w.left, length-drop index before.left);
      within = inside;
    }

same-remainder : (r : Remainder) (left : List Boundary) (status : ℕ) → r.left ≡ left → r.status ≡ status → r ≡ record { left = left; status = status }
same-remainder r left status one two = rw (← one, ← two) refl

-- nothing was left
pub written-all : (room : ℕ) (before now next : Remainder) (index : ℕ) → Writing room before now index → index < room → now.left ≡ [] → next.left ≡ [] → next.status ≡ 0
    → next ≡ after_given room index before
written-all room before now next index w inside none left status =
    same-remainder next _ _ (left ∙ sym none ∙ w.left) (status ∙ rw (lt-ltb index room inside) refl)

-- Boundaries that were passed.

passed-last : (from end : ℕ) (boundaries : List Boundary) (count : ℕ) → RisesTo from boundaries end → count < length boundaries
    → RisesTo (slice_index (offsets boundaries) count) (drop (suc count) boundaries) end
passed-last from end [] count rises some = absurd (omega (arith, some))
passed-last from end (first ∷ boundaries) zero rises some = rises.1
passed-last from end (first ∷ boundaries) (suc count) rises some = passed-last first.offset end boundaries count rises.1 (omega (arith, some))

left-behind : (started : Bool) (from end : ℕ) (boundaries : List Boundary) (count : ℕ) → AreLeft started from end boundaries → count < length boundaries
    → RisesTo (slice_index (offsets boundaries) count) (drop (suc count) boundaries) end
left-behind true from end boundaries count rises some = passed-last from end boundaries count rises some
left-behind false from end [] count cover some = absurd cover
left-behind false from end (first ∷ boundaries) zero cover some = subst (λ (at : ℕ). RisesTo at boundaries end) (sym cover.0) cover.1
left-behind false from end (first ∷ boundaries) (suc count) cover some = passed-last from end boundaries count cover.1 (omega (arith, some))

index-taken : (all tail : List ℕ) (count index : ℕ) → index < count → count ≤ length all → slice_index (take count all ++ tail) index ≡ slice_index all index
index-taken [] tail count index less some = absurd (omega (arith, less, some))
index-taken (x ∷ all) tail zero index less some = absurd (omega (arith, less))
index-taken (x ∷ all) tail (suc count) zero less some = refl
index-taken (x ∷ all) tail (suc count) (suc index) less some = index-taken all tail count index (omega (arith, less)) (omega (arith, some))

-- where so many were written, the last of them is where the others begin
pub ahead-behind : (room : ℕ) (before : Reach) (now : Reach) (boundaries : List Boundary) (old new : List ℕ) (count : ℕ) → AreAhead before boundaries
    → TakesFirst room (offsets boundaries) old new count → 0 < count → now.started ≡ true → now.place ≡ slice_index new (count - 1) → now.end ≡ before.end
    → AreAhead now (drop count boundaries)
ahead-behind room before now boundaries old new count ahead taken more on here end =
    let many : count ≤ length (offsets boundaries) = omega (arith, taken.few) in
    let long : length (offsets boundaries) ≡ length boundaries = length-map boundaries (λ (b : Boundary). b.offset) in
    let one : suc (count - 1) ≡ count = omega (arith, more) in
    let rises : RisesTo (slice_index (offsets boundaries) (count - 1)) (drop (suc (count - 1)) boundaries) before.end =
    left-behind before.started before.place before.end boundaries (count - 1) ahead (omega (arith, more, many, long)) in
    let place : now.place ≡ slice_index (offsets boundaries) (count - 1) =
    here ∙ ap (λ (written : List ℕ). slice_index written (count - 1)) taken.first ∙ index-taken (offsets boundaries) (drop count old) count (count - 1) (omega (arith, more)) many in
    rw (on, place, end) (subst (λ (n : ℕ). RisesTo (slice_index (offsets boundaries) (count - 1)) (drop n boundaries) before.end) one rises)

-- Some boundaries that were written.

-- others come behind them
pub some-ahead : (before after more : List Boundary) (old new olds news : List ℕ) (count : ℕ) → WritesSome before after old new olds news count
    → WritesSome (before ++ more) (after ++ more) old new olds news count
some-ahead before after more old new olds news count writes =
    let places : length (offsets before) ≡ length before = length-map before (λ (b : Boundary). b.offset) in
    let marks : length (statuses before) ≡ length before = length-map before (λ (b : Boundary). b.status) in
    record {
      some = omega (arith, writes.some, length-append before more);
      room = writes.room;
      places =
          writes.places ∙ ap (λ (l : List ℕ). l ++ drop count old)
          (sym (ap (take count) (map-append (λ (b : Boundary). b.offset) before more) ∙ take-append-le count (offsets before) (offsets more) (omega (arith, writes.some, places))));
      statuses_are =
          writes.statuses_are ∙ ap (λ (l : List ℕ). l ++ drop count olds)
          (sym (ap (take count) (map-append (λ (b : Boundary). b.status) before more) ∙ take-append-le count (statuses before) (statuses more) (omega (arith, writes.some, marks))));
      left = ap (λ (l : List Boundary). l ++ more) writes.left ∙ sym (drop-append-le count before more writes.some);
    }

status-of : (status : ℕ) (boundaries : List Boundary) (index : ℕ) → index < length boundaries → slice_index (statuses boundaries) index ≡ last_status status (take (suc index) boundaries)
status-of status [] index inside = absurd (omega (arith, inside))
status-of status (first ∷ boundaries) zero inside = refl
status-of status (first ∷ boundaries) (suc index) inside = status-of first.status boundaries index (omega (arith, inside))

-- the last of them stands at the end
pub last-place : (before after : List Boundary) (old new olds news : List ℕ) (count : ℕ) → WritesSome before after old new olds news count → 0 < count
    → slice_index new (count - 1) ≡ slice_index (offsets before) (count - 1)
last-place before after old new olds news count writes more =
    let long : length (offsets before) ≡ length before = length-map before (λ (b : Boundary). b.offset) in
    ap (λ (l : List ℕ). slice_index l (count - 1)) writes.places ∙ index-taken (offsets before) (drop count old) count (count - 1) (omega (arith, more)) (omega (arith, writes.some, long))

pub last-mark : (status : ℕ) (before after : List Boundary) (old new olds news : List ℕ) (count : ℕ) → WritesSome before after old new olds news count → 0 < count
    → slice_index news (count - 1) ≡ last_status status (take count before)
last-mark status before after old new olds news count writes more =
    let long : length (statuses before) ≡ length before = length-map before (λ (b : Boundary). b.status) in
    let one : suc (count - 1) ≡ count = omega (arith, more) in
    ap (λ (l : List ℕ). slice_index l (count - 1)) writes.statuses_are
    ∙ index-taken (statuses before) (drop count olds) count (count - 1) (omega (arith, more)) (omega (arith, writes.some, long))
    ∙ status-of status before (count - 1) (omega (arith, more, writes.some))
    ∙ ap (λ (n : ℕ). last_status status (take n before)) one
