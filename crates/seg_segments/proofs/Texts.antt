-- Boundaries of a text that stay, and those of its code points.
use Rattle.std.proofs.Common.{◌≡◌, ℕ, zero, suc, ◌≤◌, Bool, true, false, cond, List, [], ◌∷◌, map, take, drop, length, refl, sym, ap, ◌∙◌, arith}
use Rattle.std.specs.Prelude.{◌&&◌, not, nat_lt, filter}
use Rattle.std.proofs.lemmas.Bool.Decides.{nat_tests}
use Rattle.std.proofs.lemmas.Bool.{false≢true}
use Rattle.seg_text.specs.declared.boundary.Boundary.{Boundary}
use Rattle.seg_text.specs.Boundaries.{IsCover, RisesTo, boundaries_in, boundary_in, offsets}
use Rattle.seg_text.specs.Items.{Item, IsRising, Text, code_points, place_of}
use Rattle.seg_data.specs.WordSets.{Words}
use Rattle.seg_segments.specs.Suppression.{is_abbreviated_after, stays_in, without_abbreviated}
use Rattle.seg_segments.specs.Kept.{AreAscending, AscendFrom, codes_before, left_of, stays, IsLater}
use Rattle.seg_segments.proofs.Reading.{lt-false, lt-true}

-- ---- filters

pub filter-map : {X Y : Type 0} (f : X → Y) (test : Y → Bool) (same : X → Bool) → ((x : X) → test (f x) ≡ same x) → (xs : List X)
    → filter test (map f xs) ≡ map f (filter same xs)
filter-map f test same equal [] = refl
filter-map f test same equal (x ∷ xs) = rw (equal x, filter-map f test same equal xs) (on (same x))
  where
    on : (b : Bool) → cond b (f x ∷ map f (filter same xs)) (map f (filter same xs)) ≡ map f (cond b (x ∷ filter same xs) (filter same xs))
    on true = refl
    on false = refl

-- ---- places and counts

place_of-drop-le : (items : List Item) (end n : ℕ) → IsRising items end → place_of items end ≤ place_of (drop n items) end
place_of-drop-le items end zero rising = omega arith
place_of-drop-le [] end (suc n) rising = omega arith
place_of-drop-le (item ∷ items) end (suc n) rising = omega (arith, place_of-drop-le items end n rising.1, rising.0)

pub codes-at : (items : List Item) (end n : ℕ) → IsRising items end → codes_before (place_of (drop n items) end) items ≡ take n (code_points items)
unfolding codes_before
codes-at [] end zero rising = refl
codes-at [] end (suc n) rising = refl
codes-at (item ∷ items) end zero rising = rw (lt-false item.0 item.0 (omega arith)) refl
codes-at (item ∷ items) end (suc n) rising =
    rw (lt-true item.0 (place_of (drop n items) end) (omega (arith, rising.0, place_of-drop-le items end n rising.1)))
    (ap (λ (cs : List ℕ). item.1 ∷ cs) (codes-at items end n rising.1))

within : (items : List Item) (end : ℕ) → IsRising items end → place_of items end ≤ end
within [] end rising = omega arith
within (item ∷ items) end rising = omega (arith, rising.0, within items end rising.1)

ahead-same : (items : List Item) (end n : ℕ) → IsRising items end → nat_lt (place_of (drop n items) end) end ≡ nat_lt n (length (code_points items))
ahead-same [] end zero rising = lt-false end end (omega arith) ∙ sym (lt-false 0 0 (omega arith))
ahead-same [] end (suc n) rising = lt-false end end (omega arith) ∙ sym (lt-false (suc n) 0 (omega arith))
ahead-same (item ∷ items) end zero rising =
    lt-true item.0 end (omega (arith, rising.0, within items end rising.1)) ∙ sym (lt-true 0 (suc (length (code_points items))) (omega arith))
ahead-same (item ∷ items) end (suc n) rising = ahead-same items end n rising.1 ∙ one-more n (length (code_points items))
  where
    one-more : (m n : ℕ) → nat_lt m n ≡ nat_lt (suc m) (suc n)
    one-more m n = on (nat_lt m n) refl
      where
        on : (b : Bool) → nat_lt m n ≡ b → nat_lt m n ≡ nat_lt (suc m) (suc n)
        on b is = grind (arith, nat_tests)

-- a boundary stays at its place where it does in the code points
pub stays-same : (words : Words) (text : Text) → IsRising text.items text.end → (boundary : Boundary)
    → stays words false text (boundary_in text boundary).offset ≡ stays_in words (code_points text.items) boundary
stays-same words text rising boundary =
    rw (ahead-same text.items text.end boundary.offset rising, codes-at text.items text.end boundary.offset rising) refl

pub left-in : (words : Words) (find : List ℕ → List Boundary) (text : Text) → IsRising text.items text.end
    → left_of words false text (boundaries_in find text) ≡ boundaries_in (without_abbreviated words find) text
left-in words find text rising =
    filter-map (boundary_in text) (λ (boundary : Boundary). stays words false text boundary.offset) (stays_in words (code_points text.items))
    (stays-same words text rising) (find (code_points text.items))

-- ---- boundaries that rise

ascend-from : (from end : ℕ) (boundaries : List Boundary) → RisesTo from boundaries end → AscendFrom from (offsets boundaries)
ascend-from from end [] rises = tt
ascend-from from end (one ∷ boundaries) rises = (omega (arith, rises.0), ascend-from one.offset end boundaries rises.1)

pub ascending : (from end : ℕ) (boundaries : List Boundary) → IsCover from end boundaries → AreAscending (offsets boundaries)
ascending from end [] cover = absurd cover
ascending from end (one ∷ boundaries) cover = ascend-from one.offset end boundaries (rw cover.0 cover.1)

-- boundaries still cover where some are left out, but not the first and none at the end
rises-kept : (test : Boundary → Bool) (from end : ℕ) (boundaries : List Boundary) → ((boundary : Boundary) → boundary.offset ≡ end → test boundary ≡ true)
    → RisesTo from boundaries end → RisesTo from (filter test boundaries) end
rises-kept test from end [] kept rises = rises
rises-kept test from end (one ∷ boundaries) kept rises = on (test one) refl (rises-kept test one.offset end boundaries kept rises.1)
  where
    lower : (rest : List Boundary) → test one ≡ false → RisesTo one.offset rest end → RisesTo from rest end
    lower [] out at = absurd (false≢true (sym out ∙ kept one at))
    lower (next ∷ rest) out all = (omega (arith, rises.0, all.0), all.1)

    on : (b : Bool) → test one ≡ b → RisesTo one.offset (filter test boundaries) end
        → RisesTo from (cond b (one ∷ filter test boundaries) (filter test boundaries)) end
    on true is rest = (rises.0, rest)
    on false is rest = lower (filter test boundaries) is rest

pub covers-kept : (test : Boundary → Bool) (from end : ℕ) (boundaries : List Boundary) → ((boundary : Boundary) → boundary.offset ≡ end → test boundary ≡ true)
    → ((boundary : Boundary) → boundary.offset ≡ from → test boundary ≡ true) → IsCover from end boundaries → IsCover from end (filter test boundaries)
covers-kept test from end [] last first cover = absurd cover
covers-kept test from end (one ∷ boundaries) last first cover =
    rw (first one cover.0) (cover.0, rises-kept test from end boundaries last cover.1)

codes-start : (items : List Item) → codes_before 0 items ≡ []
unfolding codes_before
codes-start [] = refl
codes-start (item ∷ items) = rw (lt-false item.0 0 (omega arith)) refl

and-none : (b : Bool) → not (b && false) ≡ true
and-none true = refl
and-none false = refl

pub left-covers : (words : Words) (text : Text) (end : ℕ) (boundaries : List Boundary) → text.end ≡ end → IsCover 0 end boundaries
    → IsCover 0 end (left_of words false text boundaries)
unfolding is_abbreviated_after
left-covers words text end boundaries same cover =
    covers-kept (λ (boundary : Boundary). stays words false text boundary.offset) 0 end boundaries
    (λ boundary at. rw (lt-false boundary.offset text.end (omega (arith, at, same))) refl)
    (λ boundary at. rw (at, codes-start text.items) (and-none (nat_lt 0 text.end))) cover

pub found-covers : (words : Words) (find : List ℕ → List Boundary) (cs : List ℕ) → IsCover 0 (length cs) (find cs) → IsCover 0 (length cs) (without_abbreviated words find cs)
unfolding is_abbreviated_after
found-covers words find cs cover =
    covers-kept (stays_in words cs) 0 (length cs) (find cs)
    (λ boundary at. rw (lt-false boundary.offset (length cs) (omega (arith, at))) refl)
    (λ boundary at. rw at (and-none (nat_lt 0 (length cs)))) cover

-- ---- the next boundary that stays

ascend-earlier : (from later : ℕ) (places : List ℕ) → from ≤ later → AscendFrom later places → AscendFrom from places
ascend-earlier from later [] order all = tt
ascend-earlier from later (place ∷ places) order all = (omega (arith, order, all.0), all.1)

pub ascend-any : (from : ℕ) (places : List ℕ) → AscendFrom from places → AreAscending places
ascend-any from [] all = tt
ascend-any from (place ∷ places) all = all.1

-- where less is left of the text
pub kept-later : (words : Words) (place : ℕ) (joined : Bool) (text : Text) (next : Bool) (left : Text) (boundaries : List Boundary)
    → IsLater words place joined text next left → AscendFrom place (offsets boundaries) → left_of words next left boundaries ≡ left_of words joined text boundaries
kept-later words place joined text next left [] later all = refl
kept-later words place joined text next left (one ∷ boundaries) later all =
    rw (later.end, later.same one.offset all.0, kept-later words place joined text next left boundaries later (ascend-earlier place one.offset (offsets boundaries) all.0 all.1)) refl
