-- The segments of a text, all together.
use Rattle.std.proofs.Common.{◌≡◌, ℕ, ◌-◌, ◌<◌, ◌≤◌, Bool, List, [], ◌∷◌, ◌++◌, length, length-append, drop, refl, sym, ap, ◌∙◌, arith}
use Rattle.std.specs.Prelude.{All}
use Rattle.std.specs.List.{flat_map}
use Rattle.std.proofs.lemmas.List.{drop-drop, drop_all, length-drop, length-map, length-take-le, take-append-drop}
use Rattle.std.proofs.lemmas.List.Elements.{All-cons, All-head, All-nil, All-tail}
use Rattle.std.proofs.lemmas.List.Sums.{count_by-le-length, length-filter}
use Rattle.seg_text.specs.Items.{Text}
use Rattle.seg_words.specs.declared.word.WordType.{WordType}
use Rattle.seg_words.specs.WordRules.{is_word_like}
use Rattle.seg_lines.specs.Between.{between}
use Rattle.seg_segments.specs.TextSegments.{AreCuts, AreSegments, IsPlace, Segment, indices_of, segments_from, units_of, words_of}
use Rattle.seg_segments.proofs.Cutting.{cuts-within}

-- the segment from one place up to the next boundary
abbrev segment_to : {M : Type 0} → List ℕ → ℕ → ℕ × M → Segment M
segment_to units from to = record { offset = from; units = between from to.0 units; mark = to.1 }

between-rest : (units : List ℕ) (from to : ℕ) → from ≤ to → between from to units ++ drop to units ≡ drop from units
between-rest units from to order =
    let rest : drop (to - from) (drop from units) ≡ drop to units = drop-drop (to - from) from units ∙ ap (λ (n : ℕ). drop n units) (omega (arith, order)) in
    ap (λ (later : List ℕ). between from to units ++ later) (sym rest) ∙ take-append-drop (to - from) (drop from units)

between-some : (units : List ℕ) (from to : ℕ) → from < to → to ≤ length units → 0 < length (between from to units)
between-some units from to order within =
    rw (length-take-le (to - from) (drop from units) (omega (arith, within, length-drop from units))) (omega (arith, order))

joined : {M : Type 0} (MayCut : ℕ → Type 0) (units : List ℕ) (from : ℕ) (breaks : List (ℕ × M)) → AreCuts MayCut from breaks (length units)
    → flat_map (λ (segment : Segment M). segment.units) (segments_from units from breaks) ≡ drop from units
unfolding segments_from
joined MayCut units from [] cuts = sym (drop_all from units (omega (arith, cuts.1)))
joined MayCut units from (to ∷ breaks) cuts =
    ap (λ (later : List ℕ). between from to.0 units ++ later) (joined MayCut units to.0 breaks cuts.1.1)
    ∙ between-rest units from to.0 (omega (arith, cuts.1.0))

some : {M : Type 0} (MayCut : ℕ → Type 0) (units : List ℕ) (from : ℕ) (breaks : List (ℕ × M)) → AreCuts MayCut from breaks (length units)
    → All (λ (segment : Segment M). 0 < length segment.units) (segments_from units from breaks)
unfolding segments_from
some MayCut units from [] cuts = All-nil _
some MayCut units from (to ∷ breaks) cuts =
    All-cons (λ (segment : Segment _). 0 < length segment.units) (segment_to units from to) _
    (between-some units from to.0 cuts.1.0 (cuts-within MayCut to.0 (length units) breaks cuts.1.1))
    (some MayCut units to.0 breaks cuts.1.1)

places : {M : Type 0} (MayCut : ℕ → Type 0) (units : List ℕ) (from : ℕ) (breaks : List (ℕ × M)) → AreCuts MayCut from breaks (length units)
    → All (λ (segment : Segment M). MayCut segment.offset) (segments_from units from breaks)
unfolding segments_from
places MayCut units from [] cuts = All-nil _
places MayCut units from (to ∷ breaks) cuts =
    All-cons (λ (segment : Segment _). MayCut segment.offset) (segment_to units from to) _ cuts.0 (places MayCut units to.0 breaks cuts.1.1)

pub whole : {M : Type 0} (text : Text) (units : List ℕ) (breaks : List (ℕ × M)) → AreCuts (IsPlace text) 0 breaks (length units)
    → AreSegments text units (segments_from units 0 breaks)
whole text units breaks cuts = record {
  joined = joined (IsPlace text) units 0 breaks cuts;
  some = some (IsPlace text) units 0 breaks cuts;
  places = places (IsPlace text) units 0 breaks cuts;
}

-- the units that segments stand in, one after another
pub joined-units : {M : Type 0} (segments : List (Segment M))
    → flat_map (λ (units : List ℕ). units) (units_of segments) ≡ flat_map (λ (segment : Segment M). segment.units) segments
joined-units [] = refl
joined-units (segment ∷ segments) = ap (λ (later : List ℕ). segment.units ++ later) (joined-units segments)

-- each has some units, so there are no more of them than units
pub few : {M : Type 0} (segments : List (Segment M)) → All (λ (segment : Segment M). 0 < length segment.units) segments
    → length segments ≤ length (flat_map (λ (segment : Segment M). segment.units) segments)
few [] some = omega arith
few (segment ∷ segments) some =
    omega (
      arith,
      All-head (λ (one : Segment _). 0 < length one.units) segment segments some,
      length-append segment.units (flat_map (λ (one : Segment _). one.units) segments),
      few segments (All-tail (λ (one : Segment _). 0 < length one.units) segment segments some),
    )

-- .. and so of those that are words
pub few-words : (segments : List (Segment WordType)) → length (words_of segments) ≤ length segments
few-words segments =
    let is_word : Segment WordType → Bool = λ segment. is_word_like segment.mark in
    omega (arith, length-filter is_word segments, count_by-le-length is_word segments)

pub few-units : {M : Type 0} (segments : List (Segment M)) → length (units_of segments) ≡ length segments
few-units segments = length-map segments _

pub few-indices : {M : Type 0} (segments : List (Segment M)) → length (indices_of segments) ≡ length segments
few-indices segments = length-map segments _
