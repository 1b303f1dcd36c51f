-- A text may be split after line feeds, where no abbreviation has one.
use Rattle.std.proofs.Common.{◌≡◌, ℕ, ◌<◌, ◌≤◌, Bool, true, false, List, [], ◌∷◌, ◌++◌, take, drop, length, refl, sym, ap, ◌∙◌, arith, append-nil, length-append}
use Rattle.std.specs.Prelude.{◌&&◌, not, nat_lt, filter}
use Rattle.std.proofs.lemmas.Bool.Decides.{nat_tests}
use Rattle.std.proofs.lemmas.List.{take-append-le}
use Rattle.std.proofs.Math.Seq.{take-append_seam}
use Rattle.std.proofs.lemmas.List.Elements.{filter-append}
use Rattle.std.specs.Char.Unicode.Alphabetic.{alphabetic_ranges, is_alphabetic}
use Rattle.std.specs.Char.Unicode.Numeric.{is_numeric, numeric_ranges}
use Rattle.std.specs.Char.Unicode.Rows.{in_ranges}
use Rattle.seg_text.specs.declared.boundary.Boundary.{Boundary}
use Rattle.seg_text.specs.Boundaries.{IsCover, RisesTo, shift_all}
use Rattle.seg_data.specs.WordSets.{Words}
use Rattle.seg_segments.specs.InLines.{AreInLines}
use Rattle.seg_segments.specs.Suppression.{is_abbreviated, is_abbreviated_after, is_letter_or_digit, stays_in, without_abbreviated}
use Rattle.seg_segments.proofs.Reading.{lt-true}
use Rattle.seg_segments.proofs.Stops.{HaveNone, and-none, behind-stop, have-none, kept-second}

feed-is-none : is_letter_or_digit 10 ≡ false
unfolding alphabetic_ranges is_alphabetic is_numeric numeric_ranges in_ranges
feed-is-none = refl

-- ---- boundaries of two lists

abbrev AreUpTo : ℕ → List Boundary → Type 0
AreUpTo count [] = Unit {0}
AreUpTo count (one ∷ boundaries) = (one.offset ≤ count) × AreUpTo count boundaries

rises-within : (from end : ℕ) (boundaries : List Boundary) → RisesTo from boundaries end → from ≤ end
rises-within from end [] rises = omega (arith, rises)
rises-within from end (one ∷ boundaries) rises = omega (arith, rises.0, rises-within one.offset end boundaries rises.1)

rises-up-to : (from end : ℕ) (boundaries : List Boundary) → RisesTo from boundaries end → AreUpTo end boundaries
rises-up-to from end [] rises = tt
rises-up-to from end (one ∷ boundaries) rises = (rises-within one.offset end boundaries rises.1, rises-up-to one.offset end boundaries rises.1)

up-to : (end : ℕ) (boundaries : List Boundary) → IsCover 0 end boundaries → AreUpTo end boundaries
up-to end [] cover = absurd cover
up-to end (one ∷ boundaries) cover =
    (omega (arith, cover.0, rises-within 0 end boundaries cover.1), rises-up-to 0 end boundaries cover.1)

filter-same : (one other : Boundary → Bool) (count : ℕ) (boundaries : List Boundary) → ((boundary : Boundary) → boundary.offset ≤ count → one boundary ≡ other boundary)
    → AreUpTo count boundaries → filter one boundaries ≡ filter other boundaries
filter-same one other count [] same within = refl
filter-same one other count (first ∷ boundaries) same within = rw (same first within.0, filter-same one other count boundaries same within.1) refl

module _ (words : Words) (none : HaveNone 10 words) (before second : List ℕ) where
  abbrev first : List ℕ
  first = before ++ 10 ∷ []

  -- what comes after the line feed changes nothing before it
  stays-first : (boundary : Boundary) → boundary.offset ≤ length first → stays_in words (first ++ second) boundary ≡ stays_in words first boundary
  unfolding is_abbreviated_after
  stays-first boundary within = on (nat_lt boundary.offset (length first)) refl
    where
      at-end : boundary.offset ≡ length first → is_abbreviated words (take boundary.offset (first ++ second)) ≡ false
      at-end is =
          ap (λ (n : ℕ). is_abbreviated words (take n (first ++ second))) is ∙ ap (is_abbreviated words) (take-append_seam first second ∙ sym (append-nil first))
          ∙ behind-stop 10 words none feed-is-none before [] refl

      on : (b : Bool) → nat_lt boundary.offset (length first) ≡ b
          → not (nat_lt boundary.offset (length (first ++ second)) && is_abbreviated words (take boundary.offset (first ++ second)))
          ≡ not (b && is_abbreviated words (take boundary.offset first))
      on true is =
          let inside : boundary.offset < length first = grind (arith, nat_tests) in
          rw (lt-true boundary.offset (length (first ++ second)) (omega (arith, inside, length-append first second)), take-append-le boundary.offset first second within) refl
      on false is =
          let past : length first ≤ boundary.offset = grind (arith, nat_tests) in
          rw (at-end (omega (arith, past, within))) (and-none (nat_lt boundary.offset (length (first ++ second))))

  pub kept-parts : (find : List ℕ → List Boundary) → ((cs : List ℕ) → IsCover 0 (length cs) (find cs))
      → find (first ++ second) ≡ find first ++ shift_all (length first) (drop 1 (find second))
      → without_abbreviated words find (first ++ second)
      ≡ without_abbreviated words find first ++ shift_all (length first) (drop 1 (without_abbreviated words find second))
  kept-parts find cover parts =
      ap (filter (stays_in words (first ++ second))) parts
      ∙ filter-append (stays_in words (first ++ second)) (find first) (shift_all (length first) (drop 1 (find second)))
      ∙ rw (
        filter-same (stays_in words (first ++ second)) (stays_in words first) (length first) (find first) stays-first (up-to (length first) (find first) (cover first)),
        kept-second 10 words none feed-is-none before second (λ n some. refl) find (cover second),
      ) refl

pub in-parts : (words : Words) → AreInLines words → (find : List ℕ → List Boundary) → ((cs : List ℕ) → IsCover 0 (length cs) (find cs))
    → ((before second : List ℕ) → find ((before ++ 10 ∷ []) ++ second) ≡ find (before ++ 10 ∷ []) ++ shift_all (length (before ++ 10 ∷ [])) (drop 1 (find second)))
    → (before second : List ℕ) → without_abbreviated words find ((before ++ 10 ∷ []) ++ second)
    ≡ without_abbreviated words find (before ++ 10 ∷ []) ++ shift_all (length (before ++ 10 ∷ [])) (drop 1 (without_abbreviated words find second))
in-parts words in_lines find cover parts before second = kept-parts words (have-none 10 words in_lines) before second find cover (parts before second)
