-- Boundaries that are joined with cuts between them cover what they covered, in a list and in a text.
use Rattle.std.proofs.Common.{◌≡◌, ℕ, ◌<◌, ◌≤◌, inl, inr, List, [], ◌∷◌, length, map, refl, sym, subst, arith}
use Rattle.std.proofs.lemmas.Bool.{cases_lt}
use Rattle.std.proofs.lemmas.List.{length-map}
use Rattle.seg_text.specs.declared.boundary.Boundary.{Boundary}
use Rattle.seg_text.specs.Items.{Item, Text, IsRising, start_of, rest_after, code_points}
use Rattle.seg_text.specs.Boundaries.{IsCover, RisesTo, boundaries_in, offsets, start, cut_places, later_boundaries}
use Rattle.seg_text.proofs.Covers.{covers-in, covers-list, place-between, rises-le}
use Rattle.seg_machine.specs.MachineFaults.{IsChecked}
use Rattle.seg_machine.specs.Machine.{Machine}
use Rattle.seg_machine.specs.Pick.{machine_boundaries, machine_stretch}
use Rattle.seg_machine.proofs.Segmentations.{machine-within}
use Rattle.seg_clusters.specs.Spans.{inner_cuts}
use Rattle.seg_clusters.specs.Payloads.{Payloads, piece_cuts_by}
use Rattle.seg_clusters.specs.Scripts.{CoverPieces}
use Rattle.seg_clusters.proofs.InnerRange.{AreBetween, between-more, inner-between}
use Rattle.seg_lines.specs.LineBreaks.{AreAbove, AreRising, joined, with_cut, boundaries_with}
use Rattle.seg_lines.specs.LineBreaks.LineFinder.{ByMachine}
use Rattle.seg_lines.proofs.Joins.{AreAtMost, boundary-first, cut-after, cut-ahead, cut-at, joined-places}

-- one cut between two offsets
with-rises : (from cut end : ℕ) (boundaries : List Boundary) → RisesTo from boundaries end → from < cut → cut < end → RisesTo from (with_cut cut boundaries) end
with-rises from cut end [] rises above below = absurd (omega (arith, rises, above, below))
with-rises from cut end (found ∷ boundaries) rises above below =
    elim (cases_lt cut found.offset) [
      | inl before ↦
          subst (λ (found : List Boundary). RisesTo from found end) (sym (cut-ahead cut found boundaries before)) (above, (before, rises.1))
      | inr other ↦ elim (cases_lt found.offset cut) [
        | inl after ↦
            let later = with-rises found.offset cut end boundaries rises.1 after below in
            subst (λ (found : List Boundary). RisesTo from found end) (sym (cut-after cut found boundaries after)) (rises.0, later)
        | inr same ↦
            subst (λ (found : List Boundary). RisesTo from found end) (sym (cut-at cut found boundaries (omega (arith, other, same)))) rises
      ]
    ]

joined-rises : (from end : ℕ) (boundaries : List Boundary) (cuts : List ℕ) → RisesTo from boundaries end → AreBetween from cuts end → RisesTo from (joined boundaries cuts) end
joined-rises from end boundaries [] rises between = rises
joined-rises from end boundaries (cut ∷ cuts) rises between =
    let later = joined-rises from end boundaries cuts rises (between-more cuts cut from end end (omega (arith, between.0)) (omega arith) between.2) in
    with-rises from cut end (joined boundaries cuts) later between.0 between.1

pub between-above : (low high : ℕ) (numbers : List ℕ) → AreBetween low numbers high → AreAbove low numbers
between-above low high [] between = tt
between-above low high (n ∷ numbers) between =
    (between.0, between-above low high numbers (between-more numbers n low high high (omega (arith, between.0)) (omega arith) between.2))

pub between-rising : (low high : ℕ) (numbers : List ℕ) → AreBetween low numbers high → AreRising numbers
between-rising low high [] between = tt
between-rising low high (n ∷ numbers) between = (between-above n high numbers between.2, between-rising n high numbers between.2)

pub between-at-most : (low high : ℕ) (numbers : List ℕ) → AreBetween low numbers high → AreAtMost high numbers
between-at-most low high [] between = tt
between-at-most low high (n ∷ numbers) between = (omega (arith, between.1), between-at-most n high numbers between.2)

pub rises-at-most : (boundaries : List Boundary) (from end : ℕ) → RisesTo from boundaries end → AreAtMost end (offsets boundaries)
rises-at-most [] from end rises = tt
rises-at-most (found ∷ boundaries) from end rises =
    (rises-le boundaries found.offset end rises.1, rises-at-most boundaries found.offset end rises.1)

rises-above : (boundaries : List Boundary) (low from end : ℕ) → low ≤ from → RisesTo from boundaries end → AreAbove low (offsets boundaries)
rises-above [] low from end under rises = tt
rises-above (found ∷ boundaries) low from end under rises =
    (omega (arith, under, rises.0), rises-above boundaries low found.offset end (omega (arith, under, rises.0)) rises.1)

rises-rising : (boundaries : List Boundary) (from end : ℕ) → RisesTo from boundaries end → AreRising (offsets boundaries)
rises-rising [] from end rises = tt
rises-rising (found ∷ boundaries) from end rises =
    (rises-above boundaries found.offset found.offset end (omega arith) rises.1, rises-rising boundaries found.offset end rises.1)

pub cover-rising : (boundaries : List Boundary) (from end : ℕ) → IsCover from end boundaries → AreRising (offsets boundaries)
cover-rising [] from end cover = tt
cover-rising (found ∷ boundaries) from end cover =
    (rises-above boundaries found.offset from end (omega (arith, cover.0)) cover.1, rises-rising boundaries from end cover.1)

joined-covers : (end : ℕ) (later : List Boundary) (cuts : List ℕ) → RisesTo 0 later end → AreBetween 0 cuts end → IsCover 0 end (joined (start ∷ later) cuts)
joined-covers end later cuts rises between =
    subst (IsCover 0 end) (sym (boundary-first start later cuts (between-above 0 end cuts between))) (refl, joined-rises 0 end later cuts rises between)

module _ (m : Machine) (payloads : Payloads) (checked : IsChecked m) (cover : CoverPieces (piece_cuts_by payloads)) where
  plain-rises : (code_points : List ℕ) → RisesTo 0 (later_boundaries (machine_stretch m) code_points) (length code_points)
  plain-rises code_points = (covers-list (machine_stretch m) (machine-within m checked) code_points).1

  pub plain-rising : (code_points : List ℕ) → AreRising (offsets (machine_boundaries m code_points))
  plain-rising code_points = cover-rising (machine_boundaries m code_points) 0 (length code_points) (refl, plain-rises code_points)

  pub cuts-rising : (code_points : List ℕ) → AreRising (inner_cuts m payloads code_points)
  cuts-rising code_points = between-rising 0 (length code_points) (inner_cuts m payloads code_points) (inner-between m payloads cover code_points)

  pub counted-cover : (code_points : List ℕ) → IsCover 0 (length code_points) (boundaries_with (ByMachine m) payloads code_points)
  counted-cover code_points =
      joined-covers (length code_points) (later_boundaries (machine_stretch m) code_points) (inner_cuts m payloads code_points)
      (plain-rises code_points) (inner-between m payloads cover code_points)

  module _ (text : Text) (rising : IsRising text.items text.end) where
    abbrev place : ℕ → ℕ
    place n = start_of (rest_after n text)

    abbrev counted : List ℕ
    counted = code_points text.items

    same-length : length counted ≡ length text.items
    same-length = length-map text.items (λ (item : Item). item.1)

    pub text-cover : IsCover (start_of text) text.end (boundaries_in (boundaries_with (ByMachine m) payloads) text)
    text-cover = covers-in text (boundaries_with (ByMachine m) payloads counted) rising (rw same-length at (counted-cover counted))

    pub plain-text-rising : AreRising (offsets (boundaries_in (machine_boundaries m) text))
    plain-text-rising =
        let whole : IsCover 0 (length counted) (machine_boundaries m counted) = (refl, plain-rises counted) in
        cover-rising (boundaries_in (machine_boundaries m) text) (start_of text) text.end (covers-in text (machine_boundaries m counted) rising (rw same-length at whole))

    cuts-between : AreBetween 0 (inner_cuts m payloads counted) (length text.items)
    cuts-between = subst (AreBetween 0 (inner_cuts m payloads counted)) same-length (inner-between m payloads cover counted)

    -- what is joined stands where it stands apart
    pub text-joined : boundaries_in (boundaries_with (ByMachine m) payloads) text
        ≡ joined (boundaries_in (machine_boundaries m) text) (cut_places (inner_cuts m payloads) text)
    text-joined =
        joined-places text rising (machine_boundaries m counted) (inner_cuts m payloads counted)
        (subst (λ n. AreAtMost n (offsets (machine_boundaries m counted))) same-length (omega arith, rises-at-most (later_boundaries (machine_stretch m) counted) 0 (length counted) (plain-rises counted)))
        (between-at-most 0 (length text.items) (inner_cuts m payloads counted) cuts-between)

    places-above : (low high : ℕ) (numbers : List ℕ) → AreBetween low numbers high → high ≤ length text.items → AreAbove (place low) (map place numbers)
    places-above low high [] between inside = tt
    places-above low high (n ∷ numbers) between inside = (
      place-between text.items text.end low n rising between.0 (omega (arith, between.1, inside)),
      places-above low high numbers (between-more numbers n low high high (omega (arith, between.0)) (omega arith) between.2) inside,
    )

    places-rising : (low high : ℕ) (numbers : List ℕ) → AreBetween low numbers high → high ≤ length text.items → AreRising (map place numbers)
    places-rising low high [] between inside = tt
    places-rising low high (n ∷ numbers) between inside =
        (places-above n high numbers between.2 inside, places-rising n high numbers between.2 inside)

    pub cut-places-rising : AreRising (cut_places (inner_cuts m payloads) text)
    cut-places-rising = places-rising 0 (length text.items) (inner_cuts m payloads counted) cuts-between (omega arith)
