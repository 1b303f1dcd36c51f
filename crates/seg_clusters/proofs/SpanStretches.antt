-- Spans of a text by a machine: they take something, and what stands in one stands at the same places in the whole.
use Rattle.std.proofs.Common.{◌≡◌, ℕ, ◌<◌, ◌≤◌, true, List, [], ◌∷◌, ◌++◌, length, map, take, refl, ap, ◌∙◌, arith, eq-eqb}
use Rattle.std.specs.Prelude.{Option}
use Rattle.std.proofs.lemmas.List.{take-map}
use Rattle.std.proofs.lemmas.List.Sums.{prefix_len-le-length}
use Rattle.seg_text.specs.declared.boundary.Boundary.{Boundary}
use Rattle.seg_text.specs.Items.{Item, Text, rest_after, text_before, code_points}
use Rattle.seg_text.specs.Boundaries.{boundary_in, boundaries_in, Stretch, HasProgress, later_boundaries}
use Rattle.seg_text.proofs.Places.{place-before}
use Rattle.seg_text.proofs.Stretches.{text-later-next}
use Rattle.seg_data.specs.ScriptWords.{ScriptWords}
use Rattle.seg_data.specs.WordSets.{Words}
use Rattle.seg_machine.specs.Machine.{Machine}
use Rattle.seg_clusters.specs.Spans.{has_worded_script, span_length, span_words, worded_script}

-- boundaries stay in a list of so many
abbrev pub AreInside : ℕ → List Boundary → Type 0
AreInside n [] = Unit {0}
AreInside n (boundary ∷ boundaries) = (boundary.offset ≤ n) × AreInside n boundaries

-- so they stand at the same places in the first items taken alone
before-in : (items : List Item) (end n : ℕ) (counted : List Boundary) → AreInside n counted
    → let text : Text = record { items = items; end = end } in map (boundary_in text) counted ≡ map (boundary_in (text_before n text)) counted
before-in items end n [] inside = refl
before-in items end n (found ∷ counted) inside =
    rw (place-before items end n found.offset inside.0, before-in items end n counted inside.1) refl

pub span-some : (m : Machine) (words : ScriptWords) (first : ℕ) (rest : List ℕ) → 0 < span_length m words (first ∷ rest)
span-some m words first rest =
    let same : has_worded_script m words (worded_script m words first) first ≡ true = eq-eqb _ _ refl in
    rw same (omega arith)

pub span-inside : (m : Machine) (words : ScriptWords) (code_points : List ℕ) → span_length m words code_points ≤ length code_points
span-inside m words [] = omega arith
span-inside m words (first ∷ rest) = prefix_len-le-length (has_worded_script m words (worded_script m words first)) (first ∷ rest)

-- what finds boundaries in a span, given the words of its script
abbrev pub InSpan : Type 0
InSpan = Option Words → List ℕ → List Boundary

module _ (m : Machine) (words : ScriptWords) (inner : InSpan) where
  -- the first stretch where these are the boundaries in each span
  abbrev pub stretch_with : List ℕ → Stretch
  stretch_with code_points =
      let extent = span_length m words code_points in
      record { extent = extent; boundaries = inner (span_words m words code_points) (take extent code_points) }

  pub stretch-going : HasProgress stretch_with
  stretch-going first rest = span-some m words first rest

  module _ (fits : (first : ℕ) (rest : List ℕ) → AreInside (span_length m words (first ∷ rest)) (stretch_with (first ∷ rest)).boundaries) where
    -- the boundaries of the first span, taken alone, and then those of what is left
    pub span-at : (items : List Item) (end : ℕ) → 0 < span_length m words (code_points items)
        → let text : Text = record { items = items; end = end } in let n = span_length m words (code_points items) in
        boundaries_in (later_boundaries stretch_with) text
        ≡ map (boundary_in (text_before n text)) (inner (span_words m words (code_points items)) (code_points (take n items)))
        ++ boundaries_in (later_boundaries stretch_with) (rest_after n text)
    span-at [] end some = absurd (omega (arith, some))
    span-at (item ∷ items) end some =
        let text : Text = record { items = item ∷ items; end = end } in
        let n = span_length m words (code_points (item ∷ items)) in
        let found = span_words m words (code_points (item ∷ items)) in
        let later = boundaries_in (later_boundaries stretch_with) (rest_after n text) in
        text-later-next stretch_with stretch-going item items end
        ∙ ap (λ (found : List Boundary). found ++ later) (before-in (item ∷ items) end n _ (fits item.1 (code_points items)))
        ∙ ap (λ (span : List ℕ). map (boundary_in (text_before n text)) (inner found span) ++ later)
        (take-map (λ (item : Item). item.1) n (item ∷ items))
