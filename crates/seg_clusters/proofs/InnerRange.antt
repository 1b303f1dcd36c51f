-- The cuts strictly inside runs rise, from above 0 to below the length.
use Rattle.std.proofs.Common.{◌≡◌, ℕ, zero, suc, ◌+◌, ◌<◌, ◌≤◌, List, [], ◌∷◌, ◌++◌, length, take, drop, ap, arith}
use Rattle.std.proofs.lemmas.List.{length-drop}
use Rattle.std.specs.Prelude.{Option, None, Some}
use Rattle.seg_text.specs.declared.boundary.Boundary.{Boundary}
use Rattle.seg_text.specs.Boundaries.{offsets, shift_all, RisesTo, with_status, later_boundaries}
use Rattle.seg_text.proofs.Stretches.{later-nil, later-next}
use Rattle.seg_data.specs.declared.provider.ComplexScript.{ComplexScript}
use Rattle.seg_data.specs.ScriptWords.{words_in}
use Rattle.seg_data.specs.WordSets.{Words}
use Rattle.seg_clusters.specs.Rules.{boundaries_by}
use Rattle.seg_machine.specs.Machine.{Machine}
use Rattle.seg_clusters.specs.DictionaryCuts.{Clusters, by_words, dictionary_cuts}
use Rattle.seg_clusters.specs.Spans.{inner_cuts, inner_stretch, but_the_last, span_cuts, span_length, worded_script}
use Rattle.seg_clusters.specs.Payloads.{Payloads, piece_cuts_by}
use Rattle.seg_clusters.specs.Scripts.{CoverPieces}
use Rattle.seg_clusters.proofs.Cutting.{length-taken, offsets-append, rises-inside}
use Rattle.seg_clusters.proofs.SpanStretches.{span-inside, span-some}

-- numbers rise, each above one and below another
abbrev pub AreBetween : ℕ → List ℕ → ℕ → Type 0
AreBetween low [] high = Unit {0}
AreBetween low (n ∷ numbers) high = (low < n) × (n < high) × AreBetween n numbers high

pub between-more : (numbers : List ℕ) (low lower high higher : ℕ) → lower ≤ low → high ≤ higher → AreBetween low numbers high → AreBetween lower numbers higher
between-more [] low lower high higher down up are = tt
between-more (n ∷ numbers) low lower high higher down up are =
    (omega (arith, down, are.0), omega (arith, up, are.1), between-more numbers n n high higher (omega arith) up are.2)

between-append : (numbers others : List ℕ) (low middle high : ℕ) → low ≤ middle → middle ≤ high → AreBetween low numbers middle → AreBetween middle others high
    → AreBetween low (numbers ++ others) high
between-append [] others low middle high down up are more = between-more others middle low high high down (omega arith) more
between-append (n ∷ numbers) others low middle high down up are more =
    (are.0, omega (arith, are.1, up), between-append numbers others n middle high (omega (arith, are.1)) up are.2 more)

between-shift : (before : ℕ) (boundaries : List Boundary) (low high : ℕ) → AreBetween low (offsets boundaries) high
    → AreBetween (before + low) (offsets (shift_all before boundaries)) (before + high)
between-shift before [] low high are = tt
between-shift before (boundary ∷ boundaries) low high are =
    (omega (arith, are.0), omega (arith, are.1), between-shift before boundaries boundary.offset high are.2)

-- all cuts but the last
inside-between : (cuts : List ℕ) (from end : ℕ) → RisesTo from (with_status 0 cuts) end → AreBetween from (offsets (with_status 0 (but_the_last cuts))) end
inside-between [] from end rises = tt
inside-between (cut ∷ []) from end rises = tt
inside-between (cut ∷ next ∷ cuts) from end rises = (
  rises.0,
  omega (arith, rises.1.0, (rises-inside cuts next end rises.1.1).0),
  inside-between (next ∷ cuts) cut end rises.1,
)

module _ (m : Machine) (payloads : Payloads) (cover : CoverPieces (piece_cuts_by payloads)) where
  abbrev clusters : Clusters
  clusters = boundaries_by payloads.clusters

  alone-between : (found : Option Words) (script : ComplexScript) (n first : ℕ) (rest : List ℕ) → length (first ∷ rest) ≡ n
      → RisesTo 0 (with_status 0 (by_words found clusters script (first ∷ rest))) (length (first ∷ rest))
      → AreBetween 0 (offsets (with_status 0 (but_the_last (span_cuts clusters found (first ∷ rest))))) n
  alone-between None script n first rest is rises = tt
  alone-between (Some words) script n first rest is rises =
      rw is at (inside-between (dictionary_cuts words clusters (first ∷ rest)) 0 (length (first ∷ rest)) rises)

  taken-between : (script : ComplexScript) (n first : ℕ) (rest : List ℕ) → 0 < n → n ≤ length (first ∷ rest)
      → AreBetween 0 (offsets (with_status 0 (but_the_last (span_cuts clusters (words_in payloads.words script) (take n (first ∷ rest)))))) n
  taken-between script zero first rest some bound = absurd (omega arith)
  taken-between script (suc n) first rest some bound =
      alone-between (words_in payloads.words script) script (suc n) first (take n rest) (ap suc (length-taken n rest (omega (arith, bound)))) (cover script first (take n rest))

  stretch-between : (first : ℕ) (rest : List ℕ) → AreBetween 0 (offsets (inner_stretch m payloads (first ∷ rest)).boundaries) (span_length m payloads.words (first ∷ rest))
  stretch-between first rest =
      taken-between (worded_script m payloads.words first) (span_length m payloads.words (first ∷ rest)) first rest
      (span-some m payloads.words first rest) (span-inside m payloads.words (first ∷ rest))

  -- the cuts of the first span, and of what is left
  next-between : (first : ℕ) (rest : List ℕ)
      → let left = drop (span_length m payloads.words (first ∷ rest)) (first ∷ rest) in AreBetween 0 (inner_cuts m payloads left) (length left)
      → AreBetween 0 (inner_cuts m payloads (first ∷ rest)) (length (first ∷ rest))
  next-between first rest between =
      let n = span_length m payloads.words (first ∷ rest) in
      let left = drop n (first ∷ rest) in
      let later : List Boundary = later_boundaries (inner_stretch m payloads) left in
      let bound : n ≤ length (first ∷ rest) = span-inside m payloads.words (first ∷ rest) in
      let whole : n + length left ≡ length (first ∷ rest) = omega (arith, length-drop n (first ∷ rest), bound) in
      let none : n + 0 ≡ n = omega arith in
      let after : AreBetween n (offsets (shift_all n later)) (length (first ∷ rest)) = rw (none, whole) at (between-shift n later 0 (length left) between) in
      rw (later-next (inner_stretch m payloads) (λ first rest. span-some m payloads.words first rest) first rest, offsets-append (inner_stretch m payloads (first ∷ rest)).boundaries (shift_all n later))
      (between-append _ _ 0 n (length (first ∷ rest)) (omega arith) bound (stretch-between first rest) after)

  stretches-between : (most : ℕ) (code_points : List ℕ) → length code_points ≤ most → AreBetween 0 (inner_cuts m payloads code_points) (length code_points)
  stretches-between most [] bound = rw (later-nil (inner_stretch m payloads)) tt
  stretches-between zero (first ∷ rest) bound = absurd (omega arith)
  stretches-between (suc most) (first ∷ rest) bound =
      let n = span_length m payloads.words (first ∷ rest) in
      let left = drop n (first ∷ rest) in
      let fewer : length left ≤ most = omega (arith, length-drop n (first ∷ rest), span-some m payloads.words first rest, bound) in
      next-between first rest (stretches-between most left fewer)

  pub inner-between : (code_points : List ℕ) → AreBetween 0 (inner_cuts m payloads code_points) (length code_points)
  inner-between code_points = stretches-between (length code_points) code_points (omega arith)
