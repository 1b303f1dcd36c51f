-- What is found span by span may be split where another span begins, and after a code point outside runs where what is found in a piece between runs may.
use Rattle.std.proofs.Common.{◌≡◌, ℕ, zero, suc, ◌+◌, ◌<◌, ◌≤◌, inl, inr, Bool, true, false, List, [], ◌∷◌, ◌++◌, length, take, drop, refl, sym, ap, ap₂, ◌∙◌, subst, arith, append_assoc, append-nil, length-append, take_all, eq-eqb}
use Rattle.std.specs.Prelude.{None}
use Rattle.std.specs.List.{prefix_len}
use Rattle.std.proofs.lemmas.Bool.{cases_lt, cond_both, eqb-true, false_from_ne_true}
use Rattle.std.proofs.lemmas.List.{drop_all, length-drop, drop-append-le}
use Rattle.seg_text.specs.declared.boundary.Boundary.{Boundary}
use Rattle.seg_text.specs.Boundaries.{offsets, shift_all, Stretch, later_boundaries}
use Rattle.seg_text.proofs.Places.{shifted-append, shifted-none, shifted-twice}
use Rattle.seg_text.proofs.Stretches.{later-nil, later-next}
use Rattle.seg_data.specs.declared.provider.ComplexScript.{ComplexScript}
use Rattle.seg_data.specs.declared.provider.ComplexScript.TheVariants.{None as NoScript}
use Rattle.seg_data.specs.ScriptWords.{ScriptWords, words_in}
use Rattle.seg_clusters.specs.Rules.{boundaries_by}
use Rattle.seg_machine.specs.Machine.{Machine}
use Rattle.seg_clusters.specs.Spans.{inner_cuts, inner_stretch, IsOutsideRuns, IsSpanEdge, PartsCuts, has_worded_script, span_length, worded_script}
use Rattle.seg_clusters.specs.Scripts.{later_places}
use Rattle.seg_clusters.specs.Payloads.{Payloads}
use Rattle.seg_clusters.proofs.Cutting.{offsets-append}
use Rattle.seg_clusters.proofs.InnerCuts.{in-span}
use Rattle.seg_clusters.proofs.Pieces.{same-number}
use Rattle.seg_clusters.proofs.SpanStretches.{InSpan, span-inside, span-some, stretch-going, stretch_with}

-- how many pass a test of two lists, joined

pub passes-all : (passes : ℕ → Bool) (xs ys : List ℕ) → prefix_len passes xs ≡ length xs → prefix_len passes (xs ++ ys) ≡ length xs + prefix_len passes ys
passes-all passes [] ys all = omega arith
passes-all passes (x ∷ xs) ys all =
    cond_both (passes x) (1 + prefix_len passes xs) 0 (λ n. n ≡ suc (length xs) → prefix_len passes ((x ∷ xs) ++ ys) ≡ suc (length xs) + prefix_len passes ys)
    (λ here is. rw here (omega (arith, is, passes-all passes xs ys (omega (arith, is))))) (λ here is. absurd (omega (arith, is))) all

pub passes-some : (passes : ℕ → Bool) (xs ys : List ℕ) → prefix_len passes xs < length xs → prefix_len passes (xs ++ ys) ≡ prefix_len passes xs
passes-some passes [] ys some = absurd (omega arith)
passes-some passes (x ∷ xs) ys some =
    cond_both (passes x) (1 + prefix_len passes xs) 0 (λ n. n < suc (length xs) → prefix_len passes ((x ∷ xs) ++ ys) ≡ n)
    (λ here less. rw here (omega (arith, less, passes-some passes xs ys (omega (arith, less))))) (λ here less. rw here refl) some

pub passes-last : (passes : ℕ → Bool) (xs : List ℕ) (c : ℕ) → prefix_len passes (xs ++ c ∷ []) ≡ length (xs ++ c ∷ []) → passes c ≡ true
passes-last passes [] c all =
    cond_both (passes c) (1 + 0) 0 (λ n. n ≡ 1 → passes c ≡ true) (λ here is. here) (λ here is. absurd (omega (arith, is))) all
passes-last passes (x ∷ xs) c all =
    cond_both (passes x) (1 + prefix_len passes (xs ++ c ∷ [])) 0 (λ n. n ≡ suc (length (xs ++ c ∷ [])) → passes c ≡ true)
    (λ here is. passes-last passes xs c (omega (arith, is))) (λ here is. absurd (omega (arith, is))) all

pub take-past : (xs ys : List ℕ) (n : ℕ) → take (length xs + n) (xs ++ ys) ≡ xs ++ take n ys
take-past [] ys n = let same : 0 + n ≡ n = omega arith in ap (λ k. take k ys) same
take-past (x ∷ xs) ys n =
    let same : suc (length xs) + n ≡ suc (length xs + n) = omega arith in
    ap (λ k. take k (x ∷ (xs ++ ys))) same ∙ ap (λ rest. x ∷ rest) (take-past xs ys n)

pub drop-past : (xs ys : List ℕ) (n : ℕ) → drop (length xs + n) (xs ++ ys) ≡ drop n ys
drop-past [] ys n = let same : 0 + n ≡ n = omega arith in ap (λ k. drop k ys) same
drop-past (x ∷ xs) ys n =
    let same : suc (length xs) + n ≡ suc (length xs + n) = omega arith in
    ap (λ k. drop k (x ∷ (xs ++ ys))) same ∙ drop-past xs ys n

pub take-within : (xs ys : List ℕ) (n : ℕ) → n ≤ length xs → take n (xs ++ ys) ≡ take n xs
take-within xs ys zero few = refl
take-within [] ys (suc n) few = absurd (omega arith)
take-within (x ∷ xs) ys (suc n) few = ap (λ rest. x ∷ rest) (take-within xs ys n (omega arith))

module _ (m : Machine) (words : ScriptWords) (inner : InSpan) (nothing : inner None [] ≡ []) where
  abbrev pub first : List ℕ → Stretch
  first = stretch_with m words inner

  abbrev pub later : List ℕ → List Boundary
  later = later_boundaries first

  abbrev pub script : ℕ → ComplexScript
  script = worded_script m words

  -- how far the piece between runs goes that the list begins with, if it does
  abbrev pub piece : List ℕ → ℕ
  piece xs = prefix_len (has_worded_script m words NoScript) xs

  -- what is found of a list, by its first span
  pub next : (x : ℕ) (xs : List ℕ) → let n = span_length m words (x ∷ xs) in
      later (x ∷ xs) ≡ inner (words_in words (script x)) (take n (x ∷ xs)) ++ shift_all n (later (drop n (x ∷ xs)))
  next x xs = later-next first (stretch-going m words inner) x xs

  -- what is found of a list is what is found of the piece that it begins with, and of what is left
  pub piece-first : (ys : List ℕ) → later ys ≡ inner None (take (piece ys) ys) ++ shift_all (piece ys) (later (drop (piece ys) ys))
  piece-first [] = later-nil first ∙ sym (ap₂ (λ (some others : List Boundary). some ++ shift_all 0 others) nothing (later-nil first))
  piece-first (y ∷ ys) = on (has_worded_script m words NoScript y) refl
    where
      on : (b : Bool) → has_worded_script m words NoScript y ≡ b
          → later (y ∷ ys) ≡ inner None (take (piece (y ∷ ys)) (y ∷ ys)) ++ shift_all (piece (y ∷ ys)) (later (drop (piece (y ∷ ys)) (y ∷ ys)))
      on true here =
          let is : script y ≡ NoScript = same-number (script y) NoScript (eqb-true _ _ here) in
          next y ys
          ∙ ap (λ (script : ComplexScript). let n = prefix_len (has_worded_script m words script) (y ∷ ys) in
          inner (words_in words script) (take n (y ∷ ys)) ++ shift_all n (later (drop n (y ∷ ys)))) is
      on false here =
          let none : piece (y ∷ ys) ≡ 0 = rw here refl in
          sym (ap (λ n. inner None (take n (y ∷ ys)) ++ shift_all n (later (drop n (y ∷ ys)))) none
          ∙ ap (λ (some : List Boundary). some ++ shift_all 0 (later (y ∷ ys))) nothing ∙ shifted-none (later (y ∷ ys)))

  -- may a list be split here
  abbrev pub AreSplit : List ℕ → List ℕ → Type 0
  AreSplit xs ys = later (xs ++ ys) ≡ later xs ++ shift_all (length xs) (later ys)

  -- the first list is one piece between runs
  one-piece : (x : ℕ) (xs ys : List ℕ) → script x ≡ NoScript → span_length m words (x ∷ xs) ≡ length (x ∷ xs)
      → ((zs : List ℕ) → inner None ((x ∷ xs) ++ zs) ≡ inner None (x ∷ xs) ++ shift_all (length (x ∷ xs)) (inner None zs))
      → AreSplit (x ∷ xs) ys
  one-piece x xs ys is all splits =
      let size : ℕ = length (x ∷ xs) in
      let k : ℕ = piece ys in
      let rest : List Boundary = later (drop k ys) in
      let same : (zs : List ℕ) → span_length m words (x ∷ zs) ≡ piece (x ∷ zs) = λ zs. ap (λ (script : ComplexScript). prefix_len (has_worded_script m words script) (x ∷ zs)) is in
      let whole : piece ((x ∷ xs) ++ ys) ≡ size + k = passes-all (has_worded_script m words NoScript) (x ∷ xs) ys (sym (same xs) ∙ all) in
      let front : later (x ∷ xs) ≡ inner None (x ∷ xs) =
      piece-first (x ∷ xs)
      ∙ ap (λ n. inner None (take n (x ∷ xs)) ++ shift_all n (later (drop n (x ∷ xs)))) (sym (same xs) ∙ all)
      ∙ ap₂ (λ taken left. inner None taken ++ shift_all size (later left)) (take_all size (x ∷ xs) (omega arith)) (drop_all size (x ∷ xs) (omega arith))
      ∙ ap (λ (none : List Boundary). inner None (x ∷ xs) ++ shift_all size none) (later-nil first)
      ∙ append-nil (inner None (x ∷ xs)) in
      piece-first ((x ∷ xs) ++ ys)
      ∙ ap (λ n. inner None (take n ((x ∷ xs) ++ ys)) ++ shift_all n (later (drop n ((x ∷ xs) ++ ys)))) whole
      ∙ ap₂ (λ taken left. inner None taken ++ shift_all (size + k) (later left)) (take-past (x ∷ xs) ys k) (drop-past (x ∷ xs) ys k)
      ∙ ap (λ (found : List Boundary). found ++ shift_all (size + k) rest) (splits (take k ys))
      ∙ append_assoc (inner None (x ∷ xs)) (shift_all size (inner None (take k ys))) (shift_all (size + k) rest)
      ∙ ap (λ (found : List Boundary). inner None (x ∷ xs) ++ (shift_all size (inner None (take k ys)) ++ found)) (sym (shifted-twice size k rest))
      ∙ ap (λ (found : List Boundary). inner None (x ∷ xs) ++ found) (sym (shifted-append size (inner None (take k ys)) (shift_all k rest)))
      ∙ ap₂ (λ (some others : List Boundary). some ++ shift_all size others) (sym front) (sym (piece-first ys))

  -- the first list is one span, and another begins behind it
  one-span : (one other : ℕ) → IsSpanEdge m words one other → (x : ℕ) (xs ys : List ℕ) → script one ≡ script x → span_length m words (x ∷ xs) ≡ length (x ∷ xs)
      → AreSplit (x ∷ xs) (other ∷ ys)
  one-span one other edge x xs ys is all =
      let size : ℕ = length (x ∷ xs) in
      let fails : has_worded_script m words (script x) other ≡ false =
      false_from_ne_true (has_worded_script m words (script x) other) (λ passes. edge (is ∙ sym (same-number (script other) (script x) (eqb-true _ _ passes)))) in
      let none : prefix_len (has_worded_script m words (script x)) (other ∷ ys) ≡ 0 = rw fails refl in
      let whole : span_length m words ((x ∷ xs) ++ other ∷ ys) ≡ size + 0 =
      passes-all (has_worded_script m words (script x)) (x ∷ xs) (other ∷ ys) all ∙ ap (λ n. size + n) none in
      let plus : size + 0 ≡ size = omega arith in
      let front : later (x ∷ xs) ≡ inner (words_in words (script x)) (x ∷ xs) =
      next x xs
      ∙ ap (λ n. inner (words_in words (script x)) (take n (x ∷ xs)) ++ shift_all n (later (drop n (x ∷ xs)))) all
      ∙ ap₂ (λ taken left. inner (words_in words (script x)) taken ++ shift_all size (later left)) (take_all size (x ∷ xs) (omega arith)) (drop_all size (x ∷ xs) (omega arith))
      ∙ ap (λ (none : List Boundary). inner (words_in words (script x)) (x ∷ xs) ++ shift_all size none) (later-nil first)
      ∙ append-nil (inner (words_in words (script x)) (x ∷ xs)) in
      next x (xs ++ other ∷ ys)
      ∙ ap (λ n. inner (words_in words (script x)) (take n ((x ∷ xs) ++ other ∷ ys)) ++ shift_all n (later (drop n ((x ∷ xs) ++ other ∷ ys)))) whole
      ∙ ap₂ (λ taken left. inner (words_in words (script x)) taken ++ shift_all (size + 0) (later left))
      (take-past (x ∷ xs) (other ∷ ys) 0 ∙ append-nil (x ∷ xs)) (drop-past (x ∷ xs) (other ∷ ys) 0)
      ∙ ap₂ (λ (some : List Boundary) n. some ++ shift_all n (later (other ∷ ys))) (sym front) plus

  -- the first list has more than its first span
  more-spans : (x : ℕ) (xs ys : List ℕ) → let n = span_length m words (x ∷ xs) in
      n < length (x ∷ xs) → AreSplit (drop n (x ∷ xs)) ys → AreSplit (x ∷ xs) ys
  more-spans x xs ys less left =
      let n : ℕ = span_length m words (x ∷ xs) in
      let rest : List ℕ = drop n (x ∷ xs) in
      let same : span_length m words ((x ∷ xs) ++ ys) ≡ n = passes-some (has_worded_script m words (script x)) (x ∷ xs) ys less in
      let found : List Boundary = inner (words_in words (script x)) (take n (x ∷ xs)) in
      let size = length-drop n (x ∷ xs) in
      let sum : n + length rest ≡ length (x ∷ xs) = omega (arith, size, less) in
      next x (xs ++ ys)
      ∙ ap (λ k. inner (words_in words (script x)) (take k ((x ∷ xs) ++ ys)) ++ shift_all k (later (drop k ((x ∷ xs) ++ ys)))) same
      ∙ ap₂ (λ taken left. inner (words_in words (script x)) taken ++ shift_all n (later left)) (take-within (x ∷ xs) ys n (omega (arith, less))) (drop-append-le n (x ∷ xs) ys (omega (arith, less)))
      ∙ ap (λ (later : List Boundary). found ++ shift_all n later) left
      ∙ ap (λ (later : List Boundary). found ++ later) (shifted-append n (later rest) (shift_all (length rest) (later ys)))
      ∙ ap (λ (last : List Boundary). found ++ (shift_all n (later rest) ++ last)) (shifted-twice n (length rest) (later ys))
      ∙ ap (λ k. found ++ (shift_all n (later rest) ++ shift_all k (later ys))) sum
      ∙ sym (append_assoc found (shift_all n (later rest)) (shift_all (length (x ∷ xs)) (later ys)))
      ∙ ap (λ (front : List Boundary). front ++ shift_all (length (x ∷ xs)) (later ys)) (sym (next x xs))

  -- a list that ends with a code point may be split behind it, if one span that ends with it may
  module _ (c : ℕ) (ys : List ℕ)
      (may : (x : ℕ) (xs before : List ℕ) → x ∷ xs ≡ before ++ c ∷ [] → script c ≡ script x → span_length m words (x ∷ xs) ≡ length (x ∷ xs) → AreSplit (x ∷ xs) ys) where
    split-within : (most : ℕ) (before : List ℕ) → length before ≤ most → AreSplit (before ++ c ∷ []) ys
    split-within most [] bound =
        let here : has_worded_script m words (script c) c ≡ true = eq-eqb _ _ refl in
        let one : span_length m words (c ∷ []) ≡ 1 = rw here refl in
        may c [] [] refl refl one
    split-within zero (x ∷ before) bound = absurd (omega arith)
    split-within (suc most) (x ∷ before) bound =
        let all : List ℕ = x ∷ (before ++ c ∷ []) in
        let n : ℕ = span_length m words all in
        let inside = span-inside m words all in
        elim (cases_lt n (length all)) [
          | inl less ↦
              let size = length-append before (c ∷ []) in
              let left : drop n all ≡ drop n (x ∷ before) ++ c ∷ [] = drop-append-le n (x ∷ before) (c ∷ []) (omega (arith, less, size)) in
              let fewer : length (drop n (x ∷ before)) ≤ most = omega (arith, length-drop n (x ∷ before), span-some m words x (before ++ c ∷ [])) in
              more-spans x (before ++ c ∷ []) ys less (subst (λ (xs : List ℕ). AreSplit xs ys) (sym left) (split-within most (drop n (x ∷ before)) fewer))
          | inr past ↦
              let whole : n ≡ length all = omega (arith, past, inside) in
              let last : has_worded_script m words (script x) c ≡ true = passes-last (has_worded_script m words (script x)) (x ∷ before) c whole in
              may x (before ++ c ∷ []) (x ∷ before) refl (same-number (script c) (script x) (eqb-true _ _ last)) whole
        ]

    split-behind : (before : List ℕ) → AreSplit (before ++ c ∷ []) ys
    split-behind before = split-within (length before) before (omega arith)

  -- so it may behind a code point outside runs, where what is found in a piece may
  pub spans-split : (c : ℕ) → IsOutsideRuns m words c
      → ((before zs : List ℕ) → inner None ((before ++ c ∷ []) ++ zs) ≡ inner None (before ++ c ∷ []) ++ shift_all (length (before ++ c ∷ [])) (inner None zs))
      → (before ys : List ℕ) → AreSplit (before ++ c ∷ []) ys
  spans-split c outside splits before ys =
      split-behind c ys
      (λ x xs earlier is same all.
      one-piece x xs ys (sym same ∙ outside) all
      (subst (λ (first : List ℕ). (zs : List ℕ) → inner None (first ++ zs) ≡ inner None first ++ shift_all (length first) (inner None zs)) (sym is) (splits earlier)))
      before

  -- .. and where another span begins
  pub edge-split : (one other : ℕ) → IsSpanEdge m words one other → (before ys : List ℕ) → AreSplit (before ++ one ∷ []) (other ∷ ys)
  edge-split one other edge before ys = split-behind one (other ∷ ys) (λ x xs earlier is same all. one-span one other edge x xs ys same all) before

-- the cuts inside runs

pub later-offsets : (before : ℕ) (boundaries : List Boundary) → offsets (shift_all before boundaries) ≡ later_places before (offsets boundaries)
later-offsets before [] = refl
later-offsets before (found ∷ boundaries) = ap (λ places. (before + found.offset) ∷ places) (later-offsets before boundaries)

pub cuts-split : (m : Machine) (payloads : Payloads) (c : ℕ) → IsOutsideRuns m payloads.words c → PartsCuts (inner_cuts m payloads) c
cuts-split m payloads c outside before second =
    let first = before ++ c ∷ [] in
    ap offsets (spans-split m payloads.words (in-span (boundaries_by payloads.clusters)) refl c outside (λ before zs. refl) before second)
    ∙ offsets-append (later_boundaries (inner_stretch m payloads) first) (shift_all (length first) (later_boundaries (inner_stretch m payloads) second))
    ∙ ap (λ places. inner_cuts m payloads first ++ places) (later-offsets (length first) (later_boundaries (inner_stretch m payloads) second))
