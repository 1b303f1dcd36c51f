-- Certain places of words by a machine: where another span begins, or inside a piece between runs.
use Rattle.std.proofs.Common.{◌≡◌, ℕ, zero, suc, ◌+◌, ◌<◌, ◌≤◌, inl, inr, Bool, true, false, List, [], ◌∷◌, ◌++◌, Contains, length, take, drop, refl, sym, ap, ap₂, ◌∙◌, subst, arith, append_assoc, append-nil, length-append, eq-eqb}
use Rattle.std.specs.Prelude.{◌↔◌}
use Rattle.std.specs.List.{prefix_len}
use Rattle.std.proofs.lemmas.Bool.{cases_lt, eqb-true}
use Rattle.std.proofs.lemmas.List.{length-drop, drop-append-le}
use Rattle.std.proofs.lemmas.List.Elements.{Contains-append_left, Contains-append_right}
use Rattle.seg_text.specs.declared.boundary.Boundary.{Boundary}
use Rattle.seg_text.specs.Boundaries.{offsets, shift, shift_all, start, later_boundaries, list_boundaries, IsCover, RisesTo}
use Rattle.seg_text.proofs.Covers.{covers-list, rises-le}
use Rattle.seg_text.proofs.Places.{shifted-append, shifted-twice}
use Rattle.seg_text.proofs.Stretches.{later-nil}
use Rattle.seg_data.specs.declared.provider.ComplexScript.{ComplexScript}
use Rattle.seg_data.specs.declared.provider.ComplexScript.TheVariants.{None as NoScript}
use Rattle.seg_data.specs.ScriptWords.{ScriptWords, no_words, words_in}
use Rattle.seg_machine.specs.Machine.{Machine}
use Rattle.seg_machine.specs.MachineFaults.{IsChecked}
use Rattle.seg_machine.specs.Pick.{machine_stretch}
use Rattle.seg_machine.proofs.Segmentations.{machine-within}
use Rattle.seg_clusters.specs.Certain.{AlwaysBreaks, AreCertain, BeginsBetween, SplitsBetween, without_last}
use Rattle.seg_clusters.specs.Payloads.{Payloads, piece_cuts_by}
use Rattle.seg_clusters.specs.Rules.{Rules, boundaries_by}
use Rattle.seg_clusters.specs.Rules.Rules.{ByMachine}
use Rattle.seg_clusters.specs.Scripts.{CoverPieces, script_number}
use Rattle.seg_clusters.specs.Spans.{IsOutsideRuns, IsSpanEdge, has_worded_script, span_length, worded_script}
use Rattle.seg_clusters.proofs.Begins.{one-boundary, splits-begin}
use Rattle.seg_clusters.proofs.Certain.{certain-breaks}
use Rattle.seg_clusters.proofs.CertainParts.{certain-splits, last-off}
use Rattle.seg_clusters.proofs.Cutting.{offsets-append}
use Rattle.seg_clusters.proofs.Pieces.{same-number}
use Rattle.seg_clusters.proofs.SpanStretches.{span-inside, span-some}
use Rattle.seg_clusters.proofs.SplitSpans.{drop-past, edge-split, next, passes-all, passes-some, piece-first, take-past, take-within}
use Rattle.seg_clusters.proofs.UnwordedSpans.{unworded}
use Rattle.seg_words.specs.WordRules.{WordRules, WordsAreCertain, WordsAreCertainWith, span_boundaries, span_stretch, stretch_by, word_boundaries_by}
use Rattle.seg_words.proofs.Spans.{spans-within, taken-rises}

-- where boundaries stand

later-place : (n place : ℕ) (boundaries : List Boundary) → Contains (offsets boundaries) place → Contains (offsets (shift_all n boundaries)) (n + place)
later-place n place [] (k, less, is) = absurd (omega (arith, less))
later-place n place (found ∷ boundaries) (zero, less, is) = (0, omega arith, ap (λ offset. n + offset) is)
later-place n place (found ∷ boundaries) (suc k, less, is) =
    let (j, fewer, there) = later-place n place boundaries (k, omega (arith, less), is) in
    (suc j, omega (arith, fewer), there)

place-left : (some others : List Boundary) (place : ℕ) → Contains (offsets some) place → Contains (offsets (some ++ others)) place
place-left some others place stands =
    subst (λ (places : List ℕ). Contains places place) (sym (offsets-append some others)) (Contains-append_left (offsets some) (offsets others) place stands)

place-right : (some others : List Boundary) (place : ℕ) → Contains (offsets others) place → Contains (offsets (some ++ others)) place
place-right some others place stands =
    subst (λ (places : List ℕ). Contains places place) (sym (offsets-append some others)) (Contains-append_right (offsets some) (offsets others) place stands)

-- one is at the end of what they rise to
place-end : (boundaries : List Boundary) (from end : ℕ) → from < end → RisesTo from boundaries end → Contains (offsets boundaries) end
place-end [] from end some rises = absurd (omega (arith, some, rises))
place-end (found ∷ boundaries) from end some rises =
    elim (cases_lt found.offset end) [
      | inl less ↦ let (k, fewer, there) = place-end boundaries found.offset end less rises.1 in (suc k, omega (arith, fewer), there)
      | inr past ↦
          let low = rises-le boundaries found.offset end rises.1 in
          let here : found.offset ≡ end = omega (arith, past, low) in
          (0, omega arith, here)
    ]

-- behind what covers so many, there is one at its end, and the others stand so much later
place-behind : (n place : ℕ) (found boundaries : List Boundary) → 0 < n → RisesTo 0 found n → Contains (offsets (start ∷ boundaries)) place
    → Contains (offsets (start ∷ (found ++ shift_all n boundaries))) (n + place)
place-behind n place found boundaries some rises (zero, less, is) =
    let sum : n + place ≡ n = omega (arith, is) in
    subst (λ place. Contains (offsets (start ∷ (found ++ shift_all n boundaries))) place) (sym sum)
    (place-right (start ∷ []) (found ++ shift_all n boundaries) n (place-left found (shift_all n boundaries) n (place-end found 0 n some rises)))
place-behind n place found boundaries some rises (suc k, less, is) =
    place-right (start ∷ []) (found ++ shift_all n boundaries) (n + place)
    (place-right found (shift_all n boundaries) (n + place) (later-place n place boundaries (k, omega (arith, less), is)))

-- the last of boundaries

last-apart : (found : Boundary) (boundaries : List Boundary) → (front : List Boundary) × (end : Boundary) × (found ∷ boundaries ≡ front ++ end ∷ [])
last-apart found [] = ([], found, refl)
last-apart found (next ∷ boundaries) =
    let (front, end, is) = last-apart next boundaries in
    (found ∷ front, end, ap (λ (rest : List Boundary). found ∷ rest) is)

ends-some : (boundaries : List Boundary) (n : ℕ) → 0 < n → RisesTo 0 boundaries n → (front : List Boundary) × (end : Boundary) × (boundaries ≡ front ++ end ∷ [])
ends-some [] n some rises = absurd (omega (arith, some, rises))
ends-some (found ∷ boundaries) n some rises = last-apart found boundaries

-- a list and what stands alone have their boundaries in common up to a place, where one stands; behind it the list has those of the rest, and what
-- stands alone its end
record Parts (m : Machine) (payloads : Payloads) (whole alone rest : List ℕ) (place : ℕ) : Type 0 where
  front : List Boundary
  end : Boundary
  ends : later_boundaries (span_stretch m payloads) alone ≡ front ++ end ∷ []
  goes_on : later_boundaries (span_stretch m payloads) whole ≡ front ++ shift_all place (later_boundaries (span_stretch m payloads) rest)
  stands : Contains (offsets (list_boundaries (span_stretch m payloads) whole)) place

module _ (m : Machine) (payloads : Payloads) (checked : IsChecked m) (cover : CoverPieces (piece_cuts_by payloads)) where
  abbrev later : List ℕ → List Boundary
  later xs = later_boundaries (span_stretch m payloads) xs

  abbrev script : ℕ → ComplexScript
  script code_point = worded_script m payloads.words code_point

  -- what is found in a span that begins with a code point
  abbrev found_in : ℕ → List ℕ → List Boundary
  found_in x span = span_boundaries m (boundaries_by payloads.clusters) (words_in payloads.words (script x)) span

  abbrev found_between : List ℕ → List Boundary
  found_between span = later_boundaries (machine_stretch m) span

  abbrev piece : List ℕ → ℕ
  piece xs = prefix_len (has_worded_script m payloads.words NoScript) xs

  -- ---- behind a span that both begin with

  by-span : (x : ℕ) (xs ys : List ℕ) (n : ℕ) → n ≤ length (x ∷ xs) → span_length m payloads.words ((x ∷ xs) ++ ys) ≡ n
      → later ((x ∷ xs) ++ ys) ≡ found_in x (take n (x ∷ xs)) ++ shift_all n (later (drop n (x ∷ xs) ++ ys))
  by-span x xs ys n few is =
      next m payloads.words (span_boundaries m (boundaries_by payloads.clusters)) (later-nil (machine_stretch m)) x (xs ++ ys)
      ∙ ap (λ k. found_in x (take k ((x ∷ xs) ++ ys)) ++ shift_all k (later (drop k ((x ∷ xs) ++ ys)))) is
      ∙ ap₂ (λ taken left. found_in x taken ++ shift_all n (later left)) (take-within (x ∷ xs) ys n few) (drop-append-le n (x ∷ xs) ys few)

  behind-span : (x : ℕ) (xs whole alone rest : List ℕ) (n place : ℕ) → n ≤ length (x ∷ xs)
      → span_length m payloads.words ((x ∷ xs) ++ whole) ≡ n → span_length m payloads.words ((x ∷ xs) ++ alone) ≡ n
      → Parts m payloads (drop n (x ∷ xs) ++ whole) (drop n (x ∷ xs) ++ alone) rest place
      → Parts m payloads ((x ∷ xs) ++ whole) ((x ∷ xs) ++ alone) rest (n + place)
  behind-span x xs whole alone rest n place few is other_is parts =
      let found : List Boundary = found_in x (take n (x ∷ xs)) in
      let some : 0 < n = omega (arith, is, span-some m payloads.words x (xs ++ whole)) in
      record {
        front = found ++ shift_all n parts.front;
        end = shift n parts.end;
        ends =
            by-span x xs alone n few other_is
            ∙ ap (λ (later : List Boundary). found ++ shift_all n later) parts.ends
            ∙ ap (λ (later : List Boundary). found ++ later) (shifted-append n parts.front (parts.end ∷ []))
            ∙ sym (append_assoc found (shift_all n parts.front) (shift n parts.end ∷ []));
        goes_on =
            by-span x xs whole n few is
            ∙ ap (λ (later : List Boundary). found ++ shift_all n later) parts.goes_on
            ∙ ap (λ (later : List Boundary). found ++ later) (shifted-append n parts.front (shift_all place (later rest)))
            ∙ ap (λ (later : List Boundary). found ++ (shift_all n parts.front ++ later)) (shifted-twice n place (later rest))
            ∙ sym (append_assoc found (shift_all n parts.front) (shift_all (n + place) (later rest)));
        stands =
            subst (λ (later : List Boundary). Contains (offsets (start ∷ later)) (n + place)) (sym (by-span x xs whole n few is))
            (place-behind n place found (later (drop n (x ∷ xs) ++ whole)) some (taken-rises m payloads checked cover (script x) n x xs some few) parts.stands);
      }

  -- ---- where another span begins

  module _ (before one other : ℕ) (edge : IsSpanEdge m payloads.words one other) (earlier : List ℕ) where
    abbrev first : List ℕ
    first = (earlier ++ before ∷ []) ++ one ∷ []

    up-to : length first ≡ length earlier + 2
    up-to = omega (arith, length-append (earlier ++ before ∷ []) (one ∷ []), length-append earlier (before ∷ []))

    split-at : (back : List ℕ) → later (earlier ++ before ∷ one ∷ other ∷ back) ≡ later first ++ shift_all (length earlier + 2) (later (other ∷ back))
    split-at back =
        sym (ap later (append_assoc (earlier ++ before ∷ []) (one ∷ []) (other ∷ back) ∙ append_assoc earlier (before ∷ []) (one ∷ other ∷ back)))
        ∙ edge-split m payloads.words (span_boundaries m (boundaries_by payloads.clusters)) (later-nil (machine_stretch m)) one other edge (earlier ++ before ∷ []) back
        ∙ ap (λ n. later first ++ shift_all n (later (other ∷ back))) up-to

    edge-parts : (back : List ℕ) → Parts m payloads (earlier ++ before ∷ one ∷ other ∷ back) (earlier ++ before ∷ one ∷ other ∷ []) (other ∷ back) (length earlier + 2)
    edge-parts back =
        let place : ℕ = length earlier + 2 in
        let covers = covers-list (span_stretch m payloads) (spans-within m payloads checked cover) in
        let alone = one-boundary (later (other ∷ [])) (covers (other ∷ [])).1 in
        let rises : RisesTo 0 (later first) place = subst (λ n. RisesTo 0 (later first) n) up-to (covers first).1 in
        record {
          front = later first;
          end = shift place alone.last;
          ends = split-at [] ∙ ap (λ (found : List Boundary). later first ++ shift_all place found) alone.is;
          goes_on = split-at back;
          stands =
              subst (λ (later : List Boundary). Contains (offsets (start ∷ later)) place) (sym (split-at back))
              (place-right (start ∷ []) (later first ++ shift_all place (later (other ∷ back))) place
              (place-left (later first) (shift_all place (later (other ∷ back))) place (place-end (later first) 0 place (omega arith) rises)));
        }

  -- ---- inside a piece between runs

  -- what begins with some of a piece
  by-piece : (earlier ys : List ℕ) (k : ℕ) → piece earlier ≡ length earlier → piece ys ≡ k
      → later (earlier ++ ys) ≡ found_between (earlier ++ take k ys) ++ shift_all (length earlier + k) (later (drop k ys))
  by-piece earlier ys k all is =
      piece-first m payloads.words (span_boundaries m (boundaries_by payloads.clusters)) (later-nil (machine_stretch m)) (earlier ++ ys)
      ∙ ap (λ n. found_between (take n (earlier ++ ys)) ++ shift_all n (later (drop n (earlier ++ ys))))
      (passes-all (has_worded_script m payloads.words NoScript) earlier ys all ∙ ap (λ n. length earlier + n) is)
      ∙ ap₂ (λ taken left. found_between taken ++ shift_all (length earlier + k) (later left)) (take-past earlier ys k) (drop-past earlier ys k)

  outside-passes : (c : ℕ) → IsOutsideRuns m payloads.words c → has_worded_script m payloads.words NoScript c ≡ true
  outside-passes c outside = eq-eqb _ _ (ap script_number outside)

  one-more : (c : ℕ) (back : List ℕ) → IsOutsideRuns m payloads.words c → piece (c ∷ back) ≡ suc (piece back)
  one-more c back outside = rw (outside-passes c outside) (omega arith)

  module _ (before one other : ℕ) (first : IsOutsideRuns m payloads.words before) (second : IsOutsideRuns m payloads.words one)
      (third : IsOutsideRuns m payloads.words other) (certain : AreCertain (ByMachine m) before one other) where
    three-more : (back : List ℕ) → piece (before ∷ one ∷ other ∷ back) ≡ suc (suc (suc (piece back)))
    three-more back =
        one-more before (one ∷ other ∷ back) first ∙ ap suc (one-more one (other ∷ back) second ∙ ap suc (one-more other back third))

    -- what a piece goes on with behind the place
    by-rest : (back : List ℕ) → later (other ∷ back) ≡ found_between (other ∷ take (piece back) back) ++ shift_all (suc (piece back)) (later (drop (piece back) back))
    by-rest back =
        piece-first m payloads.words (span_boundaries m (boundaries_by payloads.clusters)) (later-nil (machine_stretch m)) (other ∷ back)
        ∙ ap (λ n. found_between (take n (other ∷ back)) ++ shift_all n (later (drop n (other ∷ back)))) (one-more other back third)

    -- where it is alone
    by-alone : (earlier : List ℕ) → piece earlier ≡ length earlier → later (earlier ++ before ∷ one ∷ other ∷ []) ≡ found_between (earlier ++ before ∷ one ∷ other ∷ [])
    by-alone earlier all =
        by-piece earlier (before ∷ one ∷ other ∷ []) 3 all (three-more [])
        ∙ ap (λ (none : List Boundary). found_between (earlier ++ before ∷ one ∷ other ∷ []) ++ shift_all (length earlier + 3) none) (later-nil (span_stretch m payloads))
        ∙ append-nil (found_between (earlier ++ before ∷ one ∷ other ∷ []))

    split-piece : (earlier taken : List ℕ) (front : List Boundary) (end : Boundary)
        → found_between (earlier ++ before ∷ one ∷ other ∷ []) ≡ front ++ end ∷ []
        → found_between (earlier ++ before ∷ one ∷ other ∷ taken) ≡ front ++ shift_all (length earlier + 2) (found_between (other ∷ taken))
    split-piece earlier taken front end ends =
        ap (λ (found : List Boundary). drop 1 found)
        (certain-splits m checked before one other certain earlier taken
        ∙ ap (λ (found : List Boundary). without_last (start ∷ found) ++ shift_all (length earlier + 2) (found_between (other ∷ taken))) ends
        ∙ ap (λ (found : List Boundary). found ++ shift_all (length earlier + 2) (found_between (other ∷ taken))) (last-off (start ∷ front) end))

    in-piece : (earlier back : List ℕ) → piece earlier ≡ length earlier
        → Parts m payloads (earlier ++ before ∷ one ∷ other ∷ back) (earlier ++ before ∷ one ∷ other ∷ []) (other ∷ back) (length earlier + 2)
    in-piece earlier back all =
        let alone : List ℕ = earlier ++ before ∷ one ∷ other ∷ [] in
        let k : ℕ = piece back in
        let taken : List ℕ = take k back in
        let rest : List Boundary = later (drop k back) in
        let place : ℕ = length earlier + 2 in
        let (front, end, ends) = ends-some (found_between alone) (length alone) (omega (arith, length-append earlier (before ∷ one ∷ other ∷ [])))
        (covers-list (machine_stretch m) (machine-within m checked) alone).1 in
        let whole = by-piece earlier (before ∷ one ∷ other ∷ back) (suc (suc (suc k))) all (three-more back) in
        let sum : length earlier + suc (suc (suc k)) ≡ place + suc k = omega arith in
        record {
          front = front;
          end = end;
          ends = by-alone earlier all ∙ ends;
          goes_on =
              whole
              ∙ ap₂ (λ (found : List Boundary) (n : ℕ). found ++ shift_all n rest) (split-piece earlier taken front end ends) sum
              ∙ append_assoc front (shift_all place (found_between (other ∷ taken))) (shift_all (place + suc k) rest)
              ∙ ap (λ (last : List Boundary). front ++ (shift_all place (found_between (other ∷ taken)) ++ last)) (sym (shifted-twice place (suc k) rest))
              ∙ ap (λ (found : List Boundary). front ++ found) (sym (shifted-append place (found_between (other ∷ taken)) (shift_all (suc k) rest)))
              ∙ ap (λ (found : List Boundary). front ++ shift_all place found) (sym (by-rest back));
          stands =
              subst (λ (later : List Boundary). Contains (offsets (start ∷ later)) place) (sym whole)
              (place-left (start ∷ found_between (earlier ++ before ∷ one ∷ other ∷ taken)) (shift_all (length earlier + suc (suc (suc k))) rest) place
              (certain-breaks m checked before one other certain earlier taken));
        }

    -- behind the first span, if it goes no further than up to the three
    between-behind : (most : ℕ) (x : ℕ) (earlier back : List ℕ) → length earlier ≤ most
        → ((left : List ℕ) → length left ≤ most → Parts m payloads (left ++ before ∷ one ∷ other ∷ back) (left ++ before ∷ one ∷ other ∷ []) (other ∷ back) (length left + 2))
        → ((ys : List ℕ) → span_length m payloads.words ((x ∷ earlier) ++ before ∷ ys) ≡ span_length m payloads.words (x ∷ earlier))
        → Parts m payloads ((x ∷ earlier) ++ before ∷ one ∷ other ∷ back) ((x ∷ earlier) ++ before ∷ one ∷ other ∷ []) (other ∷ back) (length (x ∷ earlier) + 2)
    between-behind most x earlier back bound behind ends =
        let n : ℕ = span_length m payloads.words (x ∷ earlier) in
        let inside = span-inside m payloads.words (x ∷ earlier) in
        let count = length-drop n (x ∷ earlier) in
        let fewer : length (drop n (x ∷ earlier)) ≤ most = omega (arith, bound, count, inside, span-some m payloads.words x earlier) in
        let place : n + (length (drop n (x ∷ earlier)) + 2) ≡ length (x ∷ earlier) + 2 = omega (arith, count, inside) in
        subst (λ place. Parts m payloads ((x ∷ earlier) ++ before ∷ one ∷ other ∷ back) ((x ∷ earlier) ++ before ∷ one ∷ other ∷ []) (other ∷ back) place) place
        (behind-span x earlier (before ∷ one ∷ other ∷ back) (before ∷ one ∷ other ∷ []) (other ∷ back) n (length (drop n (x ∷ earlier)) + 2) inside
        (ends (one ∷ other ∷ back)) (ends (one ∷ other ∷ [])) (behind (drop n (x ∷ earlier)) fewer))

    between-within : (most : ℕ) (earlier back : List ℕ) → length earlier ≤ most
        → Parts m payloads (earlier ++ before ∷ one ∷ other ∷ back) (earlier ++ before ∷ one ∷ other ∷ []) (other ∷ back) (length earlier + 2)
    between-within most [] back bound = in-piece [] back refl
    between-within zero (x ∷ earlier) back bound = absurd (omega arith)
    between-within (suc most) (x ∷ earlier) back bound =
        let inside = span-inside m payloads.words (x ∷ earlier) in
        let behind = between-behind most x earlier back (omega (arith, bound)) (λ left fewer. between-within most left back fewer) in
        elim (cases_lt (span_length m payloads.words (x ∷ earlier)) (length (x ∷ earlier))) [
          | inl less ↦ behind (λ ys. passes-some (has_worded_script m payloads.words (script x)) (x ∷ earlier) (before ∷ ys) less)
          | inr past ↦ on (has_worded_script m payloads.words (script x) before) refl (omega (arith, past, inside)) behind
        ]
      where
        on : (b : Bool) → has_worded_script m payloads.words (script x) before ≡ b → span_length m payloads.words (x ∷ earlier) ≡ length (x ∷ earlier)
            → (((ys : List ℕ) → span_length m payloads.words ((x ∷ earlier) ++ before ∷ ys) ≡ span_length m payloads.words (x ∷ earlier))
            → Parts m payloads ((x ∷ earlier) ++ before ∷ one ∷ other ∷ back) ((x ∷ earlier) ++ before ∷ one ∷ other ∷ []) (other ∷ back) (length (x ∷ earlier) + 2))
            → Parts m payloads ((x ∷ earlier) ++ before ∷ one ∷ other ∷ back) ((x ∷ earlier) ++ before ∷ one ∷ other ∷ []) (other ∷ back) (length (x ∷ earlier) + 2)
        on true here all behind =
            let is : script x ≡ NoScript = sym (same-number (script before) (script x) (eqb-true _ _ here)) ∙ first in
            in-piece (x ∷ earlier) back (sym (ap (λ (script : ComplexScript). prefix_len (has_worded_script m payloads.words script) (x ∷ earlier)) is) ∙ all)
        on false here all behind =
            behind
            (λ ys.
            let none : prefix_len (has_worded_script m payloads.words (script x)) (before ∷ ys) ≡ 0 = rw here refl in
            omega (arith, all, none, passes-all (has_worded_script m payloads.words (script x)) (x ∷ earlier) (before ∷ ys) all))

  -- ---- both

  module _ (before one other : ℕ) where
    parts : WordsAreCertainWith (ByMachine m) payloads.words before one other → (earlier back : List ℕ)
        → Parts m payloads (earlier ++ before ∷ one ∷ other ∷ back) (earlier ++ before ∷ one ∷ other ∷ []) (other ∷ back) (length earlier + 2)
    parts (inl edge) earlier back = edge-parts before one other edge earlier back
    parts (inr (first, second, third, certain)) earlier back =
        between-within before one other first second third certain (length earlier) earlier back (omega arith)

    break-by : WordsAreCertainWith (ByMachine m) payloads.words before one other
        → AlwaysBreaks (list_boundaries (stretch_by (ByMachine m) payloads)) before one other
    break-by certain earlier back = let found = parts certain earlier back in found.stands

    part-by : WordsAreCertainWith (ByMachine m) payloads.words before one other
        → SplitsBetween (list_boundaries (stretch_by (ByMachine m) payloads)) before one other
    part-by certain earlier back =
        let found = parts certain earlier back in
        let front : without_last (start ∷ later (earlier ++ before ∷ one ∷ other ∷ [])) ≡ start ∷ found.front =
        ap (λ (boundaries : List Boundary). without_last (start ∷ boundaries)) found.ends ∙ last-off (start ∷ found.front) found.end in
        ap (λ (boundaries : List Boundary). start ∷ boundaries) found.goes_on
        ∙ sym (ap (λ (boundaries : List Boundary). boundaries ++ shift_all (length earlier + 2) (later (other ∷ back))) front)

-- without dictionaries it tells whether a scan passes
pub certain-undivided : (m : Machine) (words : ScriptWords) → words ≡ no_words → (before one other : ℕ)
    → AreCertain (ByMachine m) before one other ↔ WordsAreCertainWith (ByMachine m) words before one other
certain-undivided m words none before one other =
    let outside : (c : ℕ) → IsOutsideRuns m words c = λ c. ap (λ (words : ScriptWords). worded_script m words c) none ∙ unworded m c in (
      λ certain. inr (outside before, outside one, outside other, certain),
      λ found. elim found [
        | inl edge ↦ absurd (edge (outside one ∙ sym (outside other)))
        | inr (first, second, third, certain) ↦ certain
      ],
    )

-- of rules that are a machine

module _ (words : WordRules) (m : Machine) (is : words.rules ≡ ByMachine m) (checked : IsChecked m) (cover : CoverPieces (piece_cuts_by words.payloads))
    (before one other : ℕ) where
  pub words-break : WordsAreCertain words before one other → AlwaysBreaks (word_boundaries_by words) before one other
  words-break =
      subst (λ (rules : Rules). WordsAreCertainWith rules words.payloads.words before one other → AlwaysBreaks (list_boundaries (stretch_by rules words.payloads)) before one other)
      (sym is) (break-by m words.payloads checked cover before one other)

  pub words-part : WordsAreCertain words before one other → SplitsBetween (word_boundaries_by words) before one other
  words-part =
      subst (λ (rules : Rules). WordsAreCertainWith rules words.payloads.words before one other → SplitsBetween (list_boundaries (stretch_by rules words.payloads)) before one other)
      (sym is) (part-by m words.payloads checked cover before one other)

  covers : (cs : List ℕ) → IsCover 0 (length cs) (word_boundaries_by words cs)
  covers cs =
      subst (λ (rules : Rules). IsCover 0 (length cs) (list_boundaries (stretch_by rules words.payloads) cs)) (sym is)
      (covers-list (span_stretch m words.payloads) (spans-within m words.payloads checked cover) cs)

  pub words-begin : WordsAreCertain words before one other → BeginsBetween (word_boundaries_by words) before one other
  words-begin certain = splits-begin (word_boundaries_by words) before one other covers (words-part certain)
