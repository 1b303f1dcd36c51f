-- The cuts of a piece by a set of words: the only ones that the words and the clusters tell, and they cover the piece.
use Rattle.std.proofs.Common.{◌≡◌, ℕ, zero, suc, ◌+◌, ◌<◌, ◌≤◌, ◌⊎◌, inl, inr, List, [], ◌∷◌, length, map, drop, Contains, refl, sym, ap, ◌∙◌, subst, arith}
use Rattle.std.specs.Prelude.{Option, None, Some}
use Rattle.std.proofs.lemmas.Bool.{cases_lt}
use Rattle.std.proofs.lemmas.List.{drop-drop, length-drop, drop_all}
use Rattle.seg_text.specs.declared.boundary.Boundary.{Boundary}
use Rattle.seg_text.specs.Items.{Item, Text, start_of, rest_after, code_points}
use Rattle.seg_text.specs.Boundaries.{boundary, shift_all, offsets, IsCover, HasRestart, cut_places, later_boundaries, HasProgress, IsWithin}
use Rattle.seg_text.proofs.Covers.{covers-list}
use Rattle.seg_text.proofs.Stretches.{later-nil, later-next, text-later-next, text-later-nil}
use Rattle.seg_data.specs.declared.provider.ComplexScript.{ComplexScript}
use Rattle.seg_data.specs.WordSets.{Words}
use Rattle.seg_clusters.specs.Scripts.{CoverPieces}
use Rattle.seg_clusters.specs.DictionaryCuts.{Clusters, IsNextCut, AreCutsAfter, AreDictionaryCuts, first_cut, next_cut, cut_stretch, dictionary_cuts, by_words, by_dictionaries}
use Rattle.seg_clusters.proofs.Cutting.{offsets-rise, places-offsets, at_end-covers}
use Rattle.seg_clusters.proofs.NextCuts.{Rises, next-one, next-other, next-ends, next-some, rising-within, last-among, first-is}
use Rattle.seg_clusters.proofs.Reading.{cut-some}
use Rattle.seg_clusters.proofs.Restarted.{AreEnds, covered-ends, start-among, rest-to, rest-from}

-- offsets so much later
abbrev later_by : ℕ → List ℕ → List ℕ
later_by before offsets = map (λ n. before + n) offsets

offsets-shifted : (before : ℕ) (boundaries : List Boundary) → offsets (shift_all before boundaries) ≡ later_by before (offsets boundaries)
offsets-shifted before [] = refl
offsets-shifted before (boundary ∷ boundaries) = ap (λ (rest : List ℕ). (before + boundary.offset) ∷ rest) (offsets-shifted before boundaries)

later-twice : (n m : ℕ) (offsets : List ℕ) → later_by n (later_by m offsets) ≡ later_by (n + m) offsets
later-twice n m [] = refl
later-twice n m (offset ∷ offsets) = let sum : n + (m + offset) ≡ (n + m) + offset = omega arith in rw (sum, later-twice n m offsets) refl

later-none : (offsets : List ℕ) → later_by 0 offsets ≡ offsets
later-none [] = refl
later-none (offset ∷ offsets) = let none : 0 + offset ≡ offset = omega arith in rw (none, later-none offsets) refl

progress : (words : Words) (clusters : Clusters) → HasProgress (cut_stretch words clusters)
progress words clusters first rest = cut-some words (offsets (clusters (first ∷ rest))) first rest

cuts-nil : (words : Words) (clusters : Clusters) → dictionary_cuts words clusters [] ≡ []
cuts-nil words clusters = ap offsets (later-nil (cut_stretch words clusters))

-- the first cut, and those of what is left
cuts-next : (words : Words) (clusters : Clusters) (first : ℕ) (rest : List ℕ)
    → let cut = next_cut words clusters (first ∷ rest) in
    dictionary_cuts words clusters (first ∷ rest) ≡ cut ∷ later_by cut (dictionary_cuts words clusters (drop cut (first ∷ rest)))
cuts-next words clusters first rest =
    let cut = next_cut words clusters (first ∷ rest) in
    ap offsets (later-next (cut_stretch words clusters) (progress words clusters) first rest)
    ∙ ap (λ (others : List ℕ). cut ∷ others) (offsets-shifted cut (later_boundaries (cut_stretch words clusters) (drop cut (first ∷ rest))))

-- places

pub places-nil : (words : Words) (clusters : Clusters) (text : Text) → text.items ≡ [] → cut_places (dictionary_cuts words clusters) text ≡ []
places-nil words clusters text none =
    ap (λ (items : List Item). cut_places (dictionary_cuts words clusters) (record { items = items; end = text.end })) none
    ∙ places-offsets (record { items = []; end = text.end }) (later_boundaries (cut_stretch words clusters) [])
    ∙ ap offsets (text-later-nil (cut_stretch words clusters) text.end)

next-at : (words : Words) (clusters : Clusters) (items : List Item) (end place : ℕ) (after : Text)
    → let text : Text = record { items = items; end = end } in let left = rest_after (next_cut words clusters (code_points items)) text in
    (items ≡ [] → ⊥) → place ≡ start_of left → after ≡ left
    → cut_places (dictionary_cuts words clusters) text ≡ place ∷ cut_places (dictionary_cuts words clusters) after
next-at words clusters [] end place after some is left = absurd (some refl)
next-at words clusters (item ∷ items) end place after some is left =
    let text : Text = record { items = item ∷ items; end = end } in
    let first = cut_stretch words clusters in
    let rest = rest_after (next_cut words clusters (code_points (item ∷ items))) text in
    places-offsets text (later_boundaries first (code_points (item ∷ items)))
    ∙ ap offsets (text-later-next first (progress words clusters) item items end)
    ∙ ap (λ (others : List ℕ). start_of rest ∷ others) (sym (places-offsets rest (later_boundaries first (code_points rest.items))))
    ∙ ap (λ place. place ∷ cut_places (dictionary_cuts words clusters) rest) (sym is)
    ∙ ap (λ (after : Text). place ∷ cut_places (dictionary_cuts words clusters) after) (sym left)

pub places-next : (words : Words) (clusters : Clusters) (before after : Text) (place : ℕ) → (before.items ≡ [] → ⊥)
    → place ≡ start_of (rest_after (next_cut words clusters (code_points before.items)) before)
    → after ≡ rest_after (next_cut words clusters (code_points before.items)) before
    → cut_places (dictionary_cuts words clusters) before ≡ place ∷ cut_places (dictionary_cuts words clusters) after
places-next words clusters before after place some is left = next-at words clusters before.items before.end place after some is left

-- what is told, and what is computed

module _ (words : Words) (clusters : Clusters) (cover : (xs : List ℕ) → IsCover 0 (length xs) (clusters xs)) where
  ends-of : (xs : List ℕ) → AreEnds (offsets (clusters xs)) (length xs)
  ends-of xs = covered-ends (clusters xs) (length xs) (cover xs)

  within : (xs : List ℕ) (n : ℕ) → Contains (offsets (clusters xs)) n → n ≤ length xs
  within xs n among =
      let ends = ends-of xs in
      rising-within 0 (length xs) ends.later ends.rises n (subst (λ (ends : List ℕ). Contains ends n) ends.is among)

  last : (xs : List ℕ) → Contains (offsets (clusters xs)) (length xs)
  last xs =
      let ends = ends-of xs in
      subst (λ (ends : List ℕ). Contains ends (length xs)) (sym ends.is) (last-among 0 (length xs) ends.later ends.rises)

  next-is : (xs : List ℕ) → 0 < length xs → IsNextCut words (λ n. Contains (offsets (clusters xs)) n) xs (next_cut words clusters xs)
  next-is xs some =
      let ends = ends-of xs in
      subst (λ (ends : List ℕ). IsNextCut words (λ n. Contains ends n) xs (first_cut words ends xs)) (sym ends.is)
      (first-is words ends.later xs ends.rises some)

  next-within : (xs : List ℕ) → 0 < length xs → next_cut words clusters xs ≤ length xs
  next-within xs some =
      within xs (next_cut words clusters xs) (next-ends words (λ n. Contains (offsets (clusters xs)) n) xs (next_cut words clusters xs) (last xs) (next-is xs some))

  stretch-within : (first : ℕ) (rest : List ℕ) → IsWithin (length (first ∷ rest)) (cut_stretch words clusters (first ∷ rest))
  stretch-within first rest =
      let cut = next_cut words clusters (first ∷ rest) in
      let some : 0 < cut = cut-some words (offsets (clusters (first ∷ rest))) first rest in
      record { some = some; within = next-within (first ∷ rest) (omega arith); rises = (cut, omega arith, (some, refl)); last = λ all. (some, refl) }

  pub dictionary-covers : (piece : List ℕ) → Rises 0 (dictionary_cuts words clusters piece) (length piece)
  dictionary-covers piece =
      offsets-rise (later_boundaries (cut_stretch words clusters) piece) 0 (length piece) (covers-list (cut_stretch words clusters) stretch-within piece).1

  module _ (restart : HasRestart clusters) (piece : List ℕ) where
    abbrev cuts_after : ℕ → List ℕ
    cuts_after from = later_by from (dictionary_cuts words clusters (drop from piece))

    abbrev next_after : ℕ → ℕ
    next_after from = next_cut words clusters (drop from piece)

    abbrev Ends : ℕ → ℕ → Type 0
    Ends from n = Contains (offsets (clusters piece)) (from + n)

    left : (from : ℕ) → from < length piece → 0 < length (drop from piece)
    left from before = omega (arith, length-drop from piece, before)

    -- the next cut of a piece is that of what is left of it, taken alone
    next-after : (from : ℕ) → Contains (offsets (clusters piece)) from → from < length piece → IsNextCut words (Ends from) (drop from piece) (next_after from)
    next-after from among before =
        next-other words (λ n. Contains (offsets (clusters (drop from piece))) n) (Ends from) (drop from piece)
        (rest-from clusters cover restart piece from among) (rest-to clusters cover restart piece from among)
        (next_after from) (next-is (drop from piece) (left from before))

    ends-after : (from : ℕ) → Contains (offsets (clusters piece)) from → from < length piece → Contains (offsets (clusters piece)) (from + next_after from)
    ends-after from among before =
        next-ends words (Ends from) (drop from piece) (next_after from)
        (rest-from clusters cover restart piece from among (length (drop from piece)) (last (drop from piece))) (next-after from among before)

    unrolled : (from : ℕ) → from < length piece → cuts_after from ≡ (from + next_after from) ∷ cuts_after (from + next_after from)
    unrolled from before = on (drop from piece) refl
      where
        on : (rest : List ℕ) → drop from piece ≡ rest → cuts_after from ≡ (from + next_after from) ∷ cuts_after (from + next_after from)
        on [] is = absurd (omega (arith, length-drop from piece, ap length is, before))
        on (first ∷ rest) is =
            let cut = next_cut words clusters (first ∷ rest) in
            rw (← drop-drop (next_after from) from piece, is)
            (ap (later_by from) (cuts-next words clusters first rest)
            ∙ ap (λ (others : List ℕ). (from + cut) ∷ others) (later-twice from cut (dictionary_cuts words clusters (drop cut (first ∷ rest)))))

    nothing-after : (from : ℕ) → length piece ≤ from → cuts_after from ≡ []
    nothing-after from past = rw (drop_all from piece past) (ap (later_by from) (cuts-nil words clusters))

    start : Contains (offsets (clusters piece)) 0
    start = start-among (clusters piece) (length piece) (cover piece)

    at-end : (from : ℕ) → Contains (offsets (clusters piece)) from → length piece ≤ from
        → AreCutsAfter words (offsets (clusters piece)) piece from (cuts_after from)
    at-end from among past =
        let end : from ≡ length piece = omega (arith, past, within piece from among) in
        subst (λ (cuts : List ℕ). AreCutsAfter words (offsets (clusters piece)) piece from cuts) (sym (nothing-after from past)) end

    are-after : (most from : ℕ) → length piece ≤ from + most → Contains (offsets (clusters piece)) from
        → AreCutsAfter words (offsets (clusters piece)) piece from (cuts_after from)
    are-after zero from enough among = at-end from among (omega (arith, enough))
    are-after (suc most) from enough among =
        on (cases_lt from (length piece)) (λ before. are-after most (from + next_after from) (fewer before) (ends-after from among before))
      where
        fewer : from < length piece → length piece ≤ (from + next_after from) + most
        fewer before =
            let some = next-some words (Ends from) (drop from piece) (next_after from) (left from before) (next-after from among before) in
            omega (arith, enough, some)

        on : (from < length piece) ⊎ (length piece ≤ from)
            → (from < length piece → AreCutsAfter words (offsets (clusters piece)) piece (from + next_after from) (cuts_after (from + next_after from)))
            → AreCutsAfter words (offsets (clusters piece)) piece from (cuts_after from)
        on (inl before) more =
            subst (λ (cuts : List ℕ). AreCutsAfter words (offsets (clusters piece)) piece from cuts) (sym (unrolled from before))
            (before, (next_after from, (refl, next-after from among before)), more before)
        on (inr past) more = at-end from among past

    only-after : (found : List ℕ) (from : ℕ) → Contains (offsets (clusters piece)) from → AreCutsAfter words (offsets (clusters piece)) piece from found
        → found ≡ cuts_after from
    only-after [] from among are = sym (nothing-after from (omega (arith, are)))
    only-after (cut ∷ found) from among (before, (taken, (is, next)), are) =
        let same : taken ≡ next_after from = next-one words (Ends from) (drop from piece) taken (next_after from) next (next-after from among before) in
        let here : cut ≡ from + next_after from = is ∙ ap (λ n. from + n) same in
        let there = only-after found cut (subst (λ n. Contains (offsets (clusters piece)) n) (sym here) (ends-after from among before)) are in
        ap (λ (rest : List ℕ). cut ∷ rest) there ∙ ap (λ n. n ∷ cuts_after n) here ∙ sym (unrolled from before)

    pub are-cuts : AreDictionaryCuts words clusters piece (dictionary_cuts words clusters piece)
    are-cuts =
        subst (λ (cuts : List ℕ). AreCutsAfter words (offsets (clusters piece)) piece 0 cuts) (later-none (dictionary_cuts words clusters piece))
        (are-after (length piece) 0 (omega arith) start)

    pub only-cuts : (found : List ℕ) → AreDictionaryCuts words clusters piece found → found ≡ dictionary_cuts words clusters piece
    only-cuts found are = only-after found 0 start are ∙ later-none (dictionary_cuts words clusters piece)

-- each piece by the words of its script
pub dictionaries-cover : (clusters : Clusters) → ((xs : List ℕ) → IsCover 0 (length xs) (clusters xs)) → (dictionaries : ComplexScript → Option Words)
    → CoverPieces (by_dictionaries dictionaries clusters)
dictionaries-cover clusters cover dictionaries script first rest = on (dictionaries script)
  where
    on : (found : Option Words) → Rises 0 (by_words found clusters script (first ∷ rest)) (length (first ∷ rest))
    on None = at_end-covers script first rest
    on (Some words) = dictionary-covers words clusters cover (first ∷ rest)
