-- The pieces of the kit's cut end where its rule breaks.
use Rattle.std.proofs.Common.{◌≡◌, ℕ, suc, ◌+◌, ◌<◌, true, cond, if◌then◌else◌, List, [], ◌∷◌, ◌++◌, length, refl, sym, ap, ◌∙◌, append-nil, arith}
use Rattle.std.proofs.lemmas.Bool.{cond_both, cond-true, cond-false}
use Rattle.unicode_segmentation.specs.Segments.{Rule, cut, prepend}
use Rattle.icu_segmenter_uax29.specs.Pieces.{piece_ends}

-- the places after which a rule breaks, in code points
unfoldable pub break_places : Rule → List ℕ → ℕ → List ℕ → List ℕ
break_places rule before from [] = []
break_places rule before from (c ∷ cs) =
    let rest = break_places rule (c ∷ before) (suc from) cs in
    if rule (c ∷ before) cs then suc from ∷ rest else rest

some-prepend : (part : List ℕ) (pieces : List (List ℕ)) → 0 < length (prepend part pieces)
some-prepend part [] = omega arith
some-prepend part (piece ∷ pieces) = omega arith

some-cut : (rule : Rule) (before : List ℕ) (c : ℕ) (cs after : List ℕ) → 0 < length (cut rule before (c ∷ cs) after)
unfolding cut
some-cut rule before c cs after =
    let rest = cut rule (c ∷ before) cs after in
    cond_both (rule (c ∷ before) (cs ++ after)) ((c ∷ []) ∷ rest) (prepend (c ∷ []) rest) (λ pieces. 0 < length pieces)
    (λ _. omega arith) (λ _. some-prepend (c ∷ []) rest)

ends-prepend : (from c : ℕ) (pieces : List (List ℕ)) → 0 < length pieces → piece_ends from (prepend (c ∷ []) pieces) ≡ piece_ends (suc from) pieces
unfolding piece_ends
ends-prepend from c [] some = absurd (omega arith)
ends-prepend from c (piece ∷ pieces) some =
    let same : from + suc (length piece) ≡ suc from + length piece = omega arith in
    ap (λ n. n ∷ piece_ends n pieces) same

pub ends-cut : (rule : Rule) → ((c : ℕ) (before : List ℕ) → rule (c ∷ before) [] ≡ true) → (cs before : List ℕ) (from : ℕ)
    → piece_ends from (cut rule before cs []) ≡ break_places rule before from cs
unfolding cut piece_ends break_places
ends-cut rule last [] before from = refl
ends-cut rule last (c ∷ []) before from =
    let one : from + 1 ≡ suc from = omega arith in
    ap (λ b. piece_ends from (cond b ((c ∷ []) ∷ []) (prepend (c ∷ []) []))) (last c before)
    ∙ ap (λ n. n ∷ []) one
    ∙ sym (ap (λ b. cond b (suc from ∷ []) []) (last c before))
ends-cut rule last (c ∷ (d ∷ ds)) before from =
    let rest = cut rule (c ∷ before) (d ∷ ds) [] in
    let later = ends-cut rule last (d ∷ ds) (c ∷ before) (suc from) in
    let one : from + 1 ≡ suc from = omega arith in
    let b = rule (c ∷ before) (d ∷ ds) in
    ap (λ cs. piece_ends from (cond (rule (c ∷ before) cs) ((c ∷ []) ∷ rest) (prepend (c ∷ []) rest))) (append-nil (d ∷ ds))
    ∙ cond_both b ((c ∷ []) ∷ rest) (prepend (c ∷ []) rest)
    (λ pieces. piece_ends from pieces ≡ cond b (suc from ∷ break_places rule (c ∷ before) (suc from) (d ∷ ds)) (break_places rule (c ∷ before) (suc from) (d ∷ ds)))
    (λ here. ap (λ n. n ∷ piece_ends n rest) one ∙ ap (λ ns. suc from ∷ ns) later ∙ sym (cond-true _ _ _ here))
    (λ not_here. ends-prepend from c rest (some-cut rule (c ∷ before) d ds []) ∙ later ∙ sym (cond-false _ _ _ not_here))
