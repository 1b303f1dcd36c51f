-- Where marks aren't shown, it is the same which they are.
use Rattle.std.proofs.Common.{◌≡◌, ◌≢◌, ℕ, suc, false, Option, List, [], ◌∷◌, ◌++◌, Result, IfOk, length, refl, subst, ap, ◌∙◌}
use Rattle.std.specs.Io.KnownBytes.{Appends}
use Rattle.icu_segmenter.specs.Boundary.{Boundary}
use Rattle.icu_segmenter.specs.Boundaries.{offsets}
use Rattle.icu_segmenter.specs.TextSegments.{marked}
use Rattle.segment_output.specs.Output.{Look, later, line_at, line_in, lines_at, segments, unmarked}
use Rattle.segment_output.specs.declared.marks.Mark.{Mark}
use Rattle.segment_output.specs.declared.marks.Mark.TheVariants.{Unmarked}
use Rattle.segment_output.specs.declared.output.Style.{Style}
use Rattle.segment_output.specs.declared.output.Style.TheVariants.{Escaped, Raw, ZeroEnded, Json, Offsets, Counted}

same-line : (look : Look) (before : ℕ) (part : List ℕ) (from to : ℕ) (one other : Mark) → look.style ≢ Json
    → line_at look before part (record { from = from; to = to; mark = one }) ≡ line_at look before part (record { from = from; to = to; mark = other })
same-line look before part from to one other bare = on look.style bare
  where
    on : (style : Style) → style ≢ Json
        → line_in style look.file part (record { from = from; to = to; mark = one }) (later before (record { from = from; to = to; mark = one }))
        ≡ line_in style look.file part (record { from = from; to = to; mark = other }) (later before (record { from = from; to = to; mark = other }))
    on Escaped bare = refl
    on Raw bare = refl
    on ZeroEnded bare = refl
    on Json bare = absurd (bare refl)
    on Offsets bare = refl
    on (Counted numbers) bare = refl

module _ (other : ℕ → Mark) where
  same-count : (boundaries : List Boundary) → length (segments false (unmarked (offsets boundaries))) ≡ length (segments false (marked other boundaries))
  same-count [] = refl
  same-count (start ∷ []) = refl
  same-count (start ∷ end ∷ boundaries) = ap suc (same-count (end ∷ boundaries))

  module _ (look : Look) (before : ℕ) (part : List ℕ) (bare : look.style ≢ Json) where
    same-lines : (boundaries : List Boundary)
        → lines_at look before part (segments false (unmarked (offsets boundaries))) ≡ lines_at look before part (segments false (marked other boundaries))
    same-lines [] = refl
    same-lines (start ∷ []) = refl
    same-lines (start ∷ end ∷ boundaries) =
        ap (λ line. line ++ lines_at look before part (segments false (unmarked (offsets (end ∷ boundaries)))))
        (same-line look before part start.offset end.offset Unmarked (other end.status) bare)
        ∙ ap (λ lines. line_at look before part (record { from = start.offset; to = end.offset; mark = other end.status }) ++ lines) (same-lines (end ∷ boundaries))

    -- so what is printed by places alone is what is printed by any marks
    pub printed-bare : {E : Type 0} (boundaries : List Boundary) (places : List ℕ) → places ≡ offsets boundaries → (old new : Option (List ℕ)) (r : Result ℕ E)
        → IfOk r (λ count. (count ≡ length (segments false (unmarked places))) × Appends old new (lines_at look before part (segments false (unmarked places))))
        → IfOk r (λ count. (count ≡ length (segments false (marked other boundaries))) × Appends old new (lines_at look before part (segments false (marked other boundaries))))
    printed-bare boundaries places are old new r printed =
        rw (← same-count boundaries, ← same-lines boundaries)
        (subst (λ (found : List ℕ). IfOk r (λ count. (count ≡ length (segments false (unmarked found))) × Appends old new (lines_at look before part (segments false (unmarked found)))))
        are printed)
