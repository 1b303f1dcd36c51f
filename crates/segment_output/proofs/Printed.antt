-- What is printed of an iterator that says what it has left.
use Rattle.std.proofs.Common.{◌≡◌, ℕ, Bool, List, None, Option, Result, Ok, Err, IfOk, length, subst}
use Rattle.std.specs.Iterator.{YieldsFirst, YieldsThen}
use Rattle.std.specs.Io.KnownBytes.{Appends}
use Rattle.icu_segmenter.specs.Boundary.{Boundary}
use Rattle.icu_segmenter.specs.TextSegments.{marked}
use Rattle.icu_segmenter.proofs.Callers.{given-is_left}
use Rattle.segment_output.specs.Output.{Segment, segments, shown_boundaries}
use Rattle.segment_output.specs.declared.marks.Mark.{Mark}

-- these are the segments between all that was left
pub lines-are_left : {S A E : Type 0} (left : S → List A) (cut : List A → List Segment) (lines : List Segment → List ℕ)
    (s t : S) (all : List A) (old new : Option (List ℕ)) (r : Result ℕ E)
    → IfOk r (λ count. (given : List A) × YieldsThen (YieldsFirst left) s given None t × (count ≡ length (cut given)) × Appends old new (lines (cut given)))
    → left s ≡ all → IfOk r (λ count. (count ≡ length (cut all)) × Appends old new (lines (cut all)))
lines-are_left left cut lines s t all old new (Err e) printed is_all = tt
lines-are_left left cut lines s t all old new (Ok count) (given, drains, counted, appends) is_all =
    rw (← is_all, ← given-is_left left s given (t, drains)) (counted, appends)

-- boundaries that are these, up to a limit
pub all-printed : {E : Type 0} (admits : ℕ → Bool) (alone : Bool) (mark : ℕ → Mark) (lines : List Segment → List ℕ) (left all : List Boundary) (old new : Option (List ℕ)) (r : Result ℕ E) → left ≡ all
    → IfOk r (λ count. (count ≡ length (segments alone (marked mark (shown_boundaries admits left)))) × Appends old new (lines (segments alone (marked mark (shown_boundaries admits left)))))
    → IfOk r (λ count. (count ≡ length (segments alone (marked mark (shown_boundaries admits all)))) × Appends old new (lines (segments alone (marked mark (shown_boundaries admits all)))))
all-printed admits alone mark lines left all old new r is printed =
    subst (λ (all : List Boundary). IfOk r (λ count. (count ≡ length (segments alone (marked mark (shown_boundaries admits all)))) × Appends old new (lines (segments alone (marked mark (shown_boundaries admits all)))))) is printed
