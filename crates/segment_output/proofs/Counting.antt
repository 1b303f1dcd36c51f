-- Segments that are only counted have no lines.
use Rattle.std.proofs.Common.{◌≡◌, ℕ, Bool, Option, Result, Ok, Err, IfOk, List, [], ◌∷◌, ◌++◌, length, refl, sym, ap₂, subst}
use Rattle.std.specs.Io.KnownBytes.{Appends}
use Rattle.std.proofs.KnownBytes.{Appends-nil}
use Rattle.segment_text.specs.declared.counts.AskedCounts.{AskedCounts}
use Rattle.segment_output.specs.Output.{Look, Segment, later, line_in, lines_at, segments}
use Rattle.segment_output.specs.declared.marks.Mark.{Mark}
use Rattle.segment_output.specs.declared.output.Style.{Style}
use Rattle.segment_output.specs.declared.output.Style.TheVariants.{Counted}

no-line : (style : Style) (numbers : AskedCounts) → style ≡ Counted numbers → (file : Option (List ℕ)) (text : List ℕ) (segment shown : Segment)
    → line_in style file text segment shown ≡ []
no-line style numbers is file text segment shown = rw is refl

module _ (look : Look) (before : ℕ) (part : List ℕ) (numbers : AskedCounts) (is : look.style ≡ Counted numbers) where
  no-lines : (found : List Segment) → lines_at look before part found ≡ []
  no-lines [] = refl
  no-lines (one ∷ found) = ap₂ (λ (line lines : List ℕ). line ++ lines) (no-line look.style numbers is look.file part one (later before one)) (no-lines found)

  -- so they are written where nothing is
  pub counted : {E : Type 0} (alone : Bool) (Gives : List (ℕ × Mark) → Type 0) (old : Option (List ℕ)) (r : Result ℕ E)
      → IfOk r (λ count. (given : List (ℕ × Mark)) × Gives given × (count ≡ length (segments alone given)))
      → IfOk r (λ count. (given : List (ℕ × Mark)) × Gives given × (count ≡ length (segments alone given)) × Appends old old (lines_at look before part (segments alone given)))
  counted alone Gives old (Ok count) (given, gives, counts) =
      (given, gives, counts, subst (λ (lines : List ℕ). Appends old old lines) (sym (no-lines (segments alone given))) (Appends-nil old))
  counted alone Gives old (Err fault) found = tt
