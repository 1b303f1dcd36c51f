-- Lines that are gathered, and then written.
use Rattle.std.proofs.Common.{◌≡◌, ℕ, Option, List, [], ◌∷◌, ◌++◌, refl, sym, ap, ◌∙◌, ◌+◌, length, append_assoc, append-nil}
use Rattle.std.proofs.lemmas.List.{length-append}
use Rattle.std.proofs.lemmas.List.Concat.{flat_map-append}
use Rattle.std.proofs.KnownBytes.{Appends-nil, Appends-trans}
use Rattle.std.specs.Io.KnownBytes.{Appends}
use Rattle.std.specs.List.{flat_map}
use Rattle.segment_output.specs.Gathered.{AreGathered}
use Rattle.segment_output.specs.Output.{Segment}

-- none yet
pub gathered-none : (old : Option (List ℕ)) → AreGathered old old [] []
gathered-none old = ([], Appends-nil old, refl)

-- one line more, with what was written meanwhile
pub gathered-one : (line : Segment → List ℕ) (done all : List Segment) (segment : Segment) (lines added : List ℕ) (old mid new : Option (List ℕ))
    → all ≡ done ++ segment ∷ [] → AreGathered old mid lines (flat_map line done) → AreGathered mid new added (lines ++ line segment)
    → AreGathered old new added (flat_map line all)
gathered-one line done all segment lines added old mid new is (written, before, whole) (others, after, more) = (
  written ++ others,
  Appends-trans old mid new written others before after,
  append_assoc written others added
      ∙ ap (λ bytes. written ++ bytes) more
      ∙ sym (append_assoc written lines (line segment))
      ∙ ap (λ bytes. bytes ++ line segment) whole
      ∙ ap (λ bytes. flat_map line done ++ bytes) (sym (append-nil (line segment)))
      ∙ sym (flat_map-append line done (segment ∷ []))
      ∙ ap (λ found. flat_map line found) (sym is),
)

-- and with nothing written
pub gathered-same : (lines added : List ℕ) (old : Option (List ℕ)) → added ≡ lines → AreGathered old old added lines
gathered-same lines added old same = ([], Appends-nil old, same)

-- what is gathered is written
pub gathered-written : (lines left all : List ℕ) (old mid new : Option (List ℕ)) → AreGathered old mid lines all → (left ≡ []) × Appends mid new lines
    → AreGathered old new left all
gathered-written lines left all old mid new (written, before, whole) (none, after) =
    (written ++ lines, Appends-trans old mid new written lines before after, rw none (append-nil (written ++ lines) ∙ whole))

pub gathered-all : (lines all : List ℕ) (old mid new : Option (List ℕ)) → AreGathered old mid lines all → Appends mid new lines → Appends old new all
gathered-all lines all old mid new (written, before, whole) after = rw (← whole) (Appends-trans old mid new written lines before after)

-- more are counted
pub count-more : {X : Type 0} (done more : List X) (all : List X) (before after : ℕ) → all ≡ done ++ more → before ≡ length done → after ≡ before + length more
    → after ≡ length all
count-more done more all before after is counted added =
    added ∙ ap (λ (n : ℕ). n + length more) counted ∙ sym (length-append done more) ∙ ap (λ xs. length xs) (sym is)
