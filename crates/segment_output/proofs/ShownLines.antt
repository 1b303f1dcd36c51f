-- One line more is written.
use Rattle.std.proofs.Common.{◌≡◌, ℕ, Option, Result, Ok, Err, OnOk, List, [], ◌∷◌, ◌++◌, map, sym, ap, ◌∙◌, append_assoc, append-nil}
use Rattle.std.proofs.lemmas.List.{map-append}
use Rattle.std.proofs.lemmas.Grind.{flat_map-append}
use Rattle.std.specs.List.{flat_map}
use Rattle.segment_output.specs.Gathered.{AreGathered}

-- what follows from what was done was done
pub on_ok : {T E : Type 0} (P Q : Type 0) (result : Result T E) → (P → Q) → OnOk result P → OnOk result Q
on_ok P Q (Ok done) on given = on given
on_ok P Q (Err error) on given = given

-- the bytes of lines that are seen through a view
module _ {X Y : Type 0} (bytes_of : Y → List ℕ) (view : X → Y) where
  pub bytes-more : (lines : List X) (line : X) → flat_map bytes_of (map view (lines ++ line ∷ [])) ≡ flat_map bytes_of (map view lines) ++ bytes_of (view line)
  bytes-more lines line =
      ap (λ (seen : List Y). flat_map bytes_of seen) (map-append view lines (line ∷ []))
      ∙ flat_map-append bytes_of (map view lines) (view line ∷ [])
      ∙ ap (λ (more : List ℕ). flat_map bytes_of (map view lines) ++ more) (append-nil (bytes_of (view line)))

  -- they are added to what was there
  pub added-more : (lines : List X) (line : X) (first before after : List ℕ)
      → before ≡ first ++ flat_map bytes_of (map view lines) → after ≡ before ++ bytes_of (view line)
      → after ≡ first ++ flat_map bytes_of (map view (lines ++ line ∷ []))
  added-more lines line first before after so_far more =
      more
      ∙ ap (λ (bytes : List ℕ). bytes ++ bytes_of (view line)) so_far
      ∙ append_assoc first (flat_map bytes_of (map view lines)) (bytes_of (view line))
      ∙ ap (λ (bytes : List ℕ). first ++ bytes) (sym (bytes-more lines line))

  -- they are gathered
  pub gathered-line : (lines : List X) (line : X) (before after : List ℕ) (old new : Option (List ℕ))
      → AreGathered old new before (flat_map bytes_of (map view lines)) → after ≡ before ++ bytes_of (view line)
      → AreGathered old new after (flat_map bytes_of (map view (lines ++ line ∷ [])))
  gathered-line lines line before after old new (written, appends, whole) more = (
    written,
    appends,
    ap (λ (bytes : List ℕ). written ++ bytes) more
        ∙ sym (append_assoc written before (bytes_of (view line)))
        ∙ ap (λ (bytes : List ℕ). bytes ++ bytes_of (view line)) whole
        ∙ sym (bytes-more lines line),
  )
