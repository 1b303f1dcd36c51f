-- The boundaries that abbreviations leave.
use Rattle.std.proofs.Common.{◌≡◌, ℕ, Bool, true, false, List, [], ◌∷◌, refl, sym, ap, subst, ◌∙◌}
use Rattle.seg_text.specs.declared.boundary.Boundary.{Boundary}
use Rattle.seg_text.specs.Boundaries.{boundaries_in, offsets, IsCover}
use Rattle.seg_text.specs.Items.{IsRising, Text}
use Rattle.seg_data.specs.WordSets.{Words}
use Rattle.seg_segments.specs.Kept.{AreAscending, left_of, stays, IsLater}
use Rattle.seg_segments.specs.Suppression.{without_abbreviated}
use Rattle.seg_segments.proofs.Texts.{ascend-any, kept-later, left-covers, left-in}

-- ---- what is left

-- as many boundaries stay as did at the start
pub record IsLeft (words : Words) (joined : Bool) (text : Text) (boundaries owed : List Boundary) : Type 0 where
  pub left : owed ≡ left_of words joined text boundaries
  pub ascending : AreAscending (offsets boundaries)

pub left-none : (words : Words) (joined : Bool) (text : Text) (before after owed : List Boundary) → IsLeft words joined text before owed
    → (before ≡ []) × (after ≡ []) → (owed ≡ []) × (left_of words joined text after ≡ [])
left-none words joined text before after owed is none = (is.left ∙ ap (left_of words joined text) none.0, ap (left_of words joined text) none.1)

pub none-ascends : (boundaries : List Boundary) → boundaries ≡ [] → AreAscending (offsets boundaries)
none-ascends boundaries none = subst (λ (boundaries : List Boundary). AreAscending (offsets boundaries)) (sym none) tt

module _ (words : Words) (joined : Bool) (text : Text) (next : Bool) (rest : Text) (before after : List Boundary) (found : Boundary) (gives : before ≡ found ∷ after)
    (later : IsLater words found.offset joined text next rest) (owed : List Boundary) (is : IsLeft words joined text before owed) where
  ascends : AreAscending (found.offset ∷ offsets after)
  ascends = subst (λ (boundaries : List Boundary). AreAscending (offsets boundaries)) gives is.ascending

  same : left_of words joined text after ≡ left_of words next rest after
  same = sym (kept-later words found.offset joined text next rest after later ascends)

  all : owed ≡ left_of words joined text (found ∷ after)
  all = is.left ∙ ap (left_of words joined text) gives

  pub left-stays : stays words joined text found.offset ≡ true → owed ≡ found ∷ left_of words next rest after
  left-stays stays_is = all ∙ rw (stays_is, same) refl

  pub left-ascends : AreAscending (offsets after)
  left-ascends = ascend-any found.offset (offsets after) ascends

  pub left-goes : stays words joined text found.offset ≡ false → IsLeft words next rest after owed
  left-goes goes = record { left = all ∙ rw (goes, same) refl; ascending = left-ascends }

-- ---- all boundaries that stay

pub all-left : (words : Words) (find : List ℕ → List Boundary) (text start : Text) (found left : List Boundary) → IsRising start.items start.end → start ≡ text
    → found ≡ boundaries_in find text → left ≡ left_of words false start found → left ≡ boundaries_in (without_abbreviated words find) text
all-left words find text start found left rising same is kept =
    kept
    ∙ ap (left_of words false start) (is ∙ ap (boundaries_in find) (sym same))
    ∙ left-in words find start rising
    ∙ ap (boundaries_in (without_abbreviated words find)) same

pub all-cover : (words : Words) (text start : Text) (end : ℕ) (found left : List Boundary) → start ≡ text → text.end ≡ end → left ≡ left_of words false start found
    → IsCover 0 end found → IsCover 0 end left
all-cover words text start end found left same ends kept cover =
    subst (λ (boundaries : List Boundary). IsCover 0 end boundaries) (sym kept)
    (left-covers words start end found (ap (λ (text : Text). text.end) same ∙ ends) cover)
