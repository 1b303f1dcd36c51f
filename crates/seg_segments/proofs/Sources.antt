-- The boundaries of sentences of a whole text, as abbreviations take them.
use Rattle.std.proofs.Common.{◌≡◌, ℕ, List, length, sym, ap, ap₂, subst, ◌∙◌}
use Rattle.seg_text.specs.declared.boundary.Boundary.{Boundary}
use Rattle.seg_text.specs.Boundaries.{boundaries_in, IsCover}
use Rattle.seg_text.specs.Items.{Text, start_of}
use Rattle.seg_data.specs.WordSets.{Words}
use Rattle.seg_clusters.specs.Rules.{Rules, boundaries_by}
use Rattle.seg_segments.specs.Suppression.{without_abbreviated}

-- a cursor at the start of a text that stands in some units
pub record IsOf {C : Type 0} (text : C → Text) (units : C → List ℕ) (decode : List ℕ → Text) (input : List ℕ) (cursor : C) : Type 0 where
  pub text_is : text cursor ≡ decode input
  pub units_are : units cursor ≡ input
  pub start : start_of (decode input) ≡ 0
  pub end : (decode input).end ≡ length input

-- boundaries that cover the text cover its units
pub cover-of : (decode : List ℕ → Text) (input : List ℕ) (whole : Text) (left : List Boundary) → whole ≡ decode input → start_of (decode input) ≡ 0
    → (decode input).end ≡ length input → IsCover (start_of whole) whole.end left → IsCover 0 (length input) left
cover-of decode input whole left is start end cover =
    subst (λ (last : ℕ). IsCover 0 last left) end
    (subst (λ (first : ℕ). IsCover first (decode input).end left) start (subst (λ (text : Text). IsCover (start_of text) text.end left) is cover))

module _ {C : Type 0} (text : C → Text) (units : C → List ℕ) (decode : List ℕ → Text) (input : List ℕ) (cursor : C) where
  pub found-by : (finder rules : Rules) (source : C) (left : List Boundary) → IsOf text units decode input cursor → left ≡ boundaries_in (boundaries_by rules) (text cursor)
      → finder ≡ rules → source ≡ cursor → left ≡ boundaries_in (boundaries_by finder) (decode (units source))
  found-by finder rules source left of is same from =
      is
      ∙ ap₂ (λ (rules : Rules) (text : Text). boundaries_in (boundaries_by rules) text) (sym same) (of.text_is ∙ sym (ap decode (ap units from ∙ of.units_are)))

  pub cover-by : (source : C) (left : List Boundary) → IsOf text units decode input cursor → IsCover (start_of (text cursor)) (text cursor).end left
      → source ≡ cursor → IsCover 0 (length (units source)) left
  cover-by source left of cover from =
      subst (λ (units : List ℕ). IsCover 0 (length units) left) (sym (ap units from ∙ of.units_are))
      (cover-of decode input (text cursor) left of.text_is of.start of.end cover)

  pub start-by : (source : C) → IsOf text units decode input cursor → source ≡ cursor → text source ≡ decode (units source)
  start-by source of from = ap text from ∙ of.text_is ∙ sym (ap decode (ap units from ∙ of.units_are))

  pub end-by : (source : C) → IsOf text units decode input cursor → source ≡ cursor → (decode (units source)).end ≡ length (units source)
  end-by source of from = subst (λ (units : List ℕ). (decode units).end ≡ length units) (sym (ap units from ∙ of.units_are)) of.end

  pub left-by : (words : Words) (finder rules : Rules) (source : C) (left : List Boundary) → IsOf text units decode input cursor
      → left ≡ boundaries_in (without_abbreviated words (boundaries_by finder)) (decode (units source)) → finder ≡ rules → source ≡ cursor
      → left ≡ boundaries_in (without_abbreviated words (boundaries_by rules)) (decode input)
  left-by words finder rules source left of is same from =
      is
      ∙ ap₂ (λ (rules : Rules) (units : List ℕ). boundaries_in (without_abbreviated words (boundaries_by rules)) (decode units)) same (ap units from ∙ of.units_are)

  pub covered-by : (source : C) (left : List Boundary) → IsOf text units decode input cursor → IsCover 0 (length (units source)) left → source ≡ cursor
      → IsCover 0 (length input) left
  covered-by source left of cover from = subst (λ (units : List ℕ). IsCover 0 (length units) left) (ap units from ∙ of.units_are) cover
