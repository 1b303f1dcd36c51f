-- The elements of a text of lines, and its units.
use Rattle.std.proofs.Common.{◌≡◌, ℕ, suc, Bool, true, false, List, [], ◌∷◌, refl, sym, ap, ◌∙◌, subst}
use Rattle.std.proofs.lemmas.List.{length-map}
use Rattle.seg_text.specs.Items.{Item}
use Rattle.seg_pairs.specs.Elements.{place_at}
use Rattle.seg_pairs.specs.Verdict.{Verdict, TakesOf, IsForward}
use Rattle.seg_line_pairs.specs.declared.engines.LineEngine.TheVariants.{Classic}
use Rattle.seg_line_pairs.specs.LineRules.{TableRules, line_class}
use Rattle.seg_line_pairs.specs.LineUnits.{UnitElement, LineUnit, is_glued, unit_seen, units_seen, base_element, base_of, marked_element, elements_from}

-- a verdict on units, of elements that are seen as units
pub on-units : (v : List LineUnit → Verdict) → IsForward v → IsForward (λ (elements : List UnitElement). v (units_seen elements))
on-units v forward x xs = subst (λ n. TakesOf (suc n) (v (units_seen (x ∷ xs)))) (length-map xs unit_seen) (forward (unit_seen x) (units_seen xs))

module _ (rules : TableRules Classic) where
  pub from-glued : (element : UnitElement) (item : Item) (items : List Item) → is_glued Classic element.class (line_class rules item.1) ≡ true
      → elements_from rules element (item ∷ items) ≡ elements_from rules (marked_element element (line_class rules item.1)) items
  unfolding elements_from
  from-glued element item items glued = rw glued refl

  pub from-base : (element : UnitElement) (item : Item) (items : List Item) → is_glued Classic element.class (line_class rules item.1) ≡ false
      → elements_from rules element (item ∷ items) ≡ element ∷ elements_from rules (base_of rules item) items
  unfolding elements_from
  from-base element item items other = rw other refl

  pub from-none : (element : UnitElement) → elements_from rules element [] ≡ element ∷ []
  unfolding elements_from
  from-none element = refl

  -- the first element begins where its base does
  pub from-place : (element : UnitElement) (items : List Item) (end : ℕ) → place_at (elements_from rules element items) end ≡ element.place
  unfolding elements_from
  from-place element [] end = refl
  from-place element (item ∷ items) end =
      on (is_glued Classic element.class (line_class rules item.1)) refl (from-place (marked_element element (line_class rules item.1)) items end)
    where
      on : (b : Bool) → is_glued Classic element.class (line_class rules item.1) ≡ b
          → place_at (elements_from rules (marked_element element (line_class rules item.1)) items) end ≡ element.place
          → place_at (elements_from rules element (item ∷ items)) end ≡ element.place
      on true glued later = rw glued later
      on false glued later = rw glued refl

  -- a unit that is being read: what it and the items after it give is what is owed

  pub unit-ends : (base unit : UnitElement) (whole items : List Item) → elements_from rules unit items ≡ elements_from rules base whole → items ≡ []
      → elements_from rules base whole ≡ unit ∷ []
  unit-ends base unit whole items same none = sym same ∙ ap (elements_from rules unit) none ∙ from-none unit

  pub unit-stops : (base unit next : UnitElement) (whole items after : List Item) (item : Item) (class : ℕ) → elements_from rules unit items ≡ elements_from rules base whole
      → items ≡ item ∷ after → class ≡ line_class rules item.1 → is_glued Classic unit.class class ≡ false → next ≡ base_element item.0 item.1 class
      → elements_from rules base whole ≡ unit ∷ elements_from rules next after
  unit-stops base unit next whole items after item class same is class_is other next_is =
      sym same ∙ ap (elements_from rules unit) is
      ∙ from-base unit item after (ap (is_glued Classic unit.class) (sym class_is) ∙ other)
      ∙ ap (λ (next : UnitElement). unit ∷ elements_from rules next after) (sym (next_is ∙ ap (base_element item.0 item.1) class_is))

  pub unit-goes : (base unit marked : UnitElement) (whole items after : List Item) (item : Item) (class : ℕ) → elements_from rules unit items ≡ elements_from rules base whole
      → items ≡ item ∷ after → class ≡ line_class rules item.1 → is_glued Classic unit.class class ≡ true → marked ≡ marked_element unit class
      → elements_from rules marked after ≡ elements_from rules base whole
  unit-goes base unit marked whole items after item class same is class_is glued marked_is =
      ap (λ (marked : UnitElement). elements_from rules marked after) (marked_is ∙ ap (marked_element unit) class_is)
      ∙ sym (from-glued unit item after (ap (is_glued Classic unit.class) (sym class_is) ∙ glued))
      ∙ ap (elements_from rules unit) (sym is) ∙ same
