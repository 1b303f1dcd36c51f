-- Chains of verdicts over the elements of a text, over its units, and over its code points.
use Rattle.std.proofs.Common.{◌≡◌, ℕ, zero, suc, ◌+◌, ◌<◌, ◌≤◌, Bool, true, false, List, [], ◌∷◌, length, drop, refl, sym, ap, ◌∙◌, subst, arith}
use Rattle.std.proofs.lemmas.List.{length-map, drop-drop}
use Rattle.seg_text.specs.Items.{Item, place_of, code_points}
use Rattle.seg_pairs.specs.Elements.{place_at}
use Rattle.seg_pairs.specs.Verdict.{Verdict, go_on, chain, TakesOf, IsForward}
use Rattle.seg_pairs.specs.Verdict.Verdict.{BreakAfter, GoAfter, RunBegins}
use Rattle.seg_pairs.proofs.Chained.{chain-map}
use Rattle.seg_pairs.proofs.Chains.{left-after, chain-go, chain-break, chain-run}
use Rattle.seg_line_pairs.specs.declared.engines.LineEngine.TheVariants.{Classic}
use Rattle.seg_line_pairs.specs.LineRules.{TableRules, line_class}
use Rattle.seg_line_pairs.specs.LineUnits.{UnitElement, LineUnit, CountedUnit, is_glued, units_from, counted_units, units_of, extent_of, unit_seen, units_seen, base_of, marked_element, elements_from, line_elements}
use Rattle.seg_line_pairs.specs.LineVerdict.{unit_verdict}
use Rattle.seg_line_pairs.specs.LineBoundaries.{in_code_points, line_verdict}
use Rattle.seg_line_pairs.proofs.LineStretches.{line-forward}
use Rattle.seg_line_pairs.proofs.UnitElements.{from-place}
use Rattle.seg_line_pairs.proofs.UnitLists.{first-unit, units, units-left, extent-sum}
use Rattle.seg_line_pairs.proofs.UnitVerdicts.{unit-forward}

chain-step : {X : Type 0} (v : List X → Verdict) → IsForward v → (x : X) (xs : List X) (w : Verdict) → v (x ∷ xs) ≡ w
    → chain v (x ∷ xs) ≡ go_on (λ n. chain v (drop n (x ∷ xs))) w
chain-step v forward x xs (BreakAfter n class) is = chain-break v forward x xs n class is
chain-step v forward x xs (GoAfter n) is = chain-go v forward x xs n is
chain-step v forward x xs RunBegins is = chain-run v forward x xs is

module _ (rules : TableRules Classic) where
  -- the elements of a text are its units

  seen-from : (element : UnitElement) (extent : ℕ) (items : List Item)
      → units_seen (elements_from rules element items) ≡ units_of (units_from rules (record { extent = extent; unit = unit_seen element }) (code_points items))
  unfolding elements_from units_from
  seen-from element extent [] = refl
  seen-from element extent (item ∷ items) =
      on (is_glued Classic element.class (line_class rules item.1)) refl
      (seen-from (marked_element element (line_class rules item.1)) (suc extent) items)
      (ap (λ (seen : List LineUnit). unit_seen element ∷ seen) (seen-from (base_of rules item) 1 items))
    where
      on : (b : Bool) → is_glued Classic element.class (line_class rules item.1) ≡ b
          → units_seen (elements_from rules (marked_element element (line_class rules item.1)) items)
          ≡ units_of (units_from rules (record { extent = suc extent; unit = unit_seen (marked_element element (line_class rules item.1)) }) (code_points items))
          → unit_seen element ∷ units_seen (elements_from rules (base_of rules item) items)
          ≡ unit_seen element ∷ units_of (units_from rules (record { extent = 1; unit = unit_seen (base_of rules item) }) (code_points items))
          → units_seen (elements_from rules element (item ∷ items))
          ≡ units_of (units_from rules (record { extent = extent; unit = unit_seen element }) (code_points (item ∷ items)))
      on true glued more other = rw glued more
      on false glued more other = rw glued other

  seen-units : (items : List Item) → units_seen (line_elements rules items) ≡ units_of (units rules (code_points items))
  unfolding counted_units
  seen-units [] = refl
  seen-units (item ∷ items) = seen-from (base_of rules item) 1 items

  -- the first element, which is the first unit, and those of what is left
  record FirstElement (element : UnitElement) (extent : ℕ) (items : List Item) : Type 0 where
    marks : ℕ
    whole : UnitElement
    is : elements_from rules element items ≡ whole ∷ line_elements rules (drop marks items)
    units_is : units_from rules (record { extent = extent; unit = unit_seen element }) (code_points items)
        ≡ record { extent = extent + marks; unit = unit_seen whole } ∷ units rules (code_points (drop marks items))

  first-element : (element : UnitElement) (extent : ℕ) (items : List Item) → FirstElement element extent items
  unfolding elements_from units_from counted_units
  first-element element extent [] =
      let none : extent + 0 ≡ extent = omega arith in
      record { marks = 0; whole = element; is = refl; units_is = rw none refl }
  first-element element extent (item ∷ items) =
      on (is_glued Classic element.class (line_class rules item.1)) refl (first-element (marked_element element (line_class rules item.1)) (suc extent) items)
    where
      on : (b : Bool) → is_glued Classic element.class (line_class rules item.1) ≡ b
          → FirstElement (marked_element element (line_class rules item.1)) (suc extent) items → FirstElement element extent (item ∷ items)
      on true glued later =
          let more : extent + suc later.marks ≡ suc extent + later.marks = omega arith in
          record { marks = suc later.marks; whole = later.whole; is = rw glued later.is; units_is = rw glued (rw more later.units_is) }
      on false glued later =
          let none : extent + 0 ≡ extent = omega arith in
          record { marks = 0; whole = element; is = rw glued refl; units_is = rw glued (rw none refl) }

  extent-after : (n m : ℕ) (unit : LineUnit) (counted later : List CountedUnit) → counted ≡ record { extent = m; unit = unit } ∷ later
      → extent_of (suc n) counted ≡ m + extent_of n later
  unfolding extent_of
  extent-after n m unit counted later is = rw is refl

  -- what is left after some elements has the other elements
  pub elements-left : (n : ℕ) (items : List Item)
      → drop n (line_elements rules items) ≡ line_elements rules (drop (extent_of n (units rules (code_points items))) items)
  unfolding counted_units extent_of
  elements-left zero items = refl
  elements-left (suc n) [] = refl
  elements-left (suc n) (item ∷ items) =
      let first = first-element (base_of rules item) 1 items in
      let rest : List Item = drop first.marks items in
      let e : ℕ = extent_of n (units rules (code_points rest)) in
      let sum : extent_of (suc n) (units rules (code_points (item ∷ items))) ≡ suc first.marks + e =
      extent-after n (1 + first.marks) (unit_seen first.whole) (units rules (code_points (item ∷ items))) (units rules (code_points rest)) first.units_is ∙ omega arith in
      ap (drop (suc n)) first.is ∙ elements-left n rest
      ∙ ap (line_elements rules) (drop-drop e (suc first.marks) (item ∷ items))
      ∙ ap (λ n. line_elements rules (drop n (item ∷ items))) (sym sum)

  pub elements-place : (items : List Item) (end : ℕ) → place_at (line_elements rules items) end ≡ place_of items end
  elements-place [] end = refl
  elements-place (item ∷ items) end = from-place rules (base_of rules item) items end

  pub no-elements : (items : List Item) → line_elements rules items ≡ [] → items ≡ []
  no-elements [] is = refl
  no-elements (item ∷ items) is = absurd (none (sym (first-element (base_of rules item) 1 items).is ∙ is))
    where
      none : (first-element (base_of rules item) 1 items).whole ∷ line_elements rules (drop (first-element (base_of rules item) 1 items).marks items) ≡ [] → ⊥
      none is = cc

  -- the verdict on the first of some units
  abbrev counted_verdict : List CountedUnit → Verdict
  counted_verdict counted = unit_verdict rules (units_of counted)

  counted-forward : IsForward counted_verdict
  counted-forward one counted =
      subst (λ n. TakesOf (suc n) (counted_verdict (one ∷ counted))) (length-map counted (λ (one : CountedUnit). one.unit)) (unit-forward rules one.unit (units_of counted))

  -- a chain over units, as one over their code points
  abbrev IsChain : List ℕ → Type 0
  IsChain code_points =
      let us = units rules code_points in
      let found = chain counted_verdict us in
      chain (line_verdict rules) code_points ≡ (extent_of found.0 us, in_code_points (drop found.0 us) found.1)

  whole-chain : (us later : List CountedUnit) (head : CountedUnit) (w : Verdict) → us ≡ head ∷ later → counted_verdict us ≡ w
      → chain counted_verdict us ≡ go_on (λ n. chain counted_verdict (drop n us)) w
  whole-chain us later head w is =
      let Steps : List CountedUnit → Type 0 = λ us. counted_verdict us ≡ w → chain counted_verdict us ≡ go_on (λ n. chain counted_verdict (drop n us)) w in
      subst Steps (sym is) (chain-step counted_verdict counted-forward head later w)

  -- where a chain over units leads, in code points
  abbrev in-all : List CountedUnit → ℕ × Verdict → ℕ × Verdict
  in-all us found = (extent_of found.0 us, in_code_points (drop found.0 us) found.1)

  later-chain : (n : ℕ) (us : List CountedUnit) (found : ℕ × Verdict)
      → (extent_of n us + (in-all (drop n us) found).0, (in-all (drop n us) found).1) ≡ in-all us (n + found.0, found.1)
  later-chain n us found =
      let sum = extent-sum rules n found.0 us in
      ap (λ (m : ℕ). (m, in_code_points (drop found.0 (drop n us)) found.1)) (sym sum)
      ∙ ap (λ (left : List CountedUnit). (extent_of (n + found.0) us, in_code_points left found.1)) (drop-drop found.0 n us)

  chain-within : (most : ℕ) (code_point : ℕ) (code_points : List ℕ) → length (code_point ∷ code_points) ≤ most → IsChain (code_point ∷ code_points)
  unfolding line_verdict extent_of
  chain-within zero code_point code_points bound = absurd (omega (arith, bound))
  chain-within (suc most) code_point code_points bound =
      let first = first-unit rules code_point code_points in
      on (counted_verdict us) refl (whole-chain us _ _ (counted_verdict us) first.is refl) (line-forward rules code_point code_points)
      (λ second others less. chain-within most second others less)
    where
      all : List ℕ
      all = code_point ∷ code_points

      us : List CountedUnit
      us = units rules all

      on : (w : Verdict) → counted_verdict us ≡ w → chain counted_verdict us ≡ go_on (λ n. chain counted_verdict (drop n us)) w
          → TakesOf (length all) (in_code_points us w)
          → ((second : ℕ) (others : List ℕ) → length (second ∷ others) ≤ most → IsChain (second ∷ others)) → IsChain all
      on (BreakAfter n class) is found takes later =
          subst (λ (found : ℕ × Verdict). chain (line_verdict rules) all ≡ in-all us found) (sym found)
          (chain-break (line_verdict rules) (line-forward rules) code_point code_points (extent_of n us) class (ap (in_code_points us) is))
      on RunBegins is found takes later =
          subst (λ (found : ℕ × Verdict). chain (line_verdict rules) all ≡ in-all us found) (sym found)
          (chain-run (line_verdict rules) (line-forward rules) code_point code_points (ap (in_code_points us) is))
      on (GoAfter n) is found takes later =
          let m : ℕ = extent_of n us in
          let left = left-after m all takes.1 in
          let inner : IsChain (drop m all) = subst IsChain (sym left.same) (later left.first left.others (omega (arith, left.fewer, takes.0, bound))) in
          let Inner : List CountedUnit → Type 0 = λ us. chain (line_verdict rules) (drop m all) ≡ in-all us (chain counted_verdict us) in
          let there : chain (line_verdict rules) (drop m all) ≡ in-all (drop n us) (chain counted_verdict (drop n us)) = subst Inner (units-left rules n all) inner in
          subst (λ (found : ℕ × Verdict). chain (line_verdict rules) all ≡ in-all us found) (sym found)
          (chain-go (line_verdict rules) (line-forward rules) code_point code_points m (ap (in_code_points us) is)
          ∙ ap (λ (found : ℕ × Verdict). (m + found.0, found.1)) there
          ∙ later-chain n us (chain counted_verdict (drop n us)))

  -- a chain over the elements of a text, as one over its code points
  pub elements-chain : (items : List Item) (found : ℕ × Verdict) → 0 < length items
      → chain (λ (elements : List UnitElement). unit_verdict rules (units_seen elements)) (line_elements rules items) ≡ found
      → chain (line_verdict rules) (code_points items) ≡ in-all (units rules (code_points items)) found
  elements-chain [] found some is = absurd (omega (arith, some))
  elements-chain (item ∷ items) found some is =
      let cps : List ℕ = code_points (item ∷ items) in
      let same : chain counted_verdict (units rules cps) ≡ found =
      chain-map (λ (one : CountedUnit). one.unit) (unit_verdict rules) (units rules cps)
      ∙ ap (chain (unit_verdict rules)) (sym (seen-units (item ∷ items)))
      ∙ sym (chain-map unit_seen (unit_verdict rules) (line_elements rules (item ∷ items))) ∙ is in
      chain-within (length cps) item.1 (code_points items) (omega arith) ∙ ap (in-all (units rules cps)) same
