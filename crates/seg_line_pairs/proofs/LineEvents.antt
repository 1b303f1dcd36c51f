-- What comes next of a text whose lines are found event by event.
use Rattle.std.proofs.Common.{◌≡◌, ◌≢◌, ℕ, ◌+◌, ◌-◌, ◌<◌, Option, Some, List, [], ◌∷◌, ◌++◌, length, map, take, drop, refl, sym, ap, ◌∙◌, subst, arith}
use Rattle.std.specs.Prelude.{IfSome}
use Rattle.std.specs.Iterator.{YieldsFirst}
use Rattle.std.proofs.lemmas.List.{drop-drop, length-drop, length-take, take-map}
use Rattle.seg_text.specs.declared.boundary.Boundary.{Boundary}
use Rattle.seg_text.specs.Items.{Item, Text, place_of, start_of, rest_after, text_before, code_points}
use Rattle.seg_text.specs.Boundaries.{boundary, boundary_in, shift_all, Cuts, AreCutsOf, with_status, cut_places, Stretch, later_boundaries}
use Rattle.seg_text.proofs.Places.{in-shift, code_points-drop}
use Rattle.seg_text.proofs.Stretches.{text-later-next}
use Rattle.seg_pairs.specs.declared.verdicts.Outcome.{Outcome}
use Rattle.seg_pairs.specs.declared.verdicts.Outcome.TheVariants.{Break as BreakOut, Run as RunOut}
use Rattle.seg_pairs.specs.Elements.{onto, place_at}
use Rattle.seg_pairs.specs.Verdict.{Verdict, chain, TakesOf, EndsIn}
use Rattle.seg_pairs.specs.Verdict.Verdict.{BreakAfter, GoAfter, RunBegins}
use Rattle.seg_pairs.proofs.Chained.{Chained, chained}
use Rattle.seg_pairs.proofs.Engine.{read-onto, rest-is}
use Rattle.seg_pairs.proofs.Events.{cuts-placed}
use Rattle.seg_line_pairs.specs.declared.units.UnitDetail.{UnitDetail}
use Rattle.seg_line_pairs.specs.declared.engines.LineEngine.TheVariants.{Classic}
use Rattle.seg_line_pairs.specs.declared.plain_pairs.ClassedItem.{ClassedItem}
use Rattle.seg_line_pairs.specs.LineEvents.{text_from, UnreadLines, unread_lines, lines_unread, LeavesLess, AreUnitsAhead}
use Rattle.seg_line_pairs.specs.ReadAhead.{UnreadItems, TakesRun, items_after, lines_of, rules_of}
use Rattle.seg_line_pairs.specs.LineBoundaries.{line_verdict, complex_length, line_stretch_of, line_stretch}
use Rattle.seg_line_pairs.specs.LineRules.{TableRules}
use Rattle.seg_line_pairs.specs.LineUnits.{UnitElement, CountedUnit, extent_of, UnitsLeft, units_seen, line_elements}
use Rattle.seg_line_pairs.specs.LineVerdict.{unit_verdict}
use Rattle.seg_line_pairs.proofs.LineChains.{elements-chain, elements-left, elements-place, no-elements}
use Rattle.seg_line_pairs.proofs.LineStretches.{line-forward, line-going, line-run, run-two}
use Rattle.seg_line_pairs.proofs.UnitLists.{units, extent-sum}

abbrev unread : TableRules Classic → Text → UnreadLines
unread rules text = record { rules = rules; text = text }

-- the verdict on the first of some elements
abbrev pub element_verdict : TableRules Classic → List UnitElement → Verdict
element_verdict rules elements = unit_verdict rules (units_seen elements)

-- how many items of a text are complex before the first that isn't
abbrev pub run_extent : TableRules Classic → Text → ℕ
run_extent rules text = complex_length rules (code_points text.items)

-- a boundary comes next, so many items on
pub record HasBreak (rules : TableRules Classic) (text : Text) (place : ℕ) : Type 0 where
  pub taken : ℕ
  pub here : place ≡ start_of (rest_after taken text)
  pub fewer : length (drop taken text.items) < length text.items
  pub leads : (cuts : Cuts) → unread_lines cuts (unread rules text) ≡ boundary place 0 ∷ unread_lines cuts (unread rules (rest_after taken text))

-- a run comes next, so many items on; what is left begins with its last
pub record HasRun (rules : TableRules Classic) (text : Text) (place : ℕ) : Type 0 where
  pub gone : ℕ
  pub here : place ≡ start_of (rest_after gone text)
  pub fewer : let left = rest_after gone text in length (drop (run_extent rules left - 1) left.items) < length text.items
  pub leads : (cuts : Cuts) → let left = rest_after gone text in let run = text_before (run_extent rules left) left in
      AreCutsOf (length run.items) (cuts (code_points run.items))
      → unread_lines cuts (unread rules text) ≡ with_status 0 (cut_places cuts run) ++ unread_lines cuts (unread rules (rest_after (run_extent rules left - 1) left))

module _ (rules : TableRules Classic) where
  -- the first stretch of a text, and what is left after it
  pub first-stretch : (cuts : Cuts) (items : List Item) (end first : ℕ) (others : List ℕ) (s : Stretch) → code_points items ≡ first ∷ others
      → line_stretch cuts rules (code_points items) ≡ s
      → let text : Text = record { items = items; end = end } in
      unread_lines cuts (unread rules text) ≡ map (boundary_in text) s.boundaries ++ unread_lines cuts (unread rules (rest_after s.extent text))
  first-stretch cuts [] end first others s some is = cc
  first-stretch cuts (item ∷ items) end first others s some is =
      let text : Text = record { items = item ∷ items; end = end } in
      text-later-next (line_stretch cuts rules) (line-going rules cuts) item items end
      ∙ ap (λ (s : Stretch). map (boundary_in text) s.boundaries ++ unread_lines cuts (unread rules (rest_after s.extent text))) is

  -- a run that begins a text, with its cuts
  run-first : (cuts : Cuts) (items : List Item) (end first : ℕ) (others : List ℕ) → code_points items ≡ first ∷ others
      → line_verdict rules (first ∷ others) ≡ RunBegins
      → let text : Text = record { items = items; end = end } in let run = text_before (run_extent rules text) text in
      AreCutsOf (length run.items) (cuts (code_points run.items))
      → unread_lines cuts (unread rules text) ≡ with_status 0 (cut_places cuts run) ++ unread_lines cuts (unread rules (rest_after (run_extent rules text - 1) text))
  run-first cuts items end first others points begins are =
      let text : Text = record { items = items; end = end } in
      let n : ℕ = complex_length rules (code_points items) in
      let s : Stretch = record { extent = n - 1; boundaries = with_status 0 (cuts (take n (code_points items))) } in
      let stretch : line_stretch cuts rules (code_points items) ≡ s = ap (line_stretch_of cuts rules (code_points items)) (ap (line_verdict rules) points ∙ begins) in
      let same : map (boundary_in text) s.boundaries ≡ with_status 0 (cut_places cuts (text_before n text)) =
      ap (λ (run : List ℕ). map (boundary_in text) (with_status 0 (cuts run))) (take-map (λ (item : Item). item.1) n items)
      ∙ cuts-placed text n 0 (length (take n items)) (cuts (code_points (take n items))) (omega (arith, length-take n items)) are in
      first-stretch cuts items end first others s points stretch
      ∙ ap (λ (bs : List Boundary). bs ++ unread_lines cuts (unread rules (rest_after (n - 1) text))) same

  module _ (item : Item) (items : List Item) (end : ℕ) where
    abbrev all : List Item
    all = item ∷ items

    abbrev whole : Text
    whole = record { items = all; end = end }

    abbrev us : List CountedUnit
    us = units rules (code_points all)

    chained-by : (cuts : Cuts) → Chained (line_stretch cuts rules) (line_verdict rules) (code_points all)
    chained-by cuts =
        chained (line_stretch cuts rules) (line-going rules cuts) (line_verdict rules) (line-forward rules)
        (λ x xs n is. ap (line_stretch_of cuts rules (x ∷ xs)) is) item.1 (code_points items)

    -- the boundaries of the whole are those from the end of the chain on
    from-chain : (cuts : Cuts) (ch : Chained (line_stretch cuts rules) (line_verdict rules) (code_points all))
        → unread_lines cuts (unread rules whole) ≡ unread_lines cuts (unread rules (rest_after ch.gone whole))
    from-chain cuts ch =
        ap (map (boundary_in whole)) (ch.later_is ∙ ap (λ (cs : List ℕ). shift_all ch.gone (later_boundaries (line_stretch cuts rules) cs)) (sym ch.there ∙ sym (code_points-drop ch.gone all)))
        ∙ in-shift whole ch.gone (later_boundaries (line_stretch cuts rules) (code_points (drop ch.gone all)))

    -- a chain to its end, whatever the cuts
    record Ends (gone : ℕ) (last : Verdict) : Type 0 where
      first : ℕ
      others : List ℕ
      points : code_points (drop gone all) ≡ first ∷ others
      last_is : line_verdict rules (first ∷ others) ≡ last
      leads : (cuts : Cuts) → unread_lines cuts (unread rules whole) ≡ unread_lines cuts (unread rules (rest_after gone whole))

    chain-ends : (found : ℕ × Verdict) → chain (line_verdict rules) (code_points all) ≡ found → Ends found.0 found.1
    chain-ends found is =
        let none : Cuts = λ run. [] in
        let ch = chained-by none in
        let at : (cuts : Cuts) → let mine = chained-by cuts in (mine.gone, mine.last) ≡ found = λ cuts. sym (chained-by cuts).chain_is ∙ is in
        let gone : ch.gone ≡ found.0 = ap (λ (found : ℕ × Verdict). found.0) (at none) in
        record {
          first = ch.element;
          others = ch.others;
          points = ap (λ (n : ℕ). code_points (drop n all)) (sym gone) ∙ code_points-drop ch.gone all ∙ ch.there;
          last_is = ch.last_is ∙ ap (λ (found : ℕ × Verdict). found.1) (at none);
          leads = λ cuts.
              from-chain cuts (chained-by cuts)
              ∙ ap (λ (n : ℕ). unread_lines cuts (unread rules (rest_after n whole))) (ap (λ (found : ℕ × Verdict). found.0) (at cuts));
        }

    break-at : (gone n class taken place : ℕ) (after : List UnitElement) → Ends gone (BreakAfter n class) → taken ≡ gone + n → after ≡ line_elements rules (drop taken all)
        → place ≡ place_at after end → HasBreak rules whole place
    break-at gone n class taken place after ends sum is place_is =
        let some : 0 < n = (subst (TakesOf (length (ends.first ∷ ends.others))) ends.last_is (line-forward rules ends.first ends.others)).0 in
        let s : Stretch = record { extent = n; boundaries = boundary n 0 ∷ [] } in
        let here : place ≡ start_of (rest_after taken whole) = place_is ∙ rw is (elements-place rules (drop taken all) end) in
        record {
          taken = taken;
          here = here;
          fewer = omega (arith, sum, some, length-drop taken all);
          leads = λ cuts.
              let stretch : line_stretch cuts rules (code_points (drop gone all)) ≡ s =
              ap (line_stretch cuts rules) ends.points ∙ ap (line_stretch_of cuts rules (ends.first ∷ ends.others)) ends.last_is in
              ends.leads cuts ∙ first-stretch cuts (drop gone all) end ends.first ends.others s ends.points stretch
              ∙ rw (here, drop-drop n gone all, sum) refl;
        }

    run-at : (gone place : ℕ) → Ends gone RunBegins → place ≡ place_of (drop gone all) end → HasRun rules whole place
    run-at gone place ends is =
        let left : Text = rest_after gone whole in
        let two : 1 < complex_length rules (code_points left.items) =
        subst (λ (cs : List ℕ). 1 < complex_length rules cs) (sym ends.points) (run-two rules ends.first ends.others (line-run rules ends.first ends.others ends.last_is)) in
        let some : 0 < length left.items = positive left.items ends.first ends.others ends.points in
        record {
          gone = gone;
          here = is;
          fewer = omega (arith, two, some, length-drop (run_extent rules left - 1) left.items, length-drop gone all);
          leads = λ cuts are. ends.leads cuts ∙ run-first cuts (drop gone all) end ends.first ends.others ends.points ends.last_is are;
        }
      where
        positive : (items : List Item) (first : ℕ) (others : List ℕ) → code_points items ≡ first ∷ others → 0 < length items
        positive [] first others is = cc
        positive (item ∷ items) first others is = omega arith

    break-in : (class place : ℕ) (next : Option UnitElement) (rest : List UnitElement) → place ≡ place_at (onto next rest) end
        → EndsIn (chain (element_verdict rules) (line_elements rules all)) (line_elements rules all) (BreakOut class next) rest → HasBreak rules whole place
    break-in class place next rest place_is = on (chain (element_verdict rules) (line_elements rules all)) refl
      where
        on : (found : ℕ × Verdict) → chain (element_verdict rules) (line_elements rules all) ≡ found → EndsIn found (line_elements rules all) (BreakOut class next) rest
            → HasBreak rules whole place
        on (gone, BreakAfter n with_class) is ends =
            break-at (extent_of gone us) (extent_of n (drop gone us)) with_class (extent_of (gone + n) us) place (onto next rest)
            (chain-ends (extent_of gone us, BreakAfter (extent_of n (drop gone us)) with_class) (elements-chain rules all (gone, BreakAfter n with_class) (omega arith) is))
            (extent-sum rules gone n us)
            (rest-is next rest (drop (gone + n) (line_elements rules all)) ends.1 ∙ elements-left rules (gone + n) all) place_is
        on (gone, GoAfter n) is ends = absurd ends
        on (gone, RunBegins) is ends = absurd ends

    run-in : (first second : UnitElement) (rest : List UnitElement)
        → EndsIn (chain (element_verdict rules) (line_elements rules all)) (line_elements rules all) (RunOut first second) rest → HasRun rules whole first.place
    run-in first second rest = on (chain (element_verdict rules) (line_elements rules all)) refl
      where
        on : (found : ℕ × Verdict) → chain (element_verdict rules) (line_elements rules all) ≡ found → EndsIn found (line_elements rules all) (RunOut first second) rest
            → HasRun rules whole first.place
        on (gone, BreakAfter n class) is ends = absurd ends
        on (gone, GoAfter n) is ends = absurd ends
        on (gone, RunBegins) is ends =
            run-at (extent_of gone us) first.place
            (chain-ends (extent_of gone us, RunBegins) (elements-chain rules all (gone, RunBegins) (omega arith) is))
            (ap (λ (elements : List UnitElement). place_at elements end) (sym ends ∙ elements-left rules gone all) ∙ elements-place rules (drop (extent_of gone us) all) end)

-- an event of which a call has at hand the first unit and those after it, and those that are left after the verdicts
module _ (before : UnreadItems) (rules : TableRules Classic) (same : rules ≡ rules_of Classic before) (left : UnitElement) (units later : UnitsLeft)
    (ahead : AreUnitsAhead (rules_of Classic before) before.text (Some left) units) where
  abbrev LeadsTo : Outcome UnitDetail → Type 0
  LeadsTo found = EndsIn (chain (element_verdict rules) (left ∷ units.left)) (left ∷ units.left) found later.left

  pub break-of : (class : ℕ) (next : Option UnitElement) (place : ℕ) → LeadsTo (BreakOut class next) → later.end ≡ units.end
      → place ≡ place_at (onto next later.left) later.end → HasBreak rules before.text place
  break-of class next place ends end place_is = on before.text.items (ahead.same ∙ ap (λ rules. line_elements rules before.text.items) (sym same))
    where
      on : (items : List Item) → left ∷ units.left ≡ line_elements rules items → HasBreak rules (record { items = items; end = before.text.end }) place
      on [] is = cc
      on (item ∷ items) is =
          break-in rules item items before.text.end class place next later.left (place_is ∙ ap (place_at (onto next later.left)) (end ∙ ahead.same_end))
          (subst (λ (es : List UnitElement). EndsIn (chain (element_verdict rules) es) es (BreakOut class next) later.left) is ends)

  pub run-of : (first second : UnitElement) → LeadsTo (RunOut first second) → HasRun rules before.text first.place
  run-of first second ends = on before.text.items (ahead.same ∙ ap (λ rules. line_elements rules before.text.items) (sym same))
    where
      on : (items : List Item) → left ∷ units.left ≡ line_elements rules items → HasRun rules (record { items = items; end = before.text.end }) first.place
      on [] is = cc
      on (item ∷ items) is =
          run-in rules item items before.text.end first second later.left
          (subst (λ (es : List UnitElement). EndsIn (chain (element_verdict rules) es) es (RunOut first second) later.left) is ends)

-- the first unit of a text is read, whose first item was read ahead
pub ahead-read : (rules read : TableRules Classic) (text rest : Text) (first : ClassedItem) (from : UnitsLeft) (next : Option UnitElement) (units : UnitsLeft)
    → read ≡ rules → text ≡ text_from first rest
    → from ≡ record { rules = read; left = line_elements read (text_from first rest).items; end = rest.end }
    → YieldsFirst (λ (left : UnitsLeft). left.left) from next units
    → units.end ≡ from.end → units.rules.table ≡ from.rules.table → IfSome next (λ next. next.class < from.rules.table.property_count)
    → AreUnitsAhead rules text next units
ahead-read rules read text rest first from next units same text_is from_is gives end table below =
    let is : from ≡ record { rules = rules; left = line_elements rules text.items; end = text.end } = from_is ∙ rw (same, text_is) refl in
    record {
      same = sym (read-onto (λ (left : UnitsLeft). left.left) from next units gives) ∙ ap (λ (left : UnitsLeft). left.left) is;
      same_end = end ∙ ap (λ (left : UnitsLeft). left.end) is;
      same_table = table ∙ ap (λ (left : UnitsLeft). left.rules.table) is;
      below = subst (λ (from : UnitsLeft). IfSome next (λ next. next.class < from.rules.table.property_count)) is below;
    }

-- a text with a first item has a unit
pub some-first : (rules : TableRules Classic) (first : ClassedItem) (rest : Text) (units : UnitsLeft)
    → units ≡ record { rules = rules; left = line_elements rules (text_from first rest).items; end = rest.end } → units.left ≡ [] → ⊥
some-first rules first rest units is none = never (no-elements rules (text_from first rest).items (sym (ap (λ (left : UnitsLeft). left.left) is) ∙ none))
  where
    never : (text_from first rest).items ≡ [] → ⊥
    never is = cc

-- a text of which less is left wasn't empty
pub not-empty : (fewer : ℕ) (items : List Item) → fewer < length items → items ≢ []
not-empty fewer items less none = absurd (omega (arith, less, ap length none))

-- what is left after an event
module _ (before : UnreadItems) (rules : TableRules Classic) (same : rules ≡ rules_of Classic before) (after : UnreadItems) (place : ℕ) where
  module _ (b : HasBreak rules before.text place) (is : after ≡ items_after b.taken before) where
    pub break-leads : (cuts : Cuts) → unread_lines cuts (lines_of before) ≡ boundary place 0 ∷ unread_lines cuts (lines_of after)
    break-leads cuts = rw (is, ← same) (b.leads cuts)

    pub break-goes : LeavesLess (lines_unread (lines_of before)) (lines_unread (lines_of after))
    break-goes = rw is (record { end = refl; fewer = λ some. b.fewer })

  module _ (r : HasRun rules before.text place) (run : Text) (takes : TakesRun (rules_of Classic before) (items_after r.gone before) run after) where
    pub run-leads : (cuts : Cuts) → AreCutsOf (length run.items) (cuts (code_points run.items))
        → unread_lines cuts (lines_of before) ≡ with_status 0 (cut_places cuts run) ++ unread_lines cuts (lines_of after)
    run-leads = rw (takes.rest, takes.run_is, ← same) r.leads

    pub run-goes : LeavesLess (lines_unread (lines_of before)) (lines_unread (lines_of after))
    run-goes = rw (takes.rest, ← same) (record { end = refl; fewer = λ some. r.fewer })
