-- On plain texts a turn is the line verdict of its units, and the boundaries are those of the verdicts.
use Rattle.std.proofs.Common.{◌≡◌, ℕ, zero, suc, ◌+◌, ◌<◌, ◌&&◌, ◌||◌, not, Bool, true, false, cond, Option, Some, None, List, [], ◌∷◌, ◌++◌, length, drop, refl, sym, ap, ◌∙◌, subst, arith}
use Rattle.std.proofs.lemmas.List.{drop-map}
use Rattle.seg_text.specs.declared.boundary.Boundary.{Boundary}
use Rattle.seg_text.specs.Boundaries.{start, shift_all, boundary, Cuts, later_boundaries_within, later_boundaries}
use Rattle.seg_pairs.specs.declared.provider.pairs.BreakState.{BreakState}
use Rattle.seg_pairs.specs.declared.provider.pairs.BreakState.TheVariants.{Break, Keep, NoMatch, Intermediate, Index}
use Rattle.seg_pairs.specs.PairTable.{entry_of}
use Rattle.seg_pairs.specs.Walk.{is_class}
use Rattle.seg_pairs.specs.Verdict.{Verdict}
use Rattle.seg_pairs.specs.Verdict.Verdict.{BreakAfter, GoAfter, RunBegins}
use Rattle.seg_line_pairs.specs.declared.verdicts.Case.TheVariants.{Together}
use Rattle.seg_line_pairs.specs.declared.engines.LineEngine.TheVariants.{Seventeen}
use Rattle.seg_line_pairs.specs.LineRules.{TableRules, line_class, is_complex_context, class_read}
use Rattle.seg_line_pairs.specs.LineUnits.{LineUnit, CountedUnit, counted_units, units_from, units_of, extent_of, is_mark, is_glued, bears_none}
use Rattle.seg_line_pairs.specs.LineLists.{keeps, listed}
use Rattle.seg_line_pairs.specs.LineVerdict.{case_of, case_verdict, list_case, unless, unit_verdict, unit_first_verdict, unit_named_verdict}
use Rattle.seg_line_pairs.specs.LineBoundaries.{complex_length, in_code_points, line_verdict, line_stretch_of, line_stretch, line_boundaries}
use Rattle.seg_line_pairs.proofs.UnitLists.{units-left}
use Rattle.seg_line_turns.specs.PlainTexts.{ArePlain, HasNoOpening}
use Rattle.seg_line_turns.specs.TurnBoundaries.{turn_stretch_of, turns_within, later_turns, turn_boundaries}
use Rattle.seg_line_turns.specs.TurnRules.{LeftUnit, left_unit, with_item, is_joined}
use Rattle.seg_line_turns.specs.TurnClasses.{is_opening, is_space}
use Rattle.seg_line_turns.specs.Turns.{Turn, turn_unless, walk_turn, walk_begin, table_turn, list_turn, class_turn, right_turn, is_taken, opens, turn, first_unit}
use Rattle.seg_line_turns.specs.Turns.Turn.{BreakAt, GoTo}
use Rattle.seg_line_turns.proofs.PlainUnits.{TurnUnit, unit_at, unit_with, is_none, counted, Ruled, ruled, and-none, glue-mark, units-head, walks, unit_walk, unit-walks, turn_by}
use Rattle.seg_line_turns.proofs.TurnForward.{IsTurnOf, first-forward}

module _ (rules : TableRules Seventeen) where
  taken-is : (left : LeftUnit) (class : ℕ) → Ruled class → is_taken left class ≡ is_glued Seventeen left.class class
  taken-is left class r =
      rw (r.no_complex_mark, glue-mark class r, and-none (is_complex_context left.class)) (same (is_mark Seventeen class) (bears_none Seventeen left.class))
    where
      same : (a b : Bool) → (a && not b && true) ≡ (a && not b)
      same true true = refl
      same true false = refl
      same false b = refl

  -- the units from a base on
  abbrev units_at : ℕ → List ℕ → List CountedUnit
  units_at item items = units_from rules (counted (unit_at rules item)) items

  extent-one : (left : TurnUnit) (units : List CountedUnit) → extent_of 1 (counted left ∷ units) ≡ suc left.left.last
  unfolding extent_of
  extent-one left units = omega arith

  named-turn : (left : TurnUnit) (right : ℕ) (after : List ℕ) (state : ℕ) → ArePlain rules after
      → walk_turn rules (walk_begin rules.table (is_joined left.left) false (suc left.left.last) (line_class rules right) state) (suc (suc left.left.last)) after
      ≡ turn_by (counted left ∷ units_at right after) (unit_named_verdict rules.table state (counted left).unit (units_of (counted left ∷ units_at right after)))
  unfolding unit_named_verdict
  named-turn left right after state plain =
      let place : suc (suc left.left.last) ≡ suc left.left.last + 1 = omega arith in
      let us : List CountedUnit = units_at right after in
      let head = units-head rules (unit_at rules right) after in
      rw place
      (walks rules (not (is_class rules.table state)) state (suc left.left.last) (is_joined left.left) (suc left.left.last) (unit_at rules right) after refl plain
      ∙ ap (λ n. unit_walk rules (not (is_class rules.table state)) state n (is_joined left.left) n us) (sym (extent-one left us))
      ∙ rw head.is (unit-walks rules state (counted left ∷ head.head ∷ head.later) state 1 1 left.left.class (is_joined left.left) head.head head.later refl refl))

  unless-first : (left : TurnUnit) (units : List CountedUnit) (joined : Bool) → turn_unless joined false (suc left.left.last) ≡ turn_by (counted left ∷ units) (unless joined 1)
  unless-first left units true = rw (extent-one left units) refl
  unless-first left units false = rw (extent-one left units) refl

  table-turn : (left : TurnUnit) (right : ℕ) (after : List ℕ) (entry : BreakState) → ArePlain rules after
      → table_turn rules false left.left (line_class rules right) after entry
      ≡ turn_by (counted left ∷ units_at right after) (unit_first_verdict rules.table (counted left).unit (units_of (counted left ∷ units_at right after)) entry)
  table-turn left right after Keep plain = rw (extent-one left (units_at right after)) refl
  table-turn left right after Break plain = unless-first left (units_at right after) (is_joined left.left)
  table-turn left right after NoMatch plain = unless-first left (units_at right after) (is_joined left.left)
  table-turn left right after (Index state) plain = named-turn left right after state plain
  table-turn left right after (Intermediate state) plain = named-turn left right after state plain

  class-plain : (left : LeftUnit) (class : ℕ) (after : List ℕ) → Ruled class
      → class_turn rules false left class after ≡ table_turn rules false left class after (entry_of rules.table left.class class)
  class-plain left class after r = simp (r.not_complex, r.not_infix, r.not_quote, r.not_hyphen, and-none) refl

  -- the case of two units, of which the right one isn't complex
  case-is : (left : TurnUnit) (right : LineUnit) → is_complex_context right.class ≡ false
      → case_of rules (counted left).unit right
      ≡ cond (keeps Seventeen rules.style left.left.class right.class) Together
      (list_case (listed Seventeen rules.style (is_joined left.left) left.left.class left.left.last_code_point right.class right.code_point))
  case-is left right other = rw (other, and-none (is_complex_context left.left.class && is_none left.left.last)) refl

  case-turn : (left : TurnUnit) (right : LineUnit) (units : List CountedUnit) (kept : Bool) (found : Option Bool) (otherwise : Turn)
      → otherwise ≡ turn_by (counted left ∷ units) (unit_first_verdict rules.table (counted left).unit (units_of (counted left ∷ units)) (entry_of rules.table left.left.class right.class))
      → cond kept (GoTo (suc left.left.last) false) (list_turn found (suc left.left.last) false otherwise)
      ≡ turn_by (counted left ∷ units) (case_verdict rules.table (counted left).unit right (units_of (counted left ∷ units)) (cond kept Together (list_case found)))
  case-turn left right units true found otherwise same = rw (extent-one left units) refl
  case-turn left right units false (Some true) otherwise same = rw (extent-one left units) refl
  case-turn left right units false (Some false) otherwise same = rw (extent-one left units) refl
  case-turn left right units false None otherwise same = same

  verdict-cons : (left right : CountedUnit) (after units : List CountedUnit) → units ≡ right ∷ after
      → unit_verdict rules (units_of (left ∷ units)) ≡ case_verdict rules.table left.unit right.unit (units_of (left ∷ units)) (case_of rules left.unit right.unit)
  unfolding unit_verdict
  verdict-cons left right after units is = rw is refl

  right-turn : (left : TurnUnit) (right : ℕ) (after : List ℕ) (head : LineUnit) (class code_point : ℕ) → Ruled class
      → head.class ≡ class → head.code_point ≡ code_point → class ≡ line_class rules right → code_point ≡ right
      → right_turn rules false left.left right after
      ≡ cond (keeps Seventeen rules.style left.left.class head.class) (GoTo (suc left.left.last) false)
      (list_turn (listed Seventeen rules.style (is_joined left.left) left.left.class left.left.last_code_point head.class head.code_point) (suc left.left.last) false
      (table_turn rules false left.left head.class after (entry_of rules.table left.left.class head.class)))
  right-turn left right after head class code_point r class_is point_is class_read point_read =
      rw (class_is ∙ class_read, point_is ∙ point_read) (rw (class-plain left.left (line_class rules right) after (subst Ruled class_read r)) refl)

  turn-right : (left : TurnUnit) (right : ℕ) (after : List ℕ) → Ruled (line_class rules right) → ArePlain rules after
      → right_turn rules false left.left right after ≡ turn_by (counted left ∷ units_at right after) (unit_verdict rules (units_of (counted left ∷ units_at right after)))
  turn-right left right after r plain =
      let us : List CountedUnit = units_at right after in
      let whole : List CountedUnit = counted left ∷ us in
      let head = units-head rules (unit_at rules right) after in
      let next : LineUnit = head.head.unit in
      let other : is_complex_context next.class ≡ false = ap is_complex_context head.class ∙ r.not_complex in
      right-turn left right after next (line_class rules right) right r head.class head.code_point refl refl
      ∙ case-turn left next us (keeps Seventeen rules.style left.left.class next.class)
      (listed Seventeen rules.style (is_joined left.left) left.left.class left.left.last_code_point next.class next.code_point) _
      (ap (λ class. table_turn rules false left.left class after (entry_of rules.table left.left.class class)) head.class
      ∙ table-turn left right after (entry_of rules.table left.left.class (line_class rules right)) plain
      ∙ ap (λ class. turn_by whole (unit_first_verdict rules.table (counted left).unit (units_of whole) (entry_of rules.table left.left.class class))) (sym head.class))
      ∙ ap (turn_by whole) (sym (verdict-cons (counted left) head.head head.later us head.is
      ∙ ap (case_verdict rules.table (counted left).unit next (units_of whole)) (case-is left next other)))

  turn-single : (left : TurnUnit) → BreakAt (suc left.left.last) (suc left.left.last) ≡ turn_by (counted left ∷ []) (unit_verdict rules (units_of (counted left ∷ [])))
  unfolding unit_verdict
  turn-single left = rw (extent-one left []) refl

  -- no opening before a space, told of the right item
  opening-cons : (left : TurnUnit) (head : CountedUnit) (later units : List CountedUnit) (class : ℕ) → units ≡ head ∷ later → head.unit.class ≡ class
      → HasNoOpening (units_of (counted left ∷ units)) → (is_opening left.left.class && is_space class) ≡ false
  opening-cons left head later units class is same none =
      let parts : HasNoOpening (units_of (counted left ∷ head ∷ later)) = subst (λ (us : List CountedUnit). HasNoOpening (units_of (counted left ∷ us))) is none in
      rw (← same) parts.0

  turn-nil : (left : LeftUnit) → turn rules false left [] ≡ BreakAt (suc left.last) (suc left.last)
  unfolding turn
  turn-nil left = refl

  turn-cons : (left : LeftUnit) (item : ℕ) (items : List ℕ)
      → turn rules false left (item ∷ items)
      ≡ cond (is_taken left (line_class rules item)) (turn rules false (with_item rules left item) items) (right_turn rules (false || opens left (line_class rules item)) left item items)
  unfolding turn
  turn-cons left item items = refl

  -- the turn by the verdict on the units of what comes from a unit on
  abbrev turn_of : TurnUnit → List ℕ → Turn
  turn_of left items = let us = units_from rules (counted left) items in turn_by us (unit_verdict rules (units_of us))

  -- the turn of a plain text is its line verdict
  turns : (left : TurnUnit) (items : List ℕ) → ArePlain rules items → HasNoOpening (units_of (units_from rules (counted left) items))
      → turn rules false left.left items ≡ turn_of left items
  unfolding units_from
  turns left [] plain none = turn-nil left.left ∙ turn-single left
  turns left (right ∷ after) plain none =
      turn-cons left.left right after
      ∙ ap (λ b. cond b (turn rules false (with_item rules left.left right) after) (right_turn rules (false || opens left.left (line_class rules right)) left.left right after)) (taken-is left.left (line_class rules right) r)
      ∙ on (is_glued Seventeen left.left.class (line_class rules right)) refl (λ none. turns (unit_with rules left right) after plain.1 none)
    where
      r : Ruled (line_class rules right)
      r = ruled (line_class rules right) plain.0

      on : (b : Bool) → is_glued Seventeen left.left.class (line_class rules right) ≡ b
          → (HasNoOpening (units_of (units_from rules (counted (unit_with rules left right)) after))
          → turn rules false (with_item rules left.left right) after ≡ turn_of (unit_with rules left right) after)
          → cond b (turn rules false (with_item rules left.left right) after) (right_turn rules (false || opens left.left (line_class rules right)) left.left right after)
          ≡ turn_of left (right ∷ after)
      on true is later = rw is (later (rw is at none))
      on false is later =
          let us : List CountedUnit = units_at right after in
          let apart : HasNoOpening (units_of (counted left ∷ us)) = rw is at none in
          let head = units-head rules (unit_at rules right) after in
          let shut : opens left.left (line_class rules right) ≡ false = opening-cons left head.head head.later us (line_class rules right) head.is head.class apart in
          rw (is, shut) (turn-right left right after r plain.1)

  plain-drop : (n : ℕ) (items : List ℕ) → ArePlain rules items → ArePlain rules (drop n items)
  plain-drop zero items plain = plain
  plain-drop (suc n) [] plain = plain
  plain-drop (suc n) (item ∷ items) plain = plain-drop n items plain.1

  opening-drop : (n : ℕ) (us : List LineUnit) → HasNoOpening us → HasNoOpening (drop n us)
  opening-drop zero us none = none
  opening-drop (suc n) [] none = none
  opening-drop (suc zero) (unit ∷ []) none = none
  opening-drop (suc (suc n)) (unit ∷ []) none = none
  opening-drop (suc n) (unit ∷ next ∷ us) none = opening-drop n (next ∷ us) none.1

  -- what is left after some units of a text has no opening either
  opening-left : (n : ℕ) (items : List ℕ) → HasNoOpening (units_of (counted_units rules items))
      → HasNoOpening (units_of (counted_units rules (drop (extent_of n (counted_units rules items)) items)))
  opening-left n items none =
      subst HasNoOpening (sym (ap units_of (units-left rules n items) ∙ sym (drop-map (λ (one : CountedUnit). one.unit) n (counted_units rules items))))
      (opening-drop n (units_of (counted_units rules items)) none)

  first-plain : (starts : Bool) (item : ℕ) → Ruled (line_class rules item) → first_unit rules starts item ≡ left_unit rules item
  first-plain starts item r = rw (r.not_start, and-none starts) refl

  some-units : (n : ℕ) (us : List CountedUnit) → 0 < extent_of n us → 0 < n
  unfolding extent_of
  some-units zero us some = absurd (omega (arith, some))
  some-units (suc n) us some = omega arith

  first-turn : (starts : Bool) (item : ℕ) (items : List ℕ) → Ruled (line_class rules item) → ArePlain rules items → HasNoOpening (units_of (counted_units rules (item ∷ items)))
      → turn rules false (first_unit rules starts item) items
      ≡ turn_by (counted_units rules (item ∷ items)) (unit_verdict rules (units_of (counted_units rules (item ∷ items))))
  unfolding counted_units
  first-turn starts item items r plain none =
      ap (λ left. turn rules false left items) (first-plain starts item r) ∙ turns (unit_at rules item) items plain none

  module _ (cuts : Cuts) where
    abbrev rest_by : ℕ → Bool → ℕ → List ℕ → List Boundary
    rest_by most opened n whole = turns_within cuts rules most false opened (drop n whole)

    abbrev lines_by : ℕ → ℕ → List ℕ → List Boundary
    lines_by most n whole = later_boundaries_within (line_stretch cuts rules) most (drop n whole)

    one-stretch : (most : ℕ) (item : ℕ) (items : List ℕ) (v : Verdict) → Ruled (line_class rules item) → IsTurnOf rules (item ∷ items) (turn_by (counted_units rules (item ∷ items)) v)
        → ((n : ℕ) → 0 < n → rest_by most false (extent_of n (counted_units rules (item ∷ items))) (item ∷ items) ≡ lines_by most (extent_of n (counted_units rules (item ∷ items))) (item ∷ items))
        → (let s = turn_stretch_of cuts rules (item ∷ items) (turn_by (counted_units rules (item ∷ items)) v) in s.boundaries ++ shift_all s.extent (rest_by most s.opened s.extent (item ∷ items)))
        ≡ (let s = line_stretch_of cuts rules (item ∷ items) (in_code_points (counted_units rules (item ∷ items)) v) in s.boundaries ++ shift_all s.extent (lines_by most s.extent (item ∷ items)))
    one-stretch most item items (BreakAfter n class) r forward later =
        let us : List CountedUnit = counted_units rules (item ∷ items) in
        ap (λ (found : List Boundary). boundary (extent_of n us) 0 ∷ shift_all (extent_of n us) found) (later n (some-units n us forward.0))
    one-stretch most item items (GoAfter n) r forward later =
        let us : List CountedUnit = counted_units rules (item ∷ items) in
        ap (shift_all (extent_of n us)) (later n (some-units n us forward.0))
    one-stretch most item items RunBegins r forward later =
        let none : complex_length rules (item ∷ items) ≡ 0 = rw r.not_complex refl in absurd (omega (arith, forward, none))

    agrees : (most : ℕ) (starts : Bool) (items : List ℕ) → ArePlain rules items → HasNoOpening (units_of (counted_units rules items))
        → turns_within cuts rules most starts false items ≡ later_boundaries_within (line_stretch cuts rules) most items
    unfolding turns_within later_boundaries_within line_verdict
    agrees zero starts items plain none = refl
    agrees (suc most) starts [] plain none = refl
    agrees (suc most) starts (item ∷ items) plain none =
        let us : List CountedUnit = counted_units rules (item ∷ items) in
        let r = ruled (line_class rules item) plain.0 in
        let found : turn rules false (first_unit rules starts item) items ≡ turn_by us (unit_verdict rules (units_of us)) = first-turn starts item items r plain.1 none in
        let forward = subst (IsTurnOf rules (item ∷ items)) found (first-forward rules starts false item items) in
        ap (λ (found : Turn). let s = turn_stretch_of cuts rules (item ∷ items) found in s.boundaries ++ shift_all s.extent (rest_by most s.opened s.extent (item ∷ items))) found
        ∙ one-stretch most item items (unit_verdict rules (units_of us)) r forward
        (λ n some.
        agrees most false (drop (extent_of n us) (item ∷ items)) (plain-drop (extent_of n us) (item ∷ items) plain) (opening-left n (item ∷ items) none))

    pub plain-agreement : (items : List ℕ) → ArePlain rules items → HasNoOpening (units_of (counted_units rules items))
        → turn_boundaries cuts rules items ≡ line_boundaries cuts rules items
    unfolding later_turns later_boundaries
    plain-agreement items plain none = ap (λ (later : List Boundary). start ∷ later) (agrees (length items) true items plain none)
