-- No boundary of the engine 17 stands before a mark that is glued.
use Rattle.std.proofs.Common.{◌≡◌, ℕ, zero, suc, ◌+◌, ◌<◌, ◌≤◌, ◌&&◌, ◌||◌, not, Bool, true, false, cond, if◌then◌else◌, Option, Some, None, List, [], ◌∷◌, length, drop, refl, sym, ap, ◌∙◌, subst, arith}
use Rattle.std.specs.Prelude.{slice_get}
use Rattle.std.specs.Option.{option_map_or}
use Rattle.std.proofs.lemmas.List.{length-drop}
use Rattle.std.proofs.lemmas.List.Folds.{length-prefix_len}
use Rattle.seg_text.specs.Boundaries.{shift_all, Cuts, with_status}
use Rattle.seg_pairs.specs.declared.provider.pairs.BreakState.{BreakState}
use Rattle.seg_pairs.specs.declared.provider.pairs.BreakState.TheVariants.{Break, Keep, NoMatch, Intermediate, Index}
use Rattle.seg_pairs.specs.PairTable.{named_state, is_intermediate, IsPairTable, class_of, entry_of}
use Rattle.seg_pairs.proofs.Pairs.{class-below, class-table}
use Rattle.seg_pairs.specs.Walk.{is_class}
use Rattle.seg_line_pairs.specs.LineRules.{TableRules, is_complex_point, is_complex_context, is_read_as_id, line_class}
use Rattle.seg_line_pairs.specs.LineClasses.{class_number}
use Rattle.seg_line_pairs.specs.LineClasses.LineClass.{ID}
use Rattle.seg_line_pairs.specs.LineBoundaries.{KeepsMarks}
use Rattle.seg_line_pairs.specs.LineUnits.{is_mark, is_glued, bears_none, is_joiner}
use Rattle.seg_line_pairs.specs.LineLists.{keeps, listed}
use Rattle.seg_line_pairs.specs.declared.engines.LineEngine.TheVariants.{Seventeen}
use Rattle.seg_line_pairs.proofs.LineStretches.{StandInside}
use Rattle.seg_line_pairs.proofs.MarkParts.{get-drop, Parts, AllPart, all-later, all-append, run-part, keeps-later}
use Rattle.seg_line_pairs.proofs.Marks.{mark-bears}
use Rattle.seg_line_turns.specs.TurnBoundaries.{run_of, turn_stretch_of, turn_stretch, later_turns, turn_boundaries, StartsBear}
use Rattle.seg_line_turns.specs.TurnClasses.{is_glue, is_complex_mark, is_letter, is_hyphen, is_start, is_before_quote, is_after_quote, is_before_hyphen, is_space, is_zero_space, is_infix, is_digit, is_quote, is_contingent}
use Rattle.seg_line_turns.specs.TurnRules.{LeftUnit, with_item, is_joined, left_unit}
use Rattle.seg_line_turns.specs.Turns.{comes, to_base, sticks, Turn, Walking, turn_unless, walk_end_turn, walk_back_turn, walk_stop_turn, walk_begin, WalkStep, walk_step, walk_by, walk_turn, table_turn, quote_turn, begins_marked, list_turn, right_turn, is_taken, opens, turn, start_unit, first_unit}
use Rattle.seg_line_turns.specs.Turns.Turn.{BreakAt, GoTo, RunAt}
use Rattle.seg_line_turns.specs.Turns.WalkStep.{Stops, GoesOn}
use Rattle.seg_line_turns.proofs.TurnForward.{IsTurnOf, StandsAt, stands-next, first-last, first-forward}
use Rattle.seg_line_turns.proofs.TurnSets.{complex-bear, starts-bear, complex-apart, complex-is, glue-is, mark-apart}
use Rattle.seg_line_turns.proofs.TurnStretches.{going, turns-nil, turns-next}

some-same : {X : Type 0} (x y : X) → Some x ≡ Some y → x ≡ y
some-same x y is = ap (λ found. option_map_or (λ z. z) found x) is

false-not : false ≡ true → ⊥
false-not is = cc

-- each code point's class is one of the table's, read as ID or not
pub class-below-count : (rules : TableRules Seventeen) → IsPairTable rules.table → class_number Seventeen ID < rules.table.property_count → (code_point : ℕ)
    → line_class rules code_point < rules.table.property_count
unfolding line_class
class-below-count rules checked has_id code_point = on (is_read_as_id Seventeen rules.style rules.table.complex_property class)
  where
    class : ℕ
    class = class_of rules.table None code_point

    on : (is_id : Bool) → (if is_id then class_number Seventeen ID else class) < rules.table.property_count
    on true = has_id
    on false = class-below rules.table code_point class checked (class-table rules.table None code_point refl)

-- a left unit bears marks as its last item does, and as its class, which the start of the text may have changed
abbrev pub BearsAlike : LeftUnit → Type 0
BearsAlike unit = bears_none Seventeen unit.last_class ≡ bears_none Seventeen unit.class

untaken : (left : LeftUnit) (class : ℕ) → BearsAlike left → is_taken left class ≡ false → is_glued Seventeen left.last_class class ≡ false
untaken left class alike is =
    rw alike (on (is_mark Seventeen class) (is_complex_mark class) (bears_none Seventeen left.class) (is_complex_context left.class) (mark-apart class) (ap (λ b. b && not (bears_none Seventeen left.class) && not (is_complex_context left.class && is_complex_mark class)) (sym (glue-is class)) ∙ is))
  where
    on : (a m n c : Bool) → (a ≡ true → m ≡ false) → ((a || m) && not n && not (c && m)) ≡ false → (a && not n) ≡ false
    on false m n c apart is = refl
    on true m true c apart is = refl
    on true true false c apart is = absurd (let no = apart refl in cc)
    on true false false true apart is = cc
    on true false false false apart is = cc

taken-alike : (rules : TableRules Seventeen) (left : LeftUnit) (right : ℕ) → is_taken left (line_class rules right) ≡ true → BearsAlike (with_item rules left right)
taken-alike rules left right is =
    on (is_mark Seventeen class) (is_complex_mark class) (bears_none Seventeen left.class) (is_complex_context left.class) refl refl refl
    (ap (λ b. b && not (bears_none Seventeen left.class) && not (is_complex_context left.class && is_complex_mark class)) (sym (glue-is class)) ∙ is)
  where
    class : ℕ
    class = line_class rules right

    on : (a m n c : Bool) → is_mark Seventeen (line_class rules right) ≡ a → is_complex_mark (line_class rules right) ≡ m → bears_none Seventeen left.class ≡ n
        → ((a || m) && not n && not (c && m)) ≡ true → bears_none Seventeen (line_class rules right) ≡ bears_none Seventeen left.class
    on true m false c mark complex bears is = mark-bears Seventeen (line_class rules right) mark ∙ sym bears
    on false true false c mark complex bears is = complex-bear (line_class rules right) (complex-is (line_class rules right) complex) ∙ sym bears
    on true m true c mark complex bears is = cc
    on false true true c mark complex bears is = cc
    on false false n c mark complex bears is = cc

module _ (rules : TableRules Seventeen) where
  module _ (whole : List ℕ) where
    -- what stands after the last item of all, or before an item that isn't glued to it, parts
    get-at : (last class j : ℕ) (items : List ℕ) → (at : StandsAt rules whole last class items) → slice_get whole (last + j) ≡ slice_get (at.item ∷ items) j
    get-at last class j items at = sym (get-drop last j whole) ∙ ap (λ (xs : List ℕ). slice_get xs j) at.here

    end-parts : (last class : ℕ) → StandsAt rules whole last class [] → Parts rules whole (suc last)
    end-parts last class at before mark here there =
        let more : last + 1 ≡ suc last = omega arith in
        absurd (none (sym (get-at last class 1 [] at) ∙ ap (slice_get whole) more ∙ there))
      where
        none : None ≡ Some mark → ⊥
        none is = cc

    item-parts : (last class next : ℕ) (items : List ℕ) → StandsAt rules whole last class (next ∷ items) → is_glued Seventeen class (line_class rules next) ≡ false → Parts rules whole (suc last)
    item-parts last class next items at unglued before mark here there is =
        let none : last + 0 ≡ last = omega arith in
        let more : last + 1 ≡ suc last = omega arith in
        let first : at.item ≡ before = some-same _ _ (sym (get-at last class 0 (next ∷ items) at) ∙ ap (slice_get whole) none ∙ here) in
        let second : next ≡ mark = some-same _ _ (sym (get-at last class 1 (next ∷ items) at) ∙ ap (slice_get whole) more ∙ there) in
        let same : class ≡ line_class rules before = sym at.is_class ∙ ap (line_class rules) first in
        ap (bears_none Seventeen) (sym same) ∙ on (bears_none Seventeen class) refl (ap (is_mark Seventeen) (ap (line_class rules) second) ∙ is)
      where
        on : (b : Bool) → bears_none Seventeen class ≡ b → is_mark Seventeen (line_class rules next) ≡ true → bears_none Seventeen class ≡ true
        on true bears mark = bears
        on false bears mark = absurd (false-not (sym unglued ∙ rw (mark, bears) refl))

    -- where a turn finds a boundary, it parts
    abbrev IsGood : Turn → Type 0
    IsGood (BreakAt place resume) = Parts rules whole place
    IsGood (GoTo place opened) = Unit {0}
    IsGood (RunAt first opened) = Unit {0}

    good-cond : (b : Bool) (x y : Turn) → IsGood x → IsGood y → IsGood (cond b x y)
    good-cond true x y good other = good
    good-cond false x y good other = other

    good-unless : (joined opened : Bool) (place : ℕ) → Parts rules whole place → IsGood (turn_unless joined opened place)
    good-unless true opened place good = tt
    good-unless false opened place good = good

    good-end : (w : Walking) (place : ℕ) (entry : BreakState) → Parts rules whole w.saved → Parts rules whole place → IsGood (walk_end_turn w place entry)
    good-end w place NoMatch saved good = good-unless w.is_saved_joined w.opened w.saved saved
    good-end w place _ saved good = good

    good-back : (w : Walking) (joined : Bool) → Parts rules whole w.saved → IsGood (walk_back_turn w joined)
    good-back w joined saved =
        good-cond joined (cond (w.is_composite_first && not w.is_saved_joined) (BreakAt w.saved w.saved) (GoTo w.saved w.opened)) (turn_unless w.is_saved_joined w.opened w.saved)
        (good-cond (w.is_composite_first && not w.is_saved_joined) (BreakAt w.saved w.saved) (GoTo w.saved w.opened) saved tt)
        (good-unless w.is_saved_joined w.opened w.saved saved)

    good-stop : (w : Walking) (joined : Bool) (place : ℕ) (entry : BreakState) → Parts rules whole w.saved → Parts rules whole place → IsGood (walk_stop_turn w joined place entry)
    good-stop w joined place Keep saved good = tt
    good-stop w joined place Break saved good = good-unless joined w.opened place good
    good-stop w joined place _ saved good = good-back w joined saved

    -- where a walk goes on after an item of this class, it saved a place that parts
    abbrev IsGoodStep : ℕ → WalkStep → Type 0
    IsGoodStep class (Stops found) = IsGood found
    IsGoodStep class (GoesOn w) = Parts rules whole w.saved × (w.before ≡ class)

    step-cond : (class : ℕ) (b : Bool) (x y : WalkStep) → IsGoodStep class x → IsGoodStep class y → IsGoodStep class (cond b x y)
    step-cond class true x y good other = good
    step-cond class false x y good other = other

    step-option : (class : ℕ) (f : ℕ → WalkStep) (found : Option ℕ) (x : WalkStep) → ((n : ℕ) → IsGoodStep class (f n)) → IsGoodStep class x
        → IsGoodStep class (option_map_or f found x)
    step-option class f None x some none = none
    step-option class f (Some n) x some none = some n

    good-saved : (b : Bool) (place saved : ℕ) → Parts rules whole place → Parts rules whole saved → Parts rules whole (cond b place saved)
    good-saved true place saved good other = good
    good-saved false place saved good other = other

    -- an item that a walk doesn't take as glued isn't
    not-glued : (before class : ℕ) → (is_glue class && not (bears_none Seventeen before)) ≡ false → is_glued Seventeen before class ≡ false
    not-glued before class is = on (is_mark Seventeen class) (ap (λ b. b && not (bears_none Seventeen before)) (sym (glue-is class)) ∙ is)
      where
        on : (b : Bool) → ((b || is_complex_mark class) && not (bears_none Seventeen before)) ≡ false → (b && not (bears_none Seventeen before)) ≡ false
        on true is = is
        on false is = refl

    step-good : (w : Walking) (last item : ℕ) (items : List ℕ) → StandsAt rules whole last w.before (item ∷ items) → Parts rules whole w.saved
        → IsGoodStep (line_class rules item) (walk_step rules w (suc last) (line_class rules item) items)
    step-good w last item items at saved = on (is_glue (line_class rules item) && not (bears_none Seventeen w.before)) refl
      where
        on : (b : Bool) → (is_glue (line_class rules item) && not (bears_none Seventeen w.before)) ≡ b
            → IsGoodStep (line_class rules item) (walk_step rules w (suc last) (line_class rules item) items)
        on true is = rw is (saved, refl)
        on false is =
            let class : ℕ = line_class rules item in
            let here : Parts rules whole (suc last) = item-parts last w.before item items at (not-glued w.before class is) in
            let u : Walking = record w { opened = w.opened && is_space class } in
            let saves : Bool = is_intermediate (entry_of rules.table w.state class) || is_class rules.table w.state in
            rw is
            (step-cond class (w.opened && not (is_space class) && not (is_hyphen class)) _ _ tt
            (step-cond class (is_space w.before && not (is_zero_space w.state) && is_infix class && not (sticks rules.table w.state)) _ _ tt
            (step-cond class (is_quote class && is_space w.before && not (is_class rules.table w.state)) _ _ tt
            (step-cond class (is_space w.before && is_hyphen class && comes rules is_letter items) _ _
            (good-cond (sticks rules.table w.state) _ _ tt here)
            (step-option class _ (named_state (entry_of rules.table w.state class)) _
            (λ state. (good-saved saves (suc last) w.saved here saved, refl))
            (good-stop u (is_joiner Seventeen w.before) (suc last) (entry_of rules.table w.state class) saved here))))))

    by-good : (class : ℕ) (s : WalkStep) (later : Walking → Turn) → IsGoodStep class s → ((w : Walking) → w.before ≡ class → Parts rules whole w.saved → IsGood (later w))
        → IsGood (walk_by s later)
    by-good class (Stops found) later good more = good
    by-good class (GoesOn w) later good more = more w good.1 good.0

    walk-good : (w : Walking) (last : ℕ) (items : List ℕ) → StandsAt rules whole last w.before items → Parts rules whole w.saved
        → IsGood (walk_turn rules w (suc last) items)
    unfolding walk_turn
    walk-good w last [] at saved = good-end w (suc last) (entry_of rules.table w.state rules.table.eot_property) saved (end-parts last w.before at)
    walk-good w last (item ∷ items) at saved =
        by-good (line_class rules item) (walk_step rules w (suc last) (line_class rules item) items) _ (step-good w last item items at saved)
        (λ next is good. walk-good next (suc last) items (subst (λ class. StandsAt rules whole (suc last) class items) (sym is) (stands-next rules whole last w.before item items at)) good)

    good-list : (found : Option Bool) (place : ℕ) (opened : Bool) (x : Turn) → Parts rules whole place → IsGood x → IsGood (list_turn found place opened x)
    good-list (Some true) place opened x good other = good
    good-list (Some false) place opened x good other = tt
    good-list None place opened x good other = other

    good-quote : (place : ℕ) (after : List ℕ) → Parts rules whole place → IsGood (quote_turn rules place after)
    good-quote place after good =
        good-cond (comes rules is_hyphen after) _ _ good (good-cond (begins_marked rules after) (BreakAt place (place + suc (to_base rules after))) (BreakAt place place) good good)

    good-table : (opened : Bool) (left : LeftUnit) (right : ℕ) (after : List ℕ) (entry : BreakState) → Parts rules whole (suc left.last)
        → StandsAt rules whole (suc left.last) (line_class rules right) after → IsGood (table_turn rules opened left (line_class rules right) after entry)
    good-table opened left right after Keep here at = tt
    good-table opened left right after Break here at = good-unless (is_joined left) opened (suc left.last) here
    good-table opened left right after NoMatch here at = good-unless (is_joined left) opened (suc left.last) here
    good-table opened left right after (Index state) here at =
        walk-good (walk_begin rules.table (is_joined left) opened (suc left.last) (line_class rules right) state) (suc left.last) after at here
    good-table opened left right after (Intermediate state) here at =
        walk-good (walk_begin rules.table (is_joined left) opened (suc left.last) (line_class rules right) state) (suc left.last) after at here

    good-right : (opened : Bool) (left : LeftUnit) (right : ℕ) (after : List ℕ) → Parts rules whole (suc left.last)
        → StandsAt rules whole (suc left.last) (line_class rules right) after → IsGood (right_turn rules opened left right after)
    good-right opened left right after here at =
        let class : ℕ = line_class rules right in
        good-cond (keeps Seventeen rules.style left.class class) _ _ tt
        (good-list (listed Seventeen rules.style (is_joined left) left.class left.last_code_point class right) (suc left.last) opened _ here
        (good-cond (is_complex_context left.last_class && is_complex_context class) _ _ tt
        (good-cond (is_space left.class && is_infix class && comes rules is_digit after) _ _ here
        (good-cond (is_quote class && is_before_quote left.class) _ _ (good-quote (suc left.last) after here)
        (good-cond (is_quote class && is_space left.class && opened) _ _ tt
        (good-cond (is_quote class && is_space left.class && comes rules is_hyphen after) _ _ here
        (good-cond (is_quote class && is_space left.class && comes rules (λ class. not (is_after_quote class)) after) _ _ here
        (good-cond (is_before_hyphen left.class && is_hyphen class && comes rules is_letter after) _ _
        (good-cond (is_contingent left.class && is_joined left) _ _ tt here)
        (good-table opened left right after (entry_of rules.table left.class class) here at)))))))))

    turn-good : (opened : Bool) (left : LeftUnit) (items : List ℕ) → BearsAlike left → StandsAt rules whole left.last left.last_class items
        → IsGood (turn rules opened left items)
    unfolding turn
    turn-good opened left [] alike at = end-parts left.last left.last_class at
    turn-good opened left (right ∷ after) alike at =
        on (is_taken left (line_class rules right)) refl
        (λ taken. turn-good opened (with_item rules left right) after (taken-alike rules left right taken) (stands-next rules whole left.last left.last_class right after at))
      where
        on : (b : Bool) → is_taken left (line_class rules right) ≡ b
            → (is_taken left (line_class rules right) ≡ true → IsGood (turn rules opened (with_item rules left right) after))
            → IsGood (turn rules opened left (right ∷ after))
        on true is marked = rw is (marked is)
        on false is marked =
            rw is (good-right (opened || opens left (line_class rules right)) left right after
            (item-parts left.last left.last_class right after at (untaken left (line_class rules right) alike is))
            (stands-next rules whole left.last left.last_class right after at))

  module _ (below : (code_point : ℕ) → line_class rules code_point < rules.table.property_count) (starts_bear : StartsBear rules.table) where
    start-alike : (code_point : ℕ) (entry : BreakState) → entry_of rules.table rules.table.sot_property (line_class rules code_point) ≡ entry
        → is_start (line_class rules code_point) ≡ true → BearsAlike (start_unit (left_unit rules code_point) entry)
    start-alike code_point (Index state) at is = starts-bear (line_class rules code_point) is ∙ sym (starts_bear (line_class rules code_point) state (below code_point) at)
    start-alike code_point (Intermediate state) at is = refl
    start-alike code_point Break at is = refl
    start-alike code_point Keep at is = refl
    start-alike code_point NoMatch at is = refl

    first-alike : (starts : Bool) (code_point : ℕ) → BearsAlike (first_unit rules starts code_point)
    first-alike starts code_point = on starts (is_start (line_class rules code_point)) refl
      where
        on : (a b : Bool) → is_start (line_class rules code_point) ≡ b
            → BearsAlike (cond (a && b) (start_unit (left_unit rules code_point) (entry_of rules.table rules.table.sot_property (line_class rules code_point))) (left_unit rules code_point))
        on true true is = start-alike code_point (entry_of rules.table rules.table.sot_property (line_class rules code_point)) refl is
        on true false is = refl
        on false b is = refl

    first-good : (starts opened : Bool) (code_point : ℕ) (code_points : List ℕ)
        → IsGood (code_point ∷ code_points) (turn rules opened (first_unit rules starts code_point) code_points)
    first-good starts opened code_point code_points =
        let first = first-last rules starts code_point in
        turn-good (code_point ∷ code_points) opened (first_unit rules starts code_point) code_points (first-alike starts code_point)
        (record { item = code_point; here = rw first.0 refl; is_class = sym first.1 })

    module _ (cuts : Cuts) (stand : StandInside cuts) where
      stretch-parts : (whole : List ℕ) (found : Turn) → IsTurnOf rules whole found → IsGood whole found → AllPart rules whole (turn_stretch_of cuts rules whole found).boundaries
      stretch-parts whole (BreakAt place resume) is good = (good, tt)
      stretch-parts whole (GoTo place opened) is good = tt
      stretch-parts whole (RunAt first opened) two good =
          let rest : List ℕ = drop first whole in
          let long = length-prefix_len (is_complex_point rules) rest in
          all-later rules first whole (with_status 0 (cuts (run_of rules rest))) (run-part rules cuts stand complex-apart rest (run_of rules rest) (omega (arith, long, two)) long)

      turns-part : (most : ℕ) (starts opened : Bool) (xs : List ℕ) → length xs ≤ most → AllPart rules xs (later_turns cuts rules starts opened xs)
      turns-part most starts opened [] bound = rw (turns-nil cuts rules starts opened) tt
      turns-part zero starts opened (x ∷ xs) bound = absurd (omega arith)
      turns-part (suc most) starts opened (x ∷ xs) bound =
          let s = turn_stretch cuts rules starts opened x xs in
          let rest : List ℕ = drop s.extent (x ∷ xs) in
          let fewer : length rest ≤ most = omega (arith, bound, length-drop s.extent (x ∷ xs), going cuts rules starts opened x xs) in
          rw (turns-next cuts rules starts opened x xs)
          (all-append rules (x ∷ xs) s.boundaries (shift_all s.extent (later_turns cuts rules false s.opened rest))
          (stretch-parts (x ∷ xs) (turn rules opened (first_unit rules starts x) xs) (first-forward rules starts opened x xs) (first-good starts opened x xs))
          (all-later rules s.extent (x ∷ xs) (later_turns cuts rules false s.opened rest) (turns-part most false s.opened rest fewer)))

      pub turns-keep : (code_points : List ℕ) → KeepsMarks rules code_points (turn_boundaries cuts rules code_points)
      turns-keep code_points k before mark (zero, less, is) = absurd (omega (arith, is))
      turns-keep code_points k before mark (suc j, less, is) =
          keeps-later rules code_points (later_turns cuts rules true false code_points) (turns-part (length code_points) true false code_points (omega arith))
          k before mark (j, omega (arith, less), is)
