-- A turn goes forward, and ends where its list does.
use Rattle.std.proofs.Common.{◌≡◌, ℕ, suc, ◌+◌, ◌-◌, ◌<◌, ◌≤◌, ◌⊎◌, ◌&&◌, ◌||◌, not, Bool, true, false, cond, Option, Some, None, List, [], ◌∷◌, length, drop, refl, sym, ap, ◌∙◌, inl, inr, arith}
use Rattle.std.proofs.lemmas.List.{drop-drop, length-drop}
use Rattle.std.specs.Option.{option_map_or}
use Rattle.seg_pairs.specs.declared.provider.pairs.BreakState.{BreakState}
use Rattle.seg_pairs.specs.declared.provider.pairs.BreakState.TheVariants.{Break, Keep, NoMatch, Intermediate, Index}
use Rattle.seg_pairs.specs.PairTable.{named_state, is_intermediate, entry_of}
use Rattle.seg_pairs.specs.Walk.{is_class}
use Rattle.seg_line_pairs.specs.LineRules.{TableRules, line_class, is_complex_context}
use Rattle.seg_line_pairs.specs.LineBoundaries.{complex_length}
use Rattle.seg_line_pairs.specs.LineLists.{keeps, listed}
use Rattle.seg_line_pairs.specs.LineUnits.{is_mark, bears_none, is_joiner}
use Rattle.seg_line_pairs.specs.declared.engines.LineEngine.TheVariants.{Seventeen}
use Rattle.seg_line_turns.specs.TurnRules.{LeftUnit, with_item, is_joined, left_unit}
use Rattle.seg_line_turns.specs.TurnClasses.{is_glue, is_letter, is_hyphen, is_before_quote, is_after_quote, is_before_hyphen, is_space, is_zero_space, is_infix, is_digit, is_quote, is_contingent}
use Rattle.seg_line_turns.specs.Turns.{next_base, comes, to_base, sticks, Turn, Walking, turn_unless, walk_end_turn, walk_back_turn, walk_stop_turn, walk_begin, WalkStep, walk_step, walk_by, walk_turn, table_turn, quote_turn, list_turn, class_turn, right_turn, is_taken, opens, turn, start_unit, first_unit}
use Rattle.seg_line_turns.specs.Turns.Turn.{BreakAt, GoTo, RunAt}
use Rattle.seg_line_turns.specs.Turns.WalkStep.{Stops, GoesOn}

-- of this list a turn takes some items. Where it begins a run, two complex items stand
abbrev pub IsTurnOf : TableRules Seventeen → List ℕ → Turn → Type 0
IsTurnOf rules whole (BreakAt place resume) =
    (0 < place) × (place ≤ resume) × ((resume < length whole) ⊎ ((place ≡ length whole) × (resume ≡ length whole)))
IsTurnOf rules whole (GoTo place opened) = (0 < place) × (place < length whole)
IsTurnOf rules whole (RunAt first opened) = 1 < complex_length rules (drop first whole)

and-first : (a b : Bool) → (a && b) ≡ true → a ≡ true
and-first true b is = refl
and-first false b is = cc

and-last : (a b : Bool) → (a && b) ≡ true → b ≡ true
and-last true b is = is
and-last false b is = cc

-- the items after so many, of which the last has this class
pub record StandsAt (rules : TableRules Seventeen) (whole : List ℕ) (last class : ℕ) (items : List ℕ) : Type 0 where
  pub item : ℕ
  pub here : drop last whole ≡ item ∷ items
  pub is_class : line_class rules item ≡ class

pub stands-sum : (rules : TableRules Seventeen) (whole : List ℕ) (last class : ℕ) (items : List ℕ) → StandsAt rules whole last class items
    → suc last + length items ≡ length whole
stands-sum rules whole last class items at =
    let long = ap length at.here in let dropped = length-drop last whole in omega (arith, long, dropped)

pub stands-next : (rules : TableRules Seventeen) (whole : List ℕ) (last class next : ℕ) (items : List ℕ) → StandsAt rules whole last class (next ∷ items)
    → StandsAt rules whole (suc last) (line_class rules next) items
stands-next rules whole last class next items at =
    let more : last + 1 ≡ suc last = omega arith in
    record {
      item = next;
      here = rw (← more) (sym (drop-drop 1 last whole) ∙ ap (drop 1) at.here);
      is_class = refl;
    }

module _ (rules : TableRules Seventeen) (whole : List ℕ) where
  if-forward : (b : Bool) (x y : Turn) → (b ≡ true → IsTurnOf rules whole x) → IsTurnOf rules whole y → IsTurnOf rules whole (cond b x y)
  if-forward true x y some other = some refl
  if-forward false x y some other = other

  -- a base that comes stands among the items
  base-inside : (passes : ℕ → Bool) (items : List ℕ) → comes rules passes items ≡ true → to_base rules items < length items
  unfolding next_base
  base-inside passes [] there = cc
  base-inside passes (item ∷ items) there = on (is_mark Seventeen (line_class rules item)) (next_base rules items) refl there (base-inside passes items)
    where
      on : (b : Bool) (found : Option (ℕ × ℕ)) → next_base rules items ≡ found
          → option_map_or (λ (found : ℕ × ℕ). passes found.1) (cond b (option_map_or (λ (found : ℕ × ℕ). Some (suc found.0, found.1)) found None) (Some (0, line_class rules item))) false ≡ true
          → (comes rules passes items ≡ true → to_base rules items < length items)
          → option_map_or (λ (found : ℕ × ℕ). found.0) (cond b (option_map_or (λ (found : ℕ × ℕ). Some (suc found.0, found.1)) found None) (Some (0, line_class rules item))) (length (item ∷ items) - 1) < length (item ∷ items)
      on false found at there later = omega arith
      on true None at there later = cc
      on true (Some (k, class)) at there later =
          let here : to_base rules items < length items = later (rw at there) in
          let same : to_base rules items ≡ k = rw at refl in
          omega (arith, here, same)

  -- where there are items, to the base is no further than to the last
  base-within : (item : ℕ) (items : List ℕ) → to_base rules (item ∷ items) < length (item ∷ items)
  base-within item items = on (next_base rules (item ∷ items)) refl
    where
      on : (found : Option (ℕ × ℕ)) → next_base rules (item ∷ items) ≡ found → to_base rules (item ∷ items) < length (item ∷ items)
      on None at = rw at (omega arith)
      on (Some found) at = base-inside (λ class. true) (item ∷ items) (rw at refl)

  unless-forward : (joined opened : Bool) (place : ℕ) → 0 < place → place < length whole → IsTurnOf rules whole (turn_unless joined opened place)
  unless-forward true opened place some less = (some, less)
  unless-forward false opened place some less = (some, omega arith, inl less)

  end-forward : (w : Walking) (place : ℕ) (entry : BreakState) → 0 < w.saved → w.saved < length whole → 0 < place → place ≡ length whole
      → IsTurnOf rules whole (walk_end_turn w place entry)
  end-forward w place NoMatch some less more at = unless-forward w.is_saved_joined w.opened w.saved some less
  end-forward w place _ some less more at = (more, omega arith, inr (at, at))

  back-forward : (w : Walking) (joined : Bool) → 0 < w.saved → w.saved < length whole → IsTurnOf rules whole (walk_back_turn w joined)
  back-forward w joined some less =
      if-forward joined (cond (w.is_composite_first && not w.is_saved_joined) (BreakAt w.saved w.saved) (GoTo w.saved w.opened)) (turn_unless w.is_saved_joined w.opened w.saved)
      (λ is. if-forward (w.is_composite_first && not w.is_saved_joined) (BreakAt w.saved w.saved) (GoTo w.saved w.opened) (λ is. (some, omega arith, inl less)) (some, less))
      (unless-forward w.is_saved_joined w.opened w.saved some less)

  stop-forward : (w : Walking) (joined : Bool) (place : ℕ) (entry : BreakState) → 0 < w.saved → w.saved < length whole → 0 < place → place < length whole
      → IsTurnOf rules whole (walk_stop_turn w joined place entry)
  stop-forward w joined place Keep some less more within = (more, within)
  stop-forward w joined place Break some less more within = unless-forward joined w.opened place more within
  stop-forward w joined place _ some less more within = back-forward w joined some less

  -- where a walk goes on, the place that it saved stands inside
  abbrev IsStepOf : WalkStep → Type 0
  IsStepOf (Stops found) = IsTurnOf rules whole found
  IsStepOf (GoesOn w) = (0 < w.saved) × (w.saved < length whole)

  if-step : (b : Bool) (x y : WalkStep) → (b ≡ true → IsStepOf x) → IsStepOf y → IsStepOf (cond b x y)
  if-step true x y some other = some refl
  if-step false x y some other = other

  option-step : (f : ℕ → WalkStep) (found : Option ℕ) (x : WalkStep) → ((n : ℕ) → IsStepOf (f n)) → IsStepOf x → IsStepOf (option_map_or f found x)
  option-step f None x some none = none
  option-step f (Some n) x some none = some n

  cond-inside : (b : Bool) (place saved : ℕ) → (0 < place) × (place < length whole) → (0 < saved) × (saved < length whole)
      → (0 < cond b place saved) × (cond b place saved < length whole)
  cond-inside true place saved here other = here
  cond-inside false place saved here other = other

  step-forward : (w : Walking) (place class : ℕ) (after : List ℕ) → 0 < w.saved → w.saved < length whole → 0 < place → place + suc (length after) ≡ length whole
      → IsStepOf (walk_step rules w place class after)
  step-forward w place class after some less more sum =
      let within : place < length whole = omega (arith, sum) in
      let u : Walking = record w { opened = w.opened && is_space class } in
      if-step (is_glue class && not (bears_none Seventeen w.before)) _ _ (λ glued. (some, less))
      (if-step (w.opened && not (is_space class) && not (is_hyphen class)) _ _ (λ is. (more, within))
      (if-step (is_space w.before && not (is_zero_space w.state) && is_infix class && not (sticks rules.table w.state)) _ _ (λ is. (some, less))
      (if-step (is_quote class && is_space w.before && not (is_class rules.table w.state)) _ _
      (λ is. cond-inside (sticks rules.table w.state) place w.saved (more, within) (some, less))
      (if-step (is_space w.before && is_hyphen class && comes rules is_letter after) _ _
      (λ is.
      let there : comes rules is_letter after ≡ true = and-last (is_space w.before && is_hyphen class) (comes rules is_letter after) is in
      let inside : to_base rules after < length after = base-inside is_letter after there in
      if-forward (sticks rules.table w.state) _ _ (λ is. (omega arith, omega (arith, inside, sum))) (more, omega arith, inl (omega (arith, inside, sum))))
      (option-step _ (named_state (entry_of rules.table w.state class)) _
      (λ state. cond-inside (is_intermediate (entry_of rules.table w.state class) || is_class rules.table w.state) place w.saved (more, within) (some, less))
      (stop-forward u (is_joiner Seventeen w.before) place (entry_of rules.table w.state class) some less more within))))))

  by-forward : (s : WalkStep) (later : Walking → Turn) → IsStepOf s → ((w : Walking) → 0 < w.saved → w.saved < length whole → IsTurnOf rules whole (later w))
      → IsTurnOf rules whole (walk_by s later)
  by-forward (Stops found) later good more = good
  by-forward (GoesOn w) later good more = more w good.0 good.1

  walk-forward : (w : Walking) (place : ℕ) (items : List ℕ) → 0 < w.saved → w.saved < length whole → 0 < place → place + length items ≡ length whole
      → IsTurnOf rules whole (walk_turn rules w place items)
  unfolding walk_turn
  walk-forward w place [] some less more sum =
      end-forward w place (entry_of rules.table w.state rules.table.eot_property) some less more (omega (arith, sum))
  walk-forward w place (item ∷ items) some less more sum =
      by-forward (walk_step rules w place (line_class rules item) items) _ (step-forward w place (line_class rules item) items some less more sum)
      (λ next some less. walk-forward next (suc place) items some less (omega arith) (omega (arith, sum)))

  list-forward : (found : Option Bool) (place : ℕ) (opened : Bool) (x : Turn) → 0 < place → place < length whole → IsTurnOf rules whole x
      → IsTurnOf rules whole (list_turn found place opened x)
  list-forward (Some true) place opened x some less other = (some, omega arith, inl less)
  list-forward (Some false) place opened x some less other = (some, less)
  list-forward None place opened x some less other = other

  quote-forward : (place : ℕ) (after : List ℕ) → 0 < place → place + suc (length after) ≡ length whole → IsTurnOf rules whole (quote_turn rules place after)
  quote-forward place [] some sum =
      if-forward (comes rules is_hyphen []) (BreakAt place place) (BreakAt place place) (λ is. (some, omega arith, inl (omega (arith, sum)))) (some, omega arith, inl (omega (arith, sum)))
  quote-forward place (item ∷ items) some sum =
      let within = base-within item items in
      if-forward (comes rules is_hyphen (item ∷ items)) (BreakAt place place) _ (λ is. (some, omega arith, inl (omega (arith, sum))))
      (if-forward (is_mark Seventeen (line_class rules item)) (BreakAt place (place + suc (to_base rules (item ∷ items)))) (BreakAt place place)
      (λ is. (some, omega arith, inl (omega (arith, sum, within)))) (some, omega arith, inl (omega (arith, sum))))

  table-forward : (opened : Bool) (left : LeftUnit) (right : ℕ) (after : List ℕ) (entry : BreakState) → suc left.last + suc (length after) ≡ length whole
      → IsTurnOf rules whole (table_turn rules opened left right after entry)
  table-forward opened left right after Keep sum = (omega arith, omega (arith, sum))
  table-forward opened left right after Break sum = unless-forward (is_joined left) opened (suc left.last) (omega arith) (omega (arith, sum))
  table-forward opened left right after NoMatch sum = unless-forward (is_joined left) opened (suc left.last) (omega arith) (omega (arith, sum))
  table-forward opened left right after (Index state) sum =
      walk-forward (walk_begin rules.table (is_joined left) opened (suc left.last) right state) (suc (suc left.last)) after (omega arith) (omega (arith, sum)) (omega arith) (omega (arith, sum))
  table-forward opened left right after (Intermediate state) sum =
      walk-forward (walk_begin rules.table (is_joined left) opened (suc left.last) right state) (suc (suc left.last)) after (omega arith) (omega (arith, sum)) (omega arith) (omega (arith, sum))

  -- two complex items begin a run of two at least
  run-two : (last class next : ℕ) (items : List ℕ) → StandsAt rules whole last class (next ∷ items) → (is_complex_context class && is_complex_context (line_class rules next)) ≡ true
      → 1 < complex_length rules (drop last whole)
  run-two last class next items at both =
      let one : is_complex_context (line_class rules at.item) ≡ true = ap is_complex_context at.is_class ∙ and-first (is_complex_context class) (is_complex_context (line_class rules next)) both in
      let two = and-last (is_complex_context class) (is_complex_context (line_class rules next)) both in
      rw at.here (rw one (rw two (omega arith)))

  class-forward : (opened : Bool) (left : LeftUnit) (right : ℕ) (after : List ℕ) → StandsAt rules whole left.last left.last_class (right ∷ after)
      → IsTurnOf rules whole (class_turn rules opened left (line_class rules right) after)
  class-forward opened left right after at =
      let class : ℕ = line_class rules right in
      if-forward (is_complex_context left.last_class && is_complex_context class) _ _ (λ is. run-two left.last left.last_class right after at is)
      (if-forward (is_space left.class && is_infix class && comes rules is_digit after) _ _ (λ is. (some, omega arith, inl less))
      (if-forward (is_quote class && is_before_quote left.class) _ _ (λ is. quote-forward (suc left.last) after some sum)
      (if-forward (is_quote class && is_space left.class && opened) _ _ (λ is. (some, less))
      (if-forward (is_quote class && is_space left.class && comes rules is_hyphen after) _ _ (λ is. (some, omega arith, inl less))
      (if-forward (is_quote class && is_space left.class && comes rules (λ class. not (is_after_quote class)) after) _ _
      (λ is.
      let there = and-last (is_quote class && is_space left.class) (comes rules (λ class. not (is_after_quote class)) after) is in
      let inside : to_base rules after < length after = base-inside (λ class. not (is_after_quote class)) after there in
      (some, omega arith, inl (omega (arith, inside, sum))))
      (if-forward (is_before_hyphen left.class && is_hyphen class && comes rules is_letter after) _ _
      (λ is.
      let there = and-last (is_before_hyphen left.class && is_hyphen class) (comes rules is_letter after) is in
      let inside : to_base rules after < length after = base-inside is_letter after there in
      if-forward (is_contingent left.class && is_joined left) _ _ (λ is. (omega arith, omega (arith, inside, sum))) (some, omega arith, inl (omega (arith, inside, sum))))
      (table-forward opened left class after (entry_of rules.table left.class class) sum)))))))
    where
      sum : suc left.last + suc (length after) ≡ length whole
      sum = stands-sum rules whole left.last left.last_class (right ∷ after) at

      some : 0 < suc left.last
      some = omega arith

      less : suc left.last < length whole
      less = omega (arith, sum)

  right-forward : (opened : Bool) (left : LeftUnit) (right : ℕ) (after : List ℕ) → StandsAt rules whole left.last left.last_class (right ∷ after)
      → IsTurnOf rules whole (right_turn rules opened left right after)
  right-forward opened left right after at =
      let sum = stands-sum rules whole left.last left.last_class (right ∷ after) at in
      let less : suc left.last < length whole = omega (arith, sum) in
      if-forward (keeps Seventeen rules.style left.class (line_class rules right)) _ _ (λ is. (omega arith, less))
      (list-forward (listed Seventeen rules.style (is_joined left) left.class left.last_code_point (line_class rules right) right) (suc left.last) opened _ (omega arith) less
      (class-forward opened left right after at))

  pub turn-forward : (opened : Bool) (left : LeftUnit) (items : List ℕ) → StandsAt rules whole left.last left.last_class items
      → IsTurnOf rules whole (turn rules opened left items)
  unfolding turn
  turn-forward opened left [] at =
      let sum = stands-sum rules whole left.last left.last_class [] at in
      (omega arith, omega arith, inr (omega (arith, sum), omega (arith, sum)))
  turn-forward opened left (right ∷ after) at =
      if-forward (is_taken left (line_class rules right)) _ _
      (λ taken. turn-forward opened (with_item rules left right) after (stands-next rules whole left.last left.last_class right after at))
      (right-forward (opened || opens left (line_class rules right)) left right after at)

start-last : (unit : LeftUnit) (entry : BreakState) → ((start_unit unit entry).last ≡ unit.last) × ((start_unit unit entry).last_class ≡ unit.last_class)
start-last unit (Index state) = (refl, refl)
start-last unit (Intermediate state) = (refl, refl)
start-last unit Break = (refl, refl)
start-last unit Keep = (refl, refl)
start-last unit NoMatch = (refl, refl)

-- the first unit is its item alone, whatever it is read as
pub first-last : (rules : TableRules Seventeen) (starts : Bool) (code_point : ℕ)
    → ((first_unit rules starts code_point).last ≡ 0) × ((first_unit rules starts code_point).last_class ≡ line_class rules code_point)
first-last rules starts code_point =
    let unit = left_unit rules code_point in on (starts && Rattle.seg_line_turns.specs.TurnClasses.is_start unit.class)
  where
    on : (b : Bool)
        → ((cond b (start_unit (left_unit rules code_point) (entry_of rules.table rules.table.sot_property (line_class rules code_point))) (left_unit rules code_point)).last ≡ 0)
        × ((cond b (start_unit (left_unit rules code_point) (entry_of rules.table rules.table.sot_property (line_class rules code_point))) (left_unit rules code_point)).last_class ≡ line_class rules code_point)
    on true = start-last (left_unit rules code_point) (entry_of rules.table rules.table.sot_property (line_class rules code_point))
    on false = (refl, refl)

pub first-forward : (rules : TableRules Seventeen) (starts opened : Bool) (code_point : ℕ) (code_points : List ℕ)
    → IsTurnOf rules (code_point ∷ code_points) (turn rules opened (first_unit rules starts code_point) code_points)
first-forward rules starts opened code_point code_points =
    let first = first-last rules starts code_point in
    turn-forward rules (code_point ∷ code_points) opened (first_unit rules starts code_point) code_points
    (record { item = code_point; here = rw first.0 refl; is_class = sym first.1 })
