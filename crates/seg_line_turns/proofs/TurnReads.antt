-- Turns and walks as their items are read, one after another.
use Rattle.std.proofs.Common.{◌≡◌, ℕ, suc, ◌||◌, Bool, true, false, cond, List, [], ◌∷◌, refl, sym, ap, ◌∙◌}
use Rattle.seg_text.specs.Items.{Item, Text, start_of, code_points}
use Rattle.seg_pairs.specs.PairTable.{entry_of}
use Rattle.seg_line_pairs.specs.LineRules.{TableRules, line_class}
use Rattle.seg_line_pairs.specs.declared.engines.LineEngine.TheVariants.{Seventeen}
use Rattle.seg_line_turns.specs.declared.turn_units.Left.{Left}
use Rattle.seg_line_turns.specs.declared.turn_units.TurnOutcome.{TurnOutcome}
use Rattle.seg_line_turns.specs.declared.turn_units.TurnOutcome.TheVariants as found
use Rattle.seg_line_turns.specs.declared.turn_walk.Walker.{Walker}
use Rattle.std.specs.declared.ops.ControlFlow.{ControlFlow}
use Rattle.std.specs.declared.ops.ControlFlow.TheVariants as outcome
use Rattle.seg_line_turns.specs.TurnPlaces.{item_place, placed, step_at, walker_at, walker_seen, left_seen, IsLeft, IsWalkAt, FindsBetween}
use Rattle.seg_line_turns.specs.TurnRules.{LeftUnit, with_item}
use Rattle.seg_line_turns.specs.Turns.{Turn, Walking, WalkStep, walk_step, walk_by, walk_turn, walk_end_turn, turn, right_turn, is_taken, opens}
use Rattle.seg_line_turns.specs.Turns.Turn.{BreakAt}
use Rattle.seg_line_turns.specs.Turns.WalkStep.{Stops, GoesOn}
use Rattle.seg_line_turns.proofs.TurnPlaces.{next-of, end-of}

-- what this walk finds before what is left
pub record IsWalking (rules : TableRules Seventeen) (whole : Text) (walker : Walker) (rest : Text) (found : Turn) : Type 0 where
  pub number : ℕ
  pub saved : ℕ
  pub at : IsWalkAt whole number saved walker rest
  pub same : walk_turn rules (walker_seen saved walker) number (code_points rest.items) ≡ found

walk-nil : (rules : TableRules Seventeen) (w : Walking) (number : ℕ) → walk_turn rules w number [] ≡ walk_end_turn w number (entry_of rules.table w.state rules.table.eot_property)
unfolding walk_turn
walk-nil rules w number = refl

walk-cons : (rules : TableRules Seventeen) (w : Walking) (number item : ℕ) (items : List ℕ)
    → walk_turn rules w number (item ∷ items) ≡ walk_by (walk_step rules w number (line_class rules item) items) (λ w. walk_turn rules w (suc number) items)
unfolding walk_turn
walk-cons rules w number item items = refl

pub walking-end : (rules : TableRules Seventeen) (whole : Text) (walker : Walker) (rest after : Text) (found : Turn) (end : ℕ) (result : TurnOutcome) → IsWalking rules whole walker rest found
    → rest.items ≡ [] → after.items ≡ [] → after.end ≡ rest.end → end ≡ start_of after
    → ((whole : Text) (number saved : ℕ) → walker.saved ≡ item_place saved whole → end ≡ item_place number whole
    → result ≡ placed whole (walk_end_turn (walker_seen saved walker) number (entry_of rules.table walker.state rules.table.eot_property)))
    → result ≡ placed whole found
walking-end rules whole walker rest after found end result walking none empty end_is place finds =
    let points : code_points rest.items ≡ [] = ap code_points none in
    finds whole walking.number walking.saved walking.at.saved_place (end-of whole rest after walking.number end walking.at.after none empty end_is place)
    ∙ ap (placed whole) (sym (walk-nil rules (walker_seen walking.saved walker) walking.number) ∙ ap (walk_turn rules (walker_seen walking.saved walker) walking.number) (sym points) ∙ walking.same)

-- what a step says of the next item
abbrev pub Steps : TableRules Seventeen → Walker → ℕ → ℕ → Text → ControlFlow TurnOutcome Walker → Type 0
Steps rules walker place class after step =
    (whole : Text) (number saved : ℕ) → place ≡ item_place number whole → IsWalkAt whole (suc number) saved walker after
    → step ≡ step_at whole (walk_step rules (walker_seen saved walker) number class (code_points after.items))

stop-found : (whole : Text) (s : WalkStep) (later : Walking → Turn) (result : TurnOutcome) → outcome.Break result ≡ step_at whole s → result ≡ placed whole (walk_by s later)
stop-found whole (Stops turn) later result is = ap turn_in is
  where
    turn_in : ControlFlow TurnOutcome Walker → TurnOutcome
    turn_in (outcome.Break turn) = turn
    turn_in (outcome.Continue walker) = result
stop-found whole (GoesOn w) later result is = cc

pub record Goes (whole : Text) (next : Walker) (s : WalkStep) : Type 0 where
  pub walking : Walking
  pub is : s ≡ GoesOn walking
  pub next_is : next ≡ walker_at whole walking

go-found : (whole : Text) (s : WalkStep) (next : Walker) → outcome.Continue next ≡ step_at whole s → Goes whole next s
go-found whole (Stops turn) next is = cc
go-found whole (GoesOn w) next is = record { walking = w; is = refl; next_is = ap walker_in is }
  where
    walker_in : ControlFlow TurnOutcome Walker → Walker
    walker_in (outcome.Break turn) = next
    walker_in (outcome.Continue walker) = walker

module _ (rules : TableRules Seventeen) (whole : Text) (walker : Walker) (rest after : Text) (found : Turn) (item : Item) (class : ℕ)
    (walking : IsWalking rules whole walker rest found) (items : rest.items ≡ item ∷ after.items) (end : after.end ≡ rest.end) (class_is : class ≡ line_class rules item.1) where
  step-here : (step : ControlFlow TurnOutcome Walker) → Steps rules walker item.0 class after step
      → step ≡ step_at whole (walk_step rules (walker_seen walking.saved walker) walking.number (line_class rules item.1) (code_points after.items))
  step-here step steps =
      let next = next-of whole rest after walking.number item walking.at.after items end in
      steps whole walking.number walking.saved next.place_is (record { saved_place = walking.at.saved_place; after = next.after_is })
      ∙ ap (λ class. step_at whole (walk_step rules (walker_seen walking.saved walker) walking.number class (code_points after.items))) class_is

  found-here : walk_by (walk_step rules (walker_seen walking.saved walker) walking.number (line_class rules item.1) (code_points after.items)) (λ w. walk_turn rules w (suc walking.number) (code_points after.items))
      ≡ found
  found-here =
      sym (walk-cons rules (walker_seen walking.saved walker) walking.number item.1 (code_points after.items))
      ∙ ap (walk_turn rules (walker_seen walking.saved walker) walking.number) (sym (ap code_points items)) ∙ walking.same

  pub walking-stops : (step : ControlFlow TurnOutcome Walker) (result : TurnOutcome) → Steps rules walker item.0 class after step → step ≡ outcome.Break result → result ≡ placed whole found
  walking-stops step result steps is =
      stop-found whole (walk_step rules (walker_seen walking.saved walker) walking.number (line_class rules item.1) (code_points after.items))
      (λ w. walk_turn rules w (suc walking.number) (code_points after.items)) result (sym is ∙ step-here step steps)
      ∙ ap (placed whole) found-here

  pub walking-goes : (step : ControlFlow TurnOutcome Walker) (next : Walker) → Steps rules walker item.0 class after step → step ≡ outcome.Continue next → IsWalking rules whole next after found
  walking-goes step next steps is =
      let on = next-of whole rest after walking.number item walking.at.after items end in
      let goes = go-found whole (walk_step rules (walker_seen walking.saved walker) walking.number (line_class rules item.1) (code_points after.items)) next (sym is ∙ step-here step steps) in
      record {
        number = suc walking.number;
        saved = goes.walking.saved;
        at = record { saved_place = ap (λ (w : Walker). w.saved) goes.next_is; after = on.after_is };
        same = ap (λ (w : Walker). walk_turn rules (walker_seen goes.walking.saved w) (suc walking.number) (code_points after.items)) goes.next_is
            ∙ sym (ap (λ (s : WalkStep). walk_by s (λ w. walk_turn rules w (suc walking.number) (code_points after.items))) goes.is)
            ∙ found-here;
      }

-- what the turn from this left unit finds before what is left
pub record IsTurning (rules : TableRules Seventeen) (whole : Text) (opened : Bool) (left : Left) (rest : Text) (found : Turn) : Type 0 where
  pub last : ℕ
  pub at : IsLeft whole last left rest
  pub same : turn rules opened (left_seen last left) (code_points rest.items) ≡ found

turn-nil : (rules : TableRules Seventeen) (opened : Bool) (left : LeftUnit) → turn rules opened left [] ≡ BreakAt (suc left.last) (suc left.last)
unfolding turn
turn-nil rules opened left = refl

pub turn-cons : (rules : TableRules Seventeen) (opened : Bool) (left : LeftUnit) (item : ℕ) (items : List ℕ)
    → turn rules opened left (item ∷ items)
    ≡ cond (is_taken left (line_class rules item)) (turn rules opened (with_item rules left item) items)
    (right_turn rules (opened || opens left (line_class rules item)) left item items)
unfolding turn
turn-cons rules opened left item items = refl

pub turning-end : (rules : TableRules Seventeen) (whole : Text) (opened : Bool) (left : Left) (rest after : Text) (turn_found : Turn) (end : ℕ) → IsTurning rules whole opened left rest turn_found
    → rest.items ≡ [] → after.items ≡ [] → after.end ≡ rest.end → end ≡ start_of after → found.Break end end ≡ placed whole turn_found
turning-end rules whole opened left rest after turn_found end turning none empty end_is place =
    let at = end-of whole rest after (suc turning.last) end turning.at.after none empty end_is place in
    ap (λ n. found.Break n n) at
    ∙ ap (placed whole) (sym (turn-nil rules opened (left_seen turning.last left)) ∙ ap (turn rules opened (left_seen turning.last left)) (sym (ap code_points none)) ∙ turning.same)

module _ (rules : TableRules Seventeen) (whole : Text) (opened : Bool) (left : Left) (rest after : Text) (found : Turn) (item : Item)
    (turning : IsTurning rules whole opened left rest found) (items : rest.items ≡ item ∷ after.items) (end : after.end ≡ rest.end) where
  turn-here : cond (is_taken (left_seen turning.last left) (line_class rules item.1)) (turn rules opened (with_item rules (left_seen turning.last left) item.1) (code_points after.items))
      (right_turn rules (opened || opens (left_seen turning.last left) (line_class rules item.1)) (left_seen turning.last left) item.1 (code_points after.items))
      ≡ found
  turn-here =
      sym (turn-cons rules opened (left_seen turning.last left) item.1 (code_points after.items))
      ∙ ap (turn rules opened (left_seen turning.last left)) (sym (ap code_points items)) ∙ turning.same

  pub turning-taken : (next : Left) (taken : Bool) → ((last : ℕ) → taken ≡ is_taken (left_seen last left) (line_class rules item.1)) → taken ≡ true
      → next ≡ record { class = left.class; last_class = line_class rules item.1; last_code_point = item.1; last_place = item.0 } → IsTurning rules whole opened next after found
  turning-taken next taken taken_is is next_is =
      let on = next-of whole rest after (suc turning.last) item turning.at.after items end in
      record {
        last = suc turning.last;
        at = record { place = ap (λ (left : Left). left.last_place) next_is ∙ on.place_is; after = on.after_is };
        same = ap (λ (left : Left). turn rules opened (left_seen (suc turning.last) left) (code_points after.items)) next_is
            ∙ sym (ap (λ b. cond b (turn rules opened (with_item rules (left_seen turning.last left) item.1) (code_points after.items))
            (right_turn rules (opened || opens (left_seen turning.last left) (line_class rules item.1)) (left_seen turning.last left) item.1 (code_points after.items)))
            (sym (taken_is turning.last) ∙ is))
            ∙ turn-here;
      }

  pub turning-right : (taken wide : Bool) (result : TurnOutcome) → ((last : ℕ) → taken ≡ is_taken (left_seen last left) (line_class rules item.1)) → taken ≡ false
      → ((last : ℕ) → wide ≡ (opened || opens (left_seen last left) (line_class rules item.1)))
      → FindsBetween left item.0 after result (λ unit. right_turn rules wide unit item.1 (code_points after.items))
      → result ≡ placed whole found
  turning-right taken wide result taken_is isnt wide_is finds =
      let on = next-of whole rest after (suc turning.last) item turning.at.after items end in
      finds whole turning.last (record { left_place = turning.at.place; place_is = on.place_is; after = on.after_is })
      ∙ ap (placed whole)
      (ap (λ wide. right_turn rules wide (left_seen turning.last left) item.1 (code_points after.items)) (wide_is turning.last)
      ∙ sym (ap (λ b. cond b (turn rules opened (with_item rules (left_seen turning.last left) item.1) (code_points after.items))
      (right_turn rules (opened || opens (left_seen turning.last left) (line_class rules item.1)) (left_seen turning.last left) item.1 (code_points after.items)))
      (sym (taken_is turning.last) ∙ isnt))
      ∙ turn-here)

pub or-first : (x a b : Bool) → x ≡ a → a ≡ true → x ≡ (a || b)
or-first x a b is holds = rw holds (is ∙ holds)

pub or-second : (x a b : Bool) → a ≡ false → x ≡ b → x ≡ (a || b)
or-second x a b fails is = rw fails is
