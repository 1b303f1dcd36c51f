-- What the premises of plain texts rule out, and walks over the units of plain texts.
use Rattle.std.proofs.Common.{◌≡◌, ℕ, zero, suc, ◌+◌, ◌==◌, ◌&&◌, ◌||◌, not, Bool, true, false, cond, Option, Some, None, List, [], ◌∷◌, map, drop, refl, sym, ap, ◌∙◌, inl, inr, arith}
use Rattle.std.proofs.lemmas.List.{drop-drop, drop-map}
use Rattle.std.specs.Option.{option_map_or}
use Rattle.seg_data.proofs.Options.{option-cases}
use Rattle.seg_pairs.specs.declared.provider.pairs.BreakState.{BreakState}
use Rattle.seg_pairs.specs.declared.provider.pairs.BreakState.TheVariants.{Break, Keep, NoMatch}
use Rattle.seg_pairs.specs.PairTable.{named_state, is_intermediate, PairTable, entry_of}
use Rattle.seg_pairs.specs.Walk.{Walk, walk, is_class}
use Rattle.seg_pairs.specs.Verdict.{Verdict}
use Rattle.seg_pairs.specs.Verdict.Verdict.{BreakAfter, GoAfter, RunBegins}
use Rattle.seg_pairs.proofs.Walks.{walk-named, walk-stop, walk-end}
use Rattle.seg_line_pairs.specs.LineRules.{TableRules, line_class, is_complex_context}
use Rattle.seg_line_pairs.specs.LineUnits.{CountedUnit, units_from, units_of, extent_of, LineUnit, is_mark, is_glued, bears_none, is_joiner}
use Rattle.seg_line_pairs.specs.LineVerdict.{unit_classes, joined_before, begins_joined, unless, unit_stop_verdict, unit_end_verdict, unit_walk_verdict}
use Rattle.seg_line_pairs.specs.declared.engines.LineEngine.TheVariants.{Seventeen}
use Rattle.seg_line_pairs.proofs.Marks.{mark-bears}
use Rattle.seg_line_turns.specs.PlainTexts.{is_quoting, ArePlain}
use Rattle.seg_line_turns.specs.TurnRules.{LeftUnit, left_unit, with_item, is_joined}
use Rattle.seg_line_turns.specs.TurnClasses.{is_glue, is_complex_mark, is_hyphen, is_start, is_infix, is_quote}
use Rattle.seg_line_turns.specs.Turns.{Turn, Walking, WalkStep, turn_unless, walk_end_turn, walk_stop_turn, walk_on, walk_entry_step, walk_step, walk_by, walk_turn}
use Rattle.seg_line_turns.specs.Turns.Turn.{BreakAt, GoTo, RunAt}
use Rattle.seg_line_turns.specs.Turns.WalkStep.{Stops, GoesOn}
use Rattle.seg_line_turns.proofs.TurnMarks.{BearsAlike}
use Rattle.seg_line_turns.proofs.TurnSets.{glue-is}

or-left : (a b : Bool) → (a || b) ≡ false → a ≡ false
or-left true b is = cc
or-left false b is = refl

or-right : (a b : Bool) → (a || b) ≡ false → b ≡ false
or-right true b is = cc
or-right false b is = is

or-none : (b : Bool) → (b || false) ≡ b
or-none true = refl
or-none false = refl

pub and-none : (b : Bool) → (b && false) ≡ false
and-none true = refl
and-none false = refl

pub record Ruled (class : ℕ) : Type 0 where
  pub not_infix : is_infix class ≡ false
  pub not_hyphen : is_hyphen class ≡ false
  pub not_quote : is_quote class ≡ false
  pub not_complex : is_complex_context class ≡ false
  pub no_complex_mark : is_complex_mark class ≡ false
  pub not_start : is_start class ≡ false

pub ruled : (class : ℕ) → is_quoting class ≡ false → Ruled class
unfolding is_quoting is_hyphen is_complex_context is_start
ruled class plain =
    let a = or-right (class == 39) _ plain in
    let b = or-right (class == 33) _ a in
    let c = or-right (class == 31) _ b in
    let d = or-right (class == 54) _ c in
    let e = or-right (class == 56) _ d in
    let f = or-right (class == 55) _ e in
    let g = or-right (class == 58) _ f in
    let n39 = or-left (class == 39) _ plain in
    let n33 = or-left (class == 33) _ a in
    let n31 = or-left (class == 31) _ b in
    let n54 = or-left (class == 54) _ c in
    let n56 = or-left (class == 56) _ d in
    let n55 = or-left (class == 55) _ e in
    let n58 = or-left (class == 58) _ f in
    let n59 = or-left (class == 59) _ g in
    record {
      not_infix = n39;
      not_hyphen = rw (n31, n33) refl;
      not_quote = n55;
      not_complex = rw (n58, n59) refl;
      no_complex_mark = n59;
      not_start = rw (n33, n31, n56, n55, n54) refl;
    }

-- the glue of a plain class is its mark
pub glue-mark : (class : ℕ) → Ruled class → is_glue class ≡ is_mark Seventeen class
glue-mark class r = glue-is class ∙ ap (λ b. is_mark Seventeen class || b) r.no_complex_mark ∙ or-none (is_mark Seventeen class)

-- a unit of a plain text with what a turn keeps of it, from a base alone and with one mark more
pub record TurnUnit : Type 0 where
  pub code_point : ℕ
  pub left : LeftUnit

abbrev pub unit_at : TableRules Seventeen → ℕ → TurnUnit
unit_at rules code_point = record { code_point = code_point; left = left_unit rules code_point }

abbrev pub unit_with : TableRules Seventeen → TurnUnit → ℕ → TurnUnit
unit_with rules unit mark = record unit { left = with_item rules unit.left mark }

abbrev pub is_none : ℕ → Bool
is_none zero = true
is_none (suc n) = false

abbrev pub counted : TurnUnit → CountedUnit
counted unit = record {
  extent = suc unit.left.last;
  unit = record {
    class = unit.left.class;
    code_point = unit.code_point;
    left_code_point = unit.left.last_code_point;
    is_joined = is_joined unit.left;
    is_single = is_none unit.left.last;
  };
}

-- a unit with one mark more bears marks as it does
pub with-alike : (rules : TableRules Seventeen) (unit : TurnUnit) (item : ℕ) → is_glued Seventeen unit.left.class (line_class rules item) ≡ true → BearsAlike (unit_with rules unit item).left
with-alike rules unit item glued = on (is_mark Seventeen (line_class rules item)) (bears_none Seventeen unit.left.class) refl refl glued
  where
    on : (a b : Bool) → is_mark Seventeen (line_class rules item) ≡ a → bears_none Seventeen unit.left.class ≡ b → (a && not b) ≡ true
        → bears_none Seventeen (line_class rules item) ≡ bears_none Seventeen unit.left.class
    on true false mark bears glued = mark-bears Seventeen (line_class rules item) mark ∙ sym bears
    on true true mark bears glued = cc
    on false b mark bears glued = cc

-- a walk with no opening before it
abbrev pub walking : Bool → ℕ → ℕ → Bool → ℕ → Walking
walking first state saved joined before = record {
  state = state;
  saved = saved;
  is_saved_joined = joined;
  before = before;
  is_composite_first = first;
  opened = false;
}

-- whether it saves, by what the entry is
abbrev saves_at : PairTable → ℕ → ℕ → Bool
saves_at t state class = is_intermediate (entry_of t state class) || is_class t state

-- the walk over units, before which so many items are gone; the first of them is the one before the next entry
unfoldable pub unit_walk : TableRules Seventeen → Bool → ℕ → ℕ → Bool → ℕ → List CountedUnit → Turn
unit_walk rules first state saved joined gone [] = BreakAt gone gone
unit_walk rules first state saved joined gone (before ∷ []) =
    walk_end_turn (walking first state saved joined 0) (gone + before.extent) (entry_of rules.table state rules.table.eot_property)
unit_walk rules first state saved joined gone (before ∷ next ∷ units) =
    option_map_or
    (λ to. unit_walk rules first to
    (cond (saves_at rules.table state next.unit.class) (gone + before.extent) saved)
    (cond (saves_at rules.table state next.unit.class) (before.unit.is_joined) joined) (gone + before.extent) (next ∷ units))
    (named_state (entry_of rules.table state next.unit.class))
    (walk_stop_turn (walking first state saved joined 0) (before.unit.is_joined) (gone + before.extent) (entry_of rules.table state next.unit.class))

end-same : (first : Bool) (state saved : ℕ) (joined : Bool) (before place : ℕ) (entry : BreakState)
    → walk_end_turn (walking first state saved joined before) place entry ≡ walk_end_turn (walking first state saved joined 0) place entry
end-same first state saved joined before place NoMatch = refl
end-same first state saved joined before place _ = refl

stop-same : (first : Bool) (state saved : ℕ) (joined : Bool) (before : ℕ) (az : Bool) (place : ℕ) (entry : BreakState)
    → walk_stop_turn (walking first state saved joined before) az place entry ≡ walk_stop_turn (walking first state saved joined 0) az place entry
stop-same first state saved joined before az place Keep = refl
stop-same first state saved joined before az place Break = refl
stop-same first state saved joined before az place _ = refl

by-option : (f : ℕ → Walking) (found : Option ℕ) (x : Turn) (later : Walking → Turn)
    → walk_by (option_map_or (λ n. GoesOn (f n)) found (Stops x)) later ≡ option_map_or (λ n. later (f n)) found x
by-option f None x later = refl
by-option f (Some n) x later = refl

option-same : {X Y : Type 0} (f g : X → Y) (found : Option X) (x y : Y) → ((z : X) → f z ≡ g z) → x ≡ y → option_map_or f found x ≡ option_map_or g found y
option-same f g None x y same others = others
option-same f g (Some z) x y same others = same z

pub record Head (unit : TurnUnit) (units : List CountedUnit) : Type 0 where
  pub head : CountedUnit
  pub later : List CountedUnit
  pub is : units ≡ head ∷ later
  pub class : head.unit.class ≡ unit.left.class
  pub code_point : head.unit.code_point ≡ unit.code_point

-- what a glued mark and what another item do to a walk over a plain text
module _ (rules : TableRules Seventeen) where
  pub units-mark : (unit : TurnUnit) (item : ℕ) (items : List ℕ) → is_glued Seventeen unit.left.class (line_class rules item) ≡ true
      → units_from rules (counted unit) (item ∷ items) ≡ units_from rules (counted (unit_with rules unit item)) items
  unfolding units_from
  units-mark unit item items glued = rw glued refl

  pub units-item : (unit : TurnUnit) (item : ℕ) (items : List ℕ) → is_glued Seventeen unit.left.class (line_class rules item) ≡ false
      → units_from rules (counted unit) (item ∷ items) ≡ counted unit ∷ units_from rules (counted (unit_at rules item)) items
  unfolding units_from
  units-item unit item items glued = rw glued refl

  pub units-head : (unit : TurnUnit) (items : List ℕ) → Head unit (units_from rules (counted unit) items)
  unfolding units_from
  units-head unit [] = record { head = counted unit; later = []; is = refl; class = refl; code_point = refl }
  units-head unit (item ∷ items) = on (is_glued Seventeen unit.left.class (line_class rules item)) refl (units-head (unit_with rules unit item) items)
    where
      on : (b : Bool) → is_glued Seventeen unit.left.class (line_class rules item) ≡ b → Head (unit_with rules unit item) (units_from rules (counted (unit_with rules unit item)) items)
          → Head unit (units_from rules (counted unit) (item ∷ items))
      on true is later = record { head = later.head; later = later.later; is = rw is later.is; class = later.class; code_point = later.code_point }
      on false is later = record { head = counted unit; later = units_from rules (counted (unit_at rules item)) items; is = rw is refl; class = refl; code_point = refl }

  module _ (first : Bool) where
    walk-mark : (state saved : ℕ) (joined : Bool) (before place item : ℕ) (items : List ℕ) → Ruled (line_class rules item) → is_glued Seventeen before (line_class rules item) ≡ true
        → walk_turn rules (walking first state saved joined before) place (item ∷ items)
        ≡ walk_turn rules (walking first state saved joined (line_class rules item)) (suc place) items
    unfolding walk_turn
    walk-mark state saved joined before place item items r glued =
        rw (ap (λ b. b && not (bears_none Seventeen before)) (glue-mark (line_class rules item) r) ∙ glued) refl

    step-item : (state saved : ℕ) (joined : Bool) (before place class : ℕ) (items : List ℕ) → Ruled class → is_glued Seventeen before class ≡ false
        → walk_step rules (walking first state saved joined before) place class items
        ≡ walk_entry_step rules (walking first state saved joined before) place class (entry_of rules.table state class)
    step-item state saved joined before place class items r glued =
        rw (ap (λ b. b && not (bears_none Seventeen before)) (glue-mark class r) ∙ glued) (simp (r.not_infix, r.not_quote, r.not_hyphen, and-none) refl)

    walk-cons : (w : Walking) (place item : ℕ) (items : List ℕ)
        → walk_turn rules w place (item ∷ items) ≡ walk_by (walk_step rules w place (line_class rules item) items) (λ w. walk_turn rules w (suc place) items)
    unfolding walk_turn
    walk-cons w place item items = refl

    walk-item : (state saved : ℕ) (joined : Bool) (before place item : ℕ) (items : List ℕ) → Ruled (line_class rules item) → is_glued Seventeen before (line_class rules item) ≡ false
        → walk_turn rules (walking first state saved joined before) place (item ∷ items)
        ≡ option_map_or
        (λ to. walk_turn rules (walking first to (cond (saves_at rules.table state (line_class rules item)) place saved) (cond (saves_at rules.table state (line_class rules item)) (is_joiner Seventeen before) joined) (line_class rules item)) (suc place) items)
        (named_state (entry_of rules.table state (line_class rules item)))
        (walk_stop_turn (walking first state saved joined before) (is_joiner Seventeen before) place (entry_of rules.table state (line_class rules item)))
    walk-item state saved joined before place item items r glued =
        walk-cons (walking first state saved joined before) place item items
        ∙ ap (λ (s : WalkStep). walk_by s (λ w. walk_turn rules w (suc place) items)) (step-item state saved joined before place (line_class rules item) items r glued)
        ∙ by-option (walk_on rules.table (walking first state saved joined before) place (line_class rules item)) (named_state (entry_of rules.table state (line_class rules item))) _
        (λ w. walk_turn rules w (suc place) items)

    unit-walk-item : (state saved : ℕ) (joined : Bool) (gone : ℕ) (unit head : CountedUnit) (class : ℕ) (units later : List CountedUnit)
        → units ≡ head ∷ later → head.unit.class ≡ class
        → unit_walk rules first state saved joined gone (unit ∷ units)
        ≡ option_map_or
        (λ to. unit_walk rules first to
        (cond (saves_at rules.table state class) (gone + unit.extent) saved)
        (cond (saves_at rules.table state class) (unit.unit.is_joined) joined) (gone + unit.extent) units)
        (named_state (entry_of rules.table state class))
        (walk_stop_turn (walking first state saved joined 0) (unit.unit.is_joined) (gone + unit.extent) (entry_of rules.table state class))
    unfolding unit_walk
    unit-walk-item state saved joined gone unit head class units later is same = rw (is, ← same) refl

    pub walks : (state saved : ℕ) (joined : Bool) (gone : ℕ) (unit : TurnUnit) (items : List ℕ) → BearsAlike unit.left → ArePlain rules items
        → walk_turn rules (walking first state saved joined unit.left.last_class) (gone + suc unit.left.last) items
        ≡ unit_walk rules first state saved joined gone (units_from rules (counted unit) items)
    unfolding walk_turn unit_walk units_from
    walks state saved joined gone unit [] alike plain = end-same first state saved joined unit.left.last_class (gone + suc unit.left.last) (entry_of rules.table state rules.table.eot_property)
    walks state saved joined gone unit (item ∷ items) alike plain =
        on (is_glued Seventeen unit.left.class (line_class rules item)) refl
        (λ glued. walks state saved joined gone (unit_with rules unit item) items (with-alike rules unit item glued) plain.1)
        (λ to saved joined. walks to saved joined (gone + suc unit.left.last) (unit_at rules item) items refl plain.1)
      where
        r : Ruled (line_class rules item)
        r = ruled (line_class rules item) plain.0

        same_glue : is_glued Seventeen unit.left.last_class (line_class rules item) ≡ is_glued Seventeen unit.left.class (line_class rules item)
        same_glue = ap (λ b. is_mark Seventeen (line_class rules item) && not b) alike

        on : (b : Bool) → is_glued Seventeen unit.left.class (line_class rules item) ≡ b
            → (is_glued Seventeen unit.left.class (line_class rules item) ≡ true
            → walk_turn rules (walking first state saved joined (line_class rules item)) (gone + suc (suc unit.left.last)) items
            ≡ unit_walk rules first state saved joined gone (units_from rules (counted (unit_with rules unit item)) items))
            → ((to saved : ℕ) (joined : Bool) → walk_turn rules (walking first to saved joined (line_class rules item)) (gone + suc unit.left.last + 1) items
            ≡ unit_walk rules first to saved joined (gone + suc unit.left.last) (units_from rules (counted (unit_at rules item)) items))
            → walk_turn rules (walking first state saved joined unit.left.last_class) (gone + suc unit.left.last) (item ∷ items)
            ≡ unit_walk rules first state saved joined gone (units_from rules (counted unit) (item ∷ items))
        on true is mark other =
            let place : suc (gone + suc unit.left.last) ≡ gone + suc (suc unit.left.last) = omega arith in
            walk-mark state saved joined unit.left.last_class (gone + suc unit.left.last) item items r (same_glue ∙ is)
            ∙ ap (λ n. walk_turn rules (walking first state saved joined (line_class rules item)) n items) place
            ∙ mark is
            ∙ ap (unit_walk rules first state saved joined gone) (sym (units-mark unit item items is))
        on false is mark other =
            let class : ℕ = line_class rules item in
            let place : suc (gone + suc unit.left.last) ≡ gone + suc unit.left.last + 1 = omega arith in
            let head = units-head (unit_at rules item) items in
            walk-item state saved joined unit.left.last_class (gone + suc unit.left.last) item items r (same_glue ∙ is)
            ∙ option-same
            (λ to. walk_turn rules (walking first to (cond (saves_at rules.table state class) (gone + suc unit.left.last) saved) (cond (saves_at rules.table state class) (is_joined unit.left) joined) class) (suc (gone + suc unit.left.last)) items)
            (λ to. unit_walk rules first to (cond (saves_at rules.table state class) (gone + suc unit.left.last) saved) (cond (saves_at rules.table state class) (is_joined unit.left) joined) (gone + suc unit.left.last) (units_from rules (counted (unit_at rules item)) items))
            (named_state (entry_of rules.table state class))
            (walk_stop_turn (walking first state saved joined unit.left.last_class) (is_joined unit.left) (gone + suc unit.left.last) (entry_of rules.table state class))
            (walk_stop_turn (walking first state saved joined 0) (is_joined unit.left) (gone + suc unit.left.last) (entry_of rules.table state class))
            (λ to. ap (λ n. walk_turn rules (walking first to (cond (saves_at rules.table state class) (gone + suc unit.left.last) saved) (cond (saves_at rules.table state class) (is_joined unit.left) joined) class) n items) place
            ∙ other to (cond (saves_at rules.table state class) (gone + suc unit.left.last) saved) (cond (saves_at rules.table state class) (is_joined unit.left) joined))
            (stop-same first state saved joined unit.left.last_class (is_joined unit.left) (gone + suc unit.left.last) (entry_of rules.table state class))
            ∙ sym (unit-walk-item state saved joined gone (counted unit) head.head class (units_from rules (counted (unit_at rules item)) items) head.later head.is head.class)
            ∙ ap (unit_walk rules first state saved joined gone) (sym (units-item unit item items is))

-- a verdict over units, as a turn over their code points
abbrev pub turn_by : List CountedUnit → Verdict → Turn
turn_by units (BreakAfter taken class) = BreakAt (extent_of taken units) (extent_of taken units)
turn_by units (GoAfter taken) = GoTo (extent_of taken units) false
turn_by units RunBegins = RunAt 0 false

drop-after : (passed : ℕ) (before : CountedUnit) (units whole : List CountedUnit) → before ∷ units ≡ drop passed whole → units ≡ drop (suc passed) whole
drop-after passed before units whole here =
    let more : passed + 1 ≡ suc passed = omega arith in
    rw (← more) (ap (drop 1) here ∙ drop-drop 1 passed whole)

items-after : (passed : ℕ) (before : CountedUnit) (units whole : List CountedUnit) → before ∷ units ≡ drop passed whole
    → extent_of passed whole + before.extent ≡ extent_of (suc passed) whole
unfolding extent_of
items-after zero before units [] here = cc
items-after zero before units (unit ∷ whole) here =
    let same : before.extent ≡ unit.extent = ap first_items here in
    omega (arith, same)
  where
    first_items : List CountedUnit → ℕ
    first_items [] = 0
    first_items (unit ∷ units) = unit.extent
items-after (suc passed) before units [] here = cc
items-after (suc passed) before units (unit ∷ whole) here =
    let later = items-after passed before units whole here in
    omega (arith, later)

joined-after : (passed : ℕ) (before : CountedUnit) (units whole : List CountedUnit) → before ∷ units ≡ drop passed whole
    → joined_before (units_of whole) (suc passed) ≡ before.unit.is_joined
joined-after passed before units whole here =
    ap begins_joined (drop-map (λ (one : CountedUnit). one.unit) passed whole ∙ ap (map (λ (one : CountedUnit). one.unit)) (sym here))

module _ (rules : TableRules Seventeen) (start : ℕ) (whole : List CountedUnit) where
  unless-turn : (joined : Bool) (n : ℕ) → turn_unless joined false (extent_of n whole) ≡ turn_by whole (unless joined n)
  unless-turn true n = refl
  unless-turn false n = refl

  end-turn : (state saved before place stop class : ℕ) (joined : Bool) (entry : BreakState) → joined ≡ joined_before (units_of whole) saved
      → place ≡ extent_of stop whole
      → walk_end_turn (walking (not (is_class rules.table start)) state (extent_of saved whole) joined before) place entry
      ≡ turn_by whole (unit_end_verdict rules.table start (units_of whole) (record { state = state; stop = stop; saved = saved; class = class }) entry)
  end-turn state saved before place stop class joined NoMatch is at = rw is (unless-turn (joined_before (units_of whole) saved) saved)
  end-turn state saved before place stop class joined _ is at = rw at refl

  back-turn : (az joined is_start : Bool) (n : ℕ)
      → cond az (cond (not is_start && not joined) (BreakAt (extent_of n whole) (extent_of n whole)) (GoTo (extent_of n whole) false)) (turn_unless joined false (extent_of n whole))
      ≡ turn_by whole (unless (joined || (az && is_start)) n)
  back-turn true true true n = refl
  back-turn true true false n = refl
  back-turn true false true n = refl
  back-turn true false false n = refl
  back-turn false true is_start n = refl
  back-turn false false is_start n = refl

  stop-turn : (state saved before place stop class : ℕ) (az joined : Bool) (entry : BreakState) → joined ≡ joined_before (units_of whole) saved
      → az ≡ joined_before (units_of whole) stop → place ≡ extent_of stop whole
      → walk_stop_turn (walking (not (is_class rules.table start)) state (extent_of saved whole) joined before) az place entry
      ≡ turn_by whole (unit_stop_verdict rules.table start (units_of whole) (record { state = state; stop = stop; saved = saved; class = class }) entry)
  stop-turn state saved before place stop class az joined Keep is az_is at = rw at refl
  stop-turn state saved before place stop class az joined Break is az_is at = rw (at, az_is) (unless-turn (joined_before (units_of whole) stop) stop)
  stop-turn state saved before place stop class az joined _ is az_is at =
      rw (is, az_is) (back-turn (joined_before (units_of whole) stop) (joined_before (units_of whole) saved) (is_class rules.table start) saved)

  -- what the line verdict says of a walk, by what is left where it stops
  abbrev says : Walk → List LineUnit → Turn
  says w left = turn_by whole (unit_walk_verdict rules.table start (units_of whole) w left)

  left-after : (passed : ℕ) (before : CountedUnit) (units : List CountedUnit) → before ∷ units ≡ drop passed whole → drop (suc passed) (units_of whole) ≡ units_of units
  left-after passed before units here = drop-map (λ (one : CountedUnit). one.unit) (suc passed) whole ∙ ap (map (λ (one : CountedUnit). one.unit)) (sym (drop-after passed before units whole here))

  pub unit-walks : (state saved passed class : ℕ) (joined : Bool) (before : CountedUnit) (units : List CountedUnit)
      → before ∷ units ≡ drop passed whole → joined ≡ joined_before (units_of whole) saved
      → unit_walk rules (not (is_class rules.table start)) state (extent_of saved whole) joined (extent_of passed whole) (before ∷ units)
      ≡ (let w = walk rules.table state (suc passed) saved class (unit_classes (units_of units)) in says w (drop w.stop (units_of whole)))
  unfolding unit_walk
  unit-walks state saved passed class joined before [] here is =
      rw (walk-end rules.table state (suc passed) saved class)
      (rw (left-after passed before [] here)
      (end-turn state saved 0 (extent_of passed whole + before.extent) (suc passed) class joined (entry_of rules.table state rules.table.eot_property) is (items-after passed before [] whole here)))
  unit-walks state saved passed class joined before (next ∷ units) here is =
      elim (option-cases (named_state (entry_of rules.table state next.unit.class))) [
        | inl none ↦
            rw (walk-stop rules.table state (suc passed) saved class next.unit.class (unit_classes (units_of units)) none)
            (rw (left-after passed before (next ∷ units) here)
            (rw none
            (stop-turn state saved 0 (extent_of passed whole + before.extent) (suc passed) class (before.unit.is_joined) joined (entry_of rules.table state next.unit.class) is
            (sym (joined-after passed before (next ∷ units) whole here)) (items-after passed before (next ∷ units) whole here))))
        | inr (to, named) ↦
            rw (walk-named rules.table state (suc passed) saved class next.unit.class to (unit_classes (units_of units)) named)
            (rw named
            (rw (items-after passed before (next ∷ units) whole here)
            (rw (items-cond (saves_at rules.table state next.unit.class))
            (unit-walks to (cond (saves_at rules.table state next.unit.class) (suc passed) saved) (suc passed) (cond (is_class rules.table state) to class)
            (cond (saves_at rules.table state next.unit.class) (before.unit.is_joined) joined) next units (drop-after passed before (next ∷ units) whole here)
            (joined-cond (saves_at rules.table state next.unit.class))))))
      ]
    where
      items-cond : (b : Bool) → cond b (extent_of (suc passed) whole) (extent_of saved whole) ≡ extent_of (cond b (suc passed) saved) whole
      items-cond true = refl
      items-cond false = refl

      joined-cond : (b : Bool) → cond b (before.unit.is_joined) joined ≡ joined_before (units_of whole) (cond b (suc passed) saved)
      joined-cond true = sym (joined-after passed before (next ∷ units) whole here)
      joined-cond false = is
