-- Turns by the classes and the table alone.
use Rattle.std.proofs.Common.{◌≡◌, ◌≤◌, ℕ, suc, ◌&&◌, ◌||◌, not, Bool, true, false, Option, Some, None, List, [], ◌∷◌, ◌++◌, length, map, refl, sym, ap, ◌∙◌}
use Rattle.std.proofs.lemmas.Bool.{eqb-true}
use Rattle.seg_text.specs.declared.boundary.Boundary.{Boundary}
use Rattle.seg_text.specs.Boundaries.{boundary, boundary_in, boundaries_in, Cuts}
use Rattle.seg_text.specs.Items.{Text, rest_after, code_points}
use Rattle.seg_pairs.specs.declared.provider.pairs.BreakState.{BreakState}
use Rattle.seg_pairs.specs.declared.provider.pairs.BreakState.TheVariants as entries
use Rattle.seg_pairs.specs.PairTable.{entry_of}
use Rattle.seg_line_pairs.specs.LineRules.{TableRules, is_one_of, is_complex_context, line_class}
use Rattle.seg_line_pairs.specs.LineEvents.{FollowsPairs, LeadsToBreak, asks_more, text_from, HasClass}
use Rattle.seg_line_pairs.specs.ReadAhead.{LeadsByPairs, UnreadItems, rules_of}
use Rattle.seg_line_pairs.specs.declared.engines.PlainPair.{PlainPair}
use Rattle.seg_line_pairs.specs.declared.engines.PlainPair.TheVariants as plain
use Rattle.seg_line_pairs.specs.declared.plain_pairs.ClassedItem.{ClassedItem}
use Rattle.seg_line_pairs.specs.LineClasses.{class_number}
use Rattle.seg_line_pairs.specs.LineClasses.LineClass.{CM, CM_EASTASIAN, HH, HY, IS, QU_PF, SA, SA_MC_MN, SP, ZWJ}
use Rattle.seg_line_pairs.specs.declared.engines.LineEngine.TheVariants.{Seventeen}
use Rattle.seg_line_pairs.proofs.Marks.{none-among}
use Rattle.seg_line_pairs.proofs.PlainPairs.{and-first, and-last, and-off, if-off, keeps-off, listed-off, not-true, said-break, said-go}
use Rattle.seg_line_turns.specs.TurnEvents.{entry_turn, going_text, is_asked, is_plain_turn, is_unanswered, plain_turn, turns_of, turns_unread, unread_turns}
use Rattle.seg_line_turns.specs.TurnBoundaries.{later_turns, turn_stretch_of}
use Rattle.seg_line_turns.specs.TurnClasses.{is_before_hyphen, is_before_quote, is_glue, is_hyphen, is_infix, is_opening, is_quote, is_space}
use Rattle.seg_line_turns.specs.TurnRules.{LeftUnit, is_joined, left_unit}
use Rattle.seg_line_turns.specs.Turns.{Turn, class_turn, list_turn, right_turn, table_turn, turn}
use Rattle.seg_line_turns.specs.Turns.Turn.{BreakAt, GoTo}
use Rattle.seg_line_turns.proofs.TurnEvents.{turn-next}
use Rattle.seg_line_turns.proofs.TurnReads.{turn-cons}

and-off-last : (a b : Bool) → b ≡ false → (a && b) ≡ false
and-off-last true b off = off
and-off-last false b off = refl

swapped : (a b : Bool) → (a && b) ≡ false → (b && a) ≡ false
swapped true true off = off
swapped true false off = refl
swapped false true off = refl
swapped false false off = refl

or-off : (a b : Bool) → b ≡ false → (a || b) ≡ a
or-off true b off = refl
or-off false b off = off

-- classes of which no rule asks on the right

unasked : ℕ → Bool
unasked class = not (is_one_of Seventeen (CM ∷ CM_EASTASIAN ∷ HH ∷ HY ∷ IS ∷ QU_PF ∷ SA ∷ SA_MC_MN ∷ SP ∷ ZWJ ∷ []) class)

-- where no rule asks of a class, it is none of those that such a test finds
not-among : (test : ℕ → Bool) (class : ℕ) → (test class ≡ true → unasked class ≡ false) → is_asked class ≡ false → test class ≡ false
unfolding is_asked unasked
not-among test class asked none = on (test class) refl
  where
    no : true ≡ false → ⊥
    no is = cc

    on : (b : Bool) → test class ≡ b → b ≡ false
    on true is = absurd (no (ap not (sym none) ∙ asked is))
    on false is = refl

glue-asked : (class : ℕ) → is_glue class ≡ true → unasked class ≡ false
unfolding is_glue unasked
glue-asked class among = none-among unasked (map (class_number Seventeen) (CM ∷ CM_EASTASIAN ∷ SA_MC_MN ∷ ZWJ ∷ [])) class (refl, (refl, (refl, (refl, tt)))) among

complex-asked : (class : ℕ) → is_complex_context class ≡ true → unasked class ≡ false
unfolding is_complex_context unasked
complex-asked class among = none-among unasked (map (class_number Seventeen) (SA ∷ SA_MC_MN ∷ [])) class (refl, (refl, tt)) among

hyphen-asked : (class : ℕ) → is_hyphen class ≡ true → unasked class ≡ false
unfolding is_hyphen unasked
hyphen-asked class among = none-among unasked (map (class_number Seventeen) (HH ∷ HY ∷ [])) class (refl, (refl, tt)) among

space-asked : (class : ℕ) → is_space class ≡ true → unasked class ≡ false
unfolding unasked
space-asked class is = let same : class ≡ class_number Seventeen SP = eqb-true class (class_number Seventeen SP) is in rw same refl

infix-asked : (class : ℕ) → is_infix class ≡ true → unasked class ≡ false
unfolding unasked
infix-asked class is = let same : class ≡ class_number Seventeen IS = eqb-true class (class_number Seventeen IS) is in rw same refl

quote-asked : (class : ℕ) → is_quote class ≡ true → unasked class ≡ false
unfolding unasked
quote-asked class is = let same : class ≡ class_number Seventeen QU_PF = eqb-true class (class_number Seventeen QU_PF) is in rw same refl

-- no rule that asks of the right class finds on the left what it asks of
record Unanswered (left right : ℕ) : Type 0 where
  pub glue : is_glue right ≡ false
  pub opens : (is_opening left && is_space right) ≡ false
  pub complex : (is_complex_context left && is_complex_context right) ≡ false
  pub separator : (is_space left && is_infix right) ≡ false
  pub before : (is_quote right && is_before_quote left) ≡ false
  pub after : (is_quote right && is_space left) ≡ false
  pub hyphen : (is_before_hyphen left && is_hyphen right) ≡ false

sign-infix : (i q h s b c : Bool) → (((i || q) || h) && ((s || b) || c)) ≡ false → (s && i) ≡ false
sign-infix true q h true b c is = is
sign-infix true q h false b c is = refl
sign-infix false q h true b c is = refl
sign-infix false q h false b c is = refl

sign-before : (i q h s b c : Bool) → (((i || q) || h) && ((s || b) || c)) ≡ false → (q && b) ≡ false
sign-before i false h s b c is = refl
sign-before i true h s false c is = refl
sign-before true true h true true c is = is
sign-before true true h false true c is = is
sign-before false true h true true c is = is
sign-before false true h false true c is = is

sign-after : (i q h s b c : Bool) → (((i || q) || h) && ((s || b) || c)) ≡ false → (q && s) ≡ false
sign-after i false h s b c is = refl
sign-after i true h false b c is = refl
sign-after true true h true b c is = is
sign-after false true h true b c is = is

some-last : (x y : Bool) → ((x || y) || true) ≡ true
some-last true y = refl
some-last false true = refl
some-last false false = refl

both-last : (i q s b : Bool) → (((i || q) || true) && ((s || b) || true)) ≡ true
both-last i q s b = rw (some-last i q) (some-last s b)

sign-hyphen : (i q h s b c : Bool) → (((i || q) || h) && ((s || b) || c)) ≡ false → (c && h) ≡ false
sign-hyphen i q true s b true is = sym (both-last i q s b) ∙ is
sign-hyphen i q false s b true is = refl
sign-hyphen i q true s b false is = refl
sign-hyphen i q false s b false is = refl

unanswered : (left right : ℕ) → is_unanswered left right ≡ true → Unanswered left right
unanswered left right is =
    let three = and-first _ _ is in
    let two = and-first _ _ three in
    let signs = not-true _ (and-last _ _ is) in
    record {
      glue = not-true _ (and-first _ _ two);
      opens = swapped (is_space right) (is_opening left) (not-true _ (and-last _ _ two));
      complex = swapped (is_complex_context right) (is_complex_context left) (not-true _ (and-last _ _ three));
      separator = sign-infix (is_infix right) (is_quote right) (is_hyphen right) (is_space left) (is_before_quote left) (is_before_hyphen left) signs;
      before = sign-before (is_infix right) (is_quote right) (is_hyphen right) (is_space left) (is_before_quote left) (is_before_hyphen left) signs;
      after = sign-after (is_infix right) (is_quote right) (is_hyphen right) (is_space left) (is_before_quote left) (is_before_hyphen left) signs;
      hyphen = sign-hyphen (is_infix right) (is_quote right) (is_hyphen right) (is_space left) (is_before_quote left) (is_before_hyphen left) signs;
    }

plain-unanswered : (left right : ℕ) → is_plain_turn left right ≡ true → Unanswered left right
plain-unanswered left right is = on (is_asked right) refl is
  where
    on : (b : Bool) → is_asked right ≡ b → (not b || is_unanswered left right) ≡ true → Unanswered left right
    on true asked is = unanswered left right is
    on false none is =
        record {
          glue = not-among is_glue right (glue-asked right) none;
          opens = and-off-last (is_opening left) _ (not-among is_space right (space-asked right) none);
          complex = and-off-last (is_complex_context left) _ (not-among is_complex_context right (complex-asked right) none);
          separator = and-off-last (is_space left) _ (not-among is_infix right (infix-asked right) none);
          before = and-off _ (is_before_quote left) (not-among is_quote right (quote-asked right) none);
          after = and-off _ (is_space left) (not-among is_quote right (quote-asked right) none);
          hyphen = and-off-last (is_before_hyphen left) _ (not-among is_hyphen right (hyphen-asked right) none);
        }

-- the turn is the table's
module _ (rules : TableRules Seventeen) (opened : Bool) (left right : ℕ) (after : List ℕ) where
  abbrev unit : LeftUnit
  unit = left_unit rules left

  abbrev class : ℕ
  class = line_class rules right

  abbrev by_table : Turn
  by_table = table_turn rules opened unit class after (entry_of rules.table unit.class class)

  class-plain : Unanswered unit.class class → class_turn rules opened unit class after ≡ by_table
  class-plain none =
      if-off _ _ _ none.complex ∙ if-off _ _ _ (and-off _ _ none.separator) ∙ if-off _ _ _ none.before ∙ if-off _ _ _ (and-off _ _ none.after)
      ∙ if-off _ _ _ (and-off _ _ none.after) ∙ if-off _ _ _ (and-off _ _ none.after) ∙ if-off _ _ _ (and-off _ _ none.hyphen)

  right-plain : asks_more rules.style ≡ false → Unanswered unit.class class → right_turn rules opened unit right after ≡ by_table
  right-plain few none =
      if-off _ _ _ (keeps-off Seventeen rules.style unit.class class few)
      ∙ ap (λ (said : Option Bool). list_turn said (suc unit.last) opened (class_turn rules opened unit class after))
      (listed-off Seventeen rules.style (is_joined unit) unit.class unit.last_code_point class right few)
      ∙ class-plain none

  turn-plain : asks_more rules.style ≡ false → is_plain_turn unit.class class ≡ true → turn rules opened unit (right ∷ after) ≡ by_table
  turn-plain few is =
      let none = plain-unanswered unit.class class is in
      turn-cons rules opened unit right after ∙ if-off _ _ _ (and-off _ _ (and-off (is_glue class) _ none.glue))
      ∙ ap (λ opened. right_turn rules opened unit right after) (or-off opened _ none.opens)
      ∙ right-plain few none

  entry-go : (joined : Bool) (entry : BreakState) → entry_turn joined entry ≡ plain.Go → entry ≡ entries.Keep
  entry-go joined entries.Keep is = refl
  entry-go true entries.Break is = cc
  entry-go false entries.Break is = cc
  entry-go joined entries.NoMatch is = cc
  entry-go joined (entries.Index state) is = cc
  entry-go joined (entries.Intermediate state) is = cc

  entry-break : (joined : Bool) (entry : BreakState) → entry_turn joined entry ≡ plain.Break → (joined ≡ false) × (entry ≡ entries.Break)
  entry-break joined entries.Keep is = cc
  entry-break true entries.Break is = cc
  entry-break false entries.Break is = (refl, refl)
  entry-break joined entries.NoMatch is = cc
  entry-break joined (entries.Index state) is = cc
  entry-break joined (entries.Intermediate state) is = cc

  go-plain : asks_more rules.style ≡ false → plain_turn rules.table unit.class class ≡ plain.Go → turn rules opened unit (right ∷ after) ≡ GoTo 1 opened
  go-plain few is =
      let said = said-go (is_plain_turn unit.class class) _ is in
      turn-plain few said.0 ∙ ap (table_turn rules opened unit class after) (entry-go _ _ said.1)

  break-plain : asks_more rules.style ≡ false → plain_turn rules.table unit.class class ≡ plain.Break → turn rules opened unit (right ∷ after) ≡ BreakAt 1 1
  break-plain few is =
      let said = said-break (is_plain_turn unit.class class) _ is in
      let both = entry-break _ _ said.1 in
      turn-plain few said.0 ∙ ap (table_turn rules opened unit class after) both.1 ∙ if-off _ _ _ both.0

-- what is found in a text follows from its pairs
module _ (rules : TableRules Seventeen) (few : asks_more rules.style ≡ false) (cuts : Cuts) where
  abbrev found : Bool → Text → List Boundary
  found opened text = unread_turns cuts (going_text rules opened text)

  module _ (opened : Bool) (left right : ClassedItem) (after : Text) (left_class : HasClass rules left) (right_class : HasClass rules right) where
    abbrev rest : Text
    rest = text_from right after

    same-said : (said : PlainPair) → plain_turn rules.table left.class right.class ≡ said
        → plain_turn rules.table (line_class rules left.code_point) (line_class rules right.code_point) ≡ said
    same-said said is =
        ap (λ class. plain_turn rules.table class (line_class rules right.code_point)) (sym left_class.is)
        ∙ ap (plain_turn rules.table left.class) (sym right_class.is) ∙ is

    abbrev by_turn : Turn → List Boundary
    by_turn turned =
        let here : Text = text_from left rest in
        let s = turn_stretch_of cuts rules (code_points here.items) turned in
        map (boundary_in here) s.boundaries ++ boundaries_in (later_turns cuts rules false s.opened) (rest_after s.extent here)

    first-turn : (turned : Turn) → turn rules opened (left_unit rules left.code_point) (right.code_point ∷ code_points after.items) ≡ turned
        → found opened (text_from left rest) ≡ by_turn turned
    first-turn turned is = (turn-next rules false opened (text_from left rest) rest (left.place, left.code_point) refl).leads cuts ∙ ap by_turn is

    go-on : plain_turn rules.table left.class right.class ≡ plain.Go → found opened (text_from left rest) ≡ found opened rest
    go-on said =
        first-turn (GoTo 1 opened) (go-plain rules opened left.code_point right.code_point (code_points after.items) few (same-said plain.Go said))

    break-on : plain_turn rules.table left.class right.class ≡ plain.Break → found opened (text_from left rest) ≡ boundary right.place 0 ∷ found false rest
    break-on said =
        first-turn (BreakAt 1 1) (break-plain rules opened left.code_point right.code_point (code_points after.items) few (same-said plain.Break said))

  pub turns-follow : (opened : Bool) → FollowsPairs rules (plain_turn rules.table) (found opened) (found false)
  turns-follow opened = record { goes = go-on opened; breaks = break-on opened }

-- plain pairs lead to the boundaries of lines
module _ (opened : Bool) (before after : UnreadItems) (same : rules_of Seventeen after ≡ rules_of Seventeen before) where
  abbrev Leads : Option ℕ → Type 0
  Leads result =
      (found later : Text → List Boundary)
      → (asks_more before.style ≡ false → FollowsPairs (rules_of Seventeen before) (plain_turn before.table) found later)
      → LeadsByPairs found later before.text result after.text

  abbrev found_in : Bool → Cuts → Text → List Boundary
  found_in opened cuts text = unread_turns cuts (going_text (rules_of Seventeen before) opened text)

  lead : (result : Option ℕ) → Leads result → (cuts : Cuts) → LeadsByPairs (found_in opened cuts) (found_in false cuts) before.text result after.text
  lead result leads cuts = leads (found_in opened cuts) (found_in false cuts) (λ few. turns-follow (rules_of Seventeen before) few cuts opened)

  pub turns-break : (place : ℕ) → Leads (Some place)
      → LeadsToBreak (turns_unread (turns_of false opened before)) (Some place) (turns_unread (turns_of false false after))
  turns-break place leads = rw same (lead (Some place) leads)

  pub turns-pass : Leads None → length after.text.items ≤ length before.text.items
      → LeadsToBreak (turns_unread (turns_of false opened before)) None (turns_unread (turns_of false opened after))
  turns-pass leads most = rw same (lead None leads, most)
