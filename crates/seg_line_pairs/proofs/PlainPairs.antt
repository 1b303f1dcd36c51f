-- Pairs of units of one item each, between which the table alone decides.
use Rattle.std.proofs.Common.{◌≡◌, ◌≤◌, ℕ, suc, ◌&&◌, ◌||◌, ◌==◌, not, Bool, true, false, cond, Option, Some, None, List, [], ◌∷◌, drop, length, refl, sym, ap, ◌∙◌}
use Rattle.seg_text.specs.Items.{Text, code_points}
use Rattle.seg_text.specs.Boundaries.{boundary, Cuts, Stretch}
use Rattle.seg_text.specs.declared.boundary.Boundary.{Boundary}
use Rattle.seg_pairs.specs.declared.provider.pairs.BreakState.{BreakState}
use Rattle.seg_pairs.specs.declared.provider.pairs.BreakState.TheVariants as entries
use Rattle.seg_pairs.specs.PairTable.{entry_of}
use Rattle.seg_pairs.specs.Verdict.{Verdict}
use Rattle.seg_pairs.specs.Verdict.Verdict.{BreakAfter, GoAfter}
use Rattle.seg_line_pairs.specs.declared.engines.LineEngine.{LineEngine}
use Rattle.seg_line_pairs.specs.declared.engines.LineEngine.TheVariants.{Classic}
use Rattle.seg_line_pairs.specs.declared.options.LineBreakStrictness.{LineBreakStrictness}
use Rattle.seg_line_pairs.specs.declared.options.LineBreakStrictness.TheVariants as strictness
use Rattle.seg_line_pairs.specs.declared.options.LineStyle.{LineStyle}
use Rattle.seg_line_pairs.specs.declared.plain_pairs.ClassedItem.{ClassedItem}
use Rattle.seg_line_pairs.specs.declared.engines.PlainPair.{PlainPair}
use Rattle.seg_line_pairs.specs.declared.engines.PlainPair.TheVariants as plain
use Rattle.seg_line_pairs.specs.declared.verdicts.Case.TheVariants.{Table}
use Rattle.seg_line_pairs.specs.LineEvents.{FollowsPairs, HasClass, LeadsToBreak, lines_unread, text_from, unread_lines, asks_more}
use Rattle.seg_line_pairs.specs.ReadAhead.{LeadsByPairs, UnreadItems, lines_of, rules_of}
use Rattle.seg_line_pairs.specs.ClassicPairs.{entry_pair, is_plain, plain_pair}
use Rattle.seg_line_pairs.specs.LineBoundaries.{in_code_points, line_stretch_of, line_stretch, line_verdict}
use Rattle.seg_line_pairs.specs.LineLists.{LooseRow, keeps, listed, listed_by, loose_rows}
use Rattle.seg_line_pairs.specs.LineRules.{TableRules, line_class, is_keep_all, is_loose_or_normal}
use Rattle.seg_line_pairs.specs.LineUnits.{CountedUnit, LineUnit, base_unit, counted_units, extent_of, is_glued, is_mark, units_from, units_of}
use Rattle.seg_line_pairs.specs.LineVerdict.{begins_run, case_of, case_verdict, list_case, unit_first_verdict, unit_verdict}
use Rattle.seg_line_pairs.proofs.LineEvents.{first-stretch}
use Rattle.seg_line_pairs.proofs.UnitLists.{counted, first-unit}

pub if-off : {X : Type 0} (b : Bool) (x y : X) → b ≡ false → cond b x y ≡ y
if-off true x y off = cc
if-off false x y off = refl

pub and-first : (a b : Bool) → (a && b) ≡ true → a ≡ true
and-first true b is = refl
and-first false b is = cc

pub and-last : (a b : Bool) → (a && b) ≡ true → b ≡ true
and-last true b is = is
and-last false b is = cc

pub and-off : (a b : Bool) → a ≡ false → (a && b) ≡ false
and-off true b off = cc
and-off false b off = refl

pub not-true : (b : Bool) → not b ≡ true → b ≡ false
not-true true is = cc
not-true false is = refl

pub or-neither : (a b : Bool) → (a || b) ≡ false → (a ≡ false) × (b ≡ false)
or-neither true b is = cc
or-neither false b is = (refl, is)

three-off : (a b c : Bool) → a ≡ false → (a && b && c) ≡ false
three-off true b c off = cc
three-off false b c off = refl

with-single : (a b : Bool) → (a && b) ≡ false → (a && true && b) ≡ false
with-single true b off = off
with-single false b off = refl

-- options that ask for no more

pub keeps-off : (engine : LineEngine) (style : LineStyle) (left right : ℕ) → asks_more style ≡ false → keeps engine style left right ≡ false
unfolding keeps
keeps-off engine style left right few = three-off (is_keep_all style.word_option) _ _ (or-neither (is_keep_all style.word_option) _ few).0

listed-by-off : (strictness : LineBreakStrictness) (rows : List LooseRow) (style : LineStyle) (joined : Bool) (left left_point right right_point : ℕ)
    → is_loose_or_normal strictness ≡ false → listed_by strictness rows style joined left left_point right right_point ≡ None
listed-by-off strictness.Loose rows style joined left left_point right right_point none = cc
listed-by-off strictness.Normal rows style joined left left_point right right_point none = cc
listed-by-off strictness.Strict rows style joined left left_point right right_point none = refl
listed-by-off strictness.Anywhere rows style joined left left_point right right_point none = refl

pub listed-off : (engine : LineEngine) (style : LineStyle) (joined : Bool) (left left_point right right_point : ℕ) → asks_more style ≡ false
    → listed engine style joined left left_point right right_point ≡ None
unfolding listed
listed-off engine style joined left left_point right right_point few =
    listed-by-off style.strictness (loose_rows engine) style joined left left_point right right_point
    (or-neither (is_keep_all style.word_option) _ few).1

-- what a plain pair says of the table's entry

pub said-go : (b : Bool) (said : PlainPair) → cond b said plain.Other ≡ plain.Go → (b ≡ true) × (said ≡ plain.Go)
said-go true said is = (refl, is)
said-go false said is = cc

pub said-break : (b : Bool) (said : PlainPair) → cond b said plain.Other ≡ plain.Break → (b ≡ true) × (said ≡ plain.Break)
said-break true said is = (refl, is)
said-break false said is = cc

entry-go : (joined : Bool) (entry : BreakState) → entry_pair joined entry ≡ plain.Go → entry ≡ entries.Keep
entry-go joined entries.Keep is = refl
entry-go true entries.Break is = cc
entry-go false entries.Break is = cc
entry-go true entries.NoMatch is = cc
entry-go false entries.NoMatch is = cc
entry-go joined (entries.Index state) is = cc
entry-go joined (entries.Intermediate state) is = cc

-- the verdict on the first of some code points, where the table decides between it and the second
module _ (rules : TableRules Classic) (left right : ℕ) (after : List ℕ) where
  abbrev unit : LineUnit
  unit = base_unit rules left

  abbrev class : ℕ
  class = line_class rules right

  -- the two are bases of units
  not-glued : is_plain rules.table.complex_property unit.class class ≡ true → is_glued Classic unit.class class ≡ false
  not-glued is = and-off (is_mark Classic class) _ (not-true (is_mark Classic class) (and-first (not (is_mark Classic class)) _ is))

  two-units : is_glued Classic unit.class class ≡ false → counted_units rules (left ∷ right ∷ after) ≡ counted 1 unit ∷ counted_units rules (right ∷ after)
  unfolding counted_units units_from
  two-units other = rw other refl

  no-run : (second : LineUnit) → second.class ≡ class → is_plain rules.table.complex_property unit.class class ≡ true → begins_run rules unit second ≡ false
  no-run second same is =
      rw same (with-single (unit.class == rules.table.complex_property) (class == rules.table.complex_property)
      (not-true _ (and-last (not (is_mark Classic class)) _ is)))

  by-table : (second : LineUnit) → second.class ≡ class → asks_more rules.style ≡ false → is_plain rules.table.complex_property unit.class class ≡ true
      → case_of rules unit second ≡ Table
  by-table second same few is =
      if-off (begins_run rules unit second) _ _ (no-run second same is) ∙ if-off (keeps Classic rules.style unit.class second.class) _ _ (keeps-off Classic rules.style unit.class second.class few)
      ∙ ap list_case (listed-off Classic rules.style unit.is_joined unit.class unit.left_code_point second.class second.code_point few)

  by-entry : (units : List LineUnit) (second : LineUnit) → second.class ≡ class → asks_more rules.style ≡ false
      → is_plain rules.table.complex_property unit.class class ≡ true
      → case_verdict rules.table unit second units (case_of rules unit second) ≡ unit_first_verdict rules.table unit units (entry_of rules.table unit.class class)
  by-entry units second same few is =
      ap (case_verdict rules.table unit second units) (by-table second same few is)
      ∙ ap (λ class. unit_first_verdict rules.table unit units (entry_of rules.table unit.class class)) same

  -- the verdict on the units, whatever the second one's marks
  module _ (few : asks_more rules.style ≡ false) (is : is_plain rules.table.complex_property unit.class class ≡ true) where
    first-verdict : (later : List CountedUnit) (second : CountedUnit) → second.unit.class ≡ class
        → unit_verdict rules (units_of (counted 1 unit ∷ second ∷ later))
        ≡ unit_first_verdict rules.table unit (units_of (counted 1 unit ∷ second ∷ later)) (entry_of rules.table unit.class class)
    unfolding unit_verdict
    first-verdict later second same = by-entry (units_of (counted 1 unit ∷ second ∷ later)) second.unit same few is

    record TwoUnits : Type 0 where
      second : CountedUnit
      later : List CountedUnit
      units_are : counted_units rules (left ∷ right ∷ after) ≡ counted 1 unit ∷ second ∷ later
      class_is : second.unit.class ≡ class

    two : TwoUnits
    two =
        let first = first-unit rules right after in
        record {
          second = counted (suc first.marks) first.unit;
          later = counted_units rules (drop first.marks after);
          units_are = two-units (not-glued is) ∙ ap (λ (units : List CountedUnit). counted 1 unit ∷ units) first.is;
          class_is = first.class;
        }

    pair-verdict : (entry : BreakState) → entry_of rules.table unit.class class ≡ entry
        → line_verdict rules (left ∷ right ∷ after)
        ≡ in_code_points (counted 1 unit ∷ two.second ∷ two.later) (unit_first_verdict rules.table unit (units_of (counted 1 unit ∷ two.second ∷ two.later)) entry)
    unfolding line_verdict
    pair-verdict entry named =
        let all : List CountedUnit = counted 1 unit ∷ two.second ∷ two.later in
        ap (λ (units : List CountedUnit). in_code_points units (unit_verdict rules (units_of units))) two.units_are
        ∙ ap (in_code_points all) (first-verdict two.later two.second two.class_is ∙ ap (unit_first_verdict rules.table unit (units_of all)) named)

  go-verdict : asks_more rules.style ≡ false → plain_pair rules.table unit.class class ≡ plain.Go → line_verdict rules (left ∷ right ∷ after) ≡ GoAfter 1
  unfolding extent_of
  go-verdict few is =
      let said = said-go (is_plain rules.table.complex_property unit.class class) _ is in
      pair-verdict few said.0 entries.Keep (entry-go _ _ said.1)

  -- a boundary by an entry
  break-by : asks_more rules.style ≡ false → is_plain rules.table.complex_property unit.class class ≡ true
      → (joined : Bool) → unit.is_joined ≡ joined → (entry : BreakState) → entry_of rules.table unit.class class ≡ entry
      → entry_pair joined entry ≡ plain.Break → line_verdict rules (left ∷ right ∷ after) ≡ BreakAfter 1 0
  unfolding extent_of
  break-by few is joined here entries.Keep named said = cc
  break-by few is true here entries.Break named said = cc
  break-by few is false here entries.Break named said = pair-verdict few is entries.Break named ∙ rw here refl
  break-by few is true here entries.NoMatch named said = cc
  break-by few is false here entries.NoMatch named said = pair-verdict few is entries.NoMatch named ∙ rw here refl
  break-by few is joined here (entries.Index state) named said = cc
  break-by few is joined here (entries.Intermediate state) named said = cc

  break-verdict : asks_more rules.style ≡ false → plain_pair rules.table unit.class class ≡ plain.Break → line_verdict rules (left ∷ right ∷ after) ≡ BreakAfter 1 0
  break-verdict few is =
      let said = said-break (is_plain rules.table.complex_property unit.class class) _ is in
      break-by few said.0 unit.is_joined refl (entry_of rules.table unit.class class) refl said.1

-- what is found in a text follows from its pairs
module _ (rules : TableRules Classic) (few : asks_more rules.style ≡ false) (cuts : Cuts) where
  abbrev found : Text → List Boundary
  found text = unread_lines cuts (record { rules = rules; text = text })

  module _ (left right : ClassedItem) (after : Text) (left_class : HasClass rules left) (right_class : HasClass rules right) where
    abbrev rest : Text
    rest = text_from right after

    same-said : (said : PlainPair) → plain_pair rules.table left.class right.class ≡ said
        → plain_pair rules.table (line_class rules left.code_point) (line_class rules right.code_point) ≡ said
    same-said said is =
        ap (λ class. plain_pair rules.table class (line_class rules right.code_point)) (sym left_class.is)
        ∙ ap (plain_pair rules.table left.class) (sym right_class.is) ∙ is

    first-stretch-is : (v : Verdict) (s : Stretch) → line_verdict rules (left.code_point ∷ right.code_point ∷ code_points after.items) ≡ v
        → line_stretch_of cuts rules (code_points (text_from left rest).items) v ≡ s
        → line_stretch cuts rules (code_points (text_from left rest).items) ≡ s
    first-stretch-is v s is stretch = ap (line_stretch_of cuts rules (code_points (text_from left rest).items)) is ∙ stretch

    go-on : plain_pair rules.table left.class right.class ≡ plain.Go → found (text_from left rest) ≡ found rest
    go-on said =
        first-stretch rules cuts (text_from left rest).items rest.end left.code_point (code_points rest.items) (record { extent = 1; boundaries = [] }) refl
        (first-stretch-is (GoAfter 1) _
        (go-verdict rules left.code_point right.code_point (code_points after.items) few (same-said plain.Go said)) refl)

    break-on : plain_pair rules.table left.class right.class ≡ plain.Break → found (text_from left rest) ≡ boundary right.place 0 ∷ found rest
    break-on said =
        first-stretch rules cuts (text_from left rest).items rest.end left.code_point (code_points rest.items)
        (record { extent = 1; boundaries = boundary 1 0 ∷ [] }) refl
        (first-stretch-is (BreakAfter 1 0) _
        (break-verdict rules left.code_point right.code_point (code_points after.items) few (same-said plain.Break said)) refl)

  pub lines-follow : FollowsPairs rules (plain_pair rules.table) found found
  lines-follow = record { goes = go-on; breaks = break-on }

-- plain pairs lead to the boundaries of lines
module _ (before after : UnreadItems) (same : rules_of Classic after ≡ rules_of Classic before) (most : length after.text.items ≤ length before.text.items) where
  abbrev found_in : Cuts → Text → List Boundary
  found_in cuts text = unread_lines cuts (record { rules = rules_of Classic before; text = text })

  lead : (result : Option ℕ) → ((cuts : Cuts) → LeadsByPairs (found_in cuts) (found_in cuts) before.text result after.text)
      → LeadsToBreak (lines_unread (lines_of before)) result (lines_unread (lines_of after))
  lead (Some place) leads = rw same leads
  lead None leads = rw same (leads, most)

  pub lines-lead : (result : Option ℕ)
      → ((found later : Text → List Boundary) → (asks_more before.style ≡ false → FollowsPairs (rules_of Classic before) (plain_pair before.table) found later)
      → LeadsByPairs found later before.text result after.text)
      → LeadsToBreak (lines_unread (lines_of before)) result (lines_unread (lines_of after))
  lines-lead result leads = lead result (λ cuts. leads (found_in cuts) (found_in cuts) (λ few. lines-follow (rules_of Classic before) few cuts))
