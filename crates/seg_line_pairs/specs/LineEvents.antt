-- A text whose lines are found one after another: what is read ahead, what comes next, and what is left.
use Rattle.std.specs.Prelude.{◌≡◌, ◌<◌, ℕ, Option, Some, None, [], ◌∷◌, ◌≢◌, ◌≤◌, List, ◌++◌, length, IfSome, ◌||◌, Bool, true, false, if◌then◌else◌, nat_lt, filter}
use Rattle.seg_text.specs.Items.{Text, code_points, rest_after, start_of}
use Rattle.seg_text.specs.declared.boundary.Boundary.{Boundary}
use Rattle.seg_text.specs.Boundaries.{boundary, boundaries_in, Cuts, AreCutsOf, with_status, cut_places, later_boundaries, Remainder}
use Rattle.seg_pairs.specs.PairTable.{PairTable}
use Rattle.seg_pairs.specs.Elements.{onto}
use Rattle.seg_line_pairs.specs.declared.plain_pairs.ClassedItem.{ClassedItem}
use Rattle.seg_line_pairs.specs.declared.engines.LineEngine.{LineEngine}
use Rattle.seg_line_pairs.specs.declared.engines.LineEngine.TheVariants.{Classic}
use Rattle.seg_line_pairs.specs.LineRules.{TableRules, line_class, is_keep_all, is_loose_or_normal}
use Rattle.seg_line_pairs.specs.declared.events.LineEvent.{LineEvent}
use Rattle.seg_line_pairs.specs.declared.events.LineEvent.TheVariants.{End, Go, Break, Run}
use Rattle.seg_line_pairs.specs.LineBoundaries.{line_stretch}
use Rattle.seg_line_pairs.specs.LineUnits.{UnitElement, UnitsLeft, line_elements}
use Rattle.seg_line_pairs.specs.declared.options.LineStyle.{LineStyle}
use Rattle.seg_line_pairs.specs.declared.engines.PlainPair.{PlainPair}
use Rattle.seg_line_pairs.specs.declared.engines.PlainPair.TheVariants as plain

-- An item that is read ahead of a text, with its class.

-- the text that begins with this item, and goes on with those
abbrev pub text_from : ClassedItem → Text → Text
text_from next rest = record { items = (next.place, next.code_point) ∷ rest.items; end = rest.end }

-- an item has the class that its code point is read as, one of the table's
pub record HasClassBy (t : PairTable) (class_of : ℕ → ℕ) (item : ClassedItem) : Type 0 where
  pub below : item.class < t.property_count
  pub is : item.class ≡ class_of item.code_point

-- the first item of a text, where there is one, and those after it
abbrev pub IsAheadBy : PairTable → (ℕ → ℕ) → Text → Option ClassedItem → Text → Type 0
IsAheadBy t class_of here None rest = here.items ≡ []
IsAheadBy t class_of here (Some next) rest = (here ≡ text_from next rest) × HasClassBy t class_of next

-- an item has its class by the rules of lines
abbrev pub HasClass : {engine : LineEngine} → TableRules engine → ClassedItem → Type 0
HasClass rules item = HasClassBy rules.table (line_class rules) item

abbrev pub IsItemAhead : {engine : LineEngine} → TableRules engine → Text → Option ClassedItem → Text → Type 0
IsItemAhead rules here next rest = IsAheadBy rules.table (line_class rules) here next rest

-- What comes next of a text that is read line by line, by either engine.

-- a text that isn't read yet, and its boundaries but that at its start, by how runs are cut and by the cuts that are left of a run before it
pub record UnreadText : Type 0 where
  pub text : Text
  pub later : Cuts → List ℕ → List Boundary

-- .. where no cut is left of a run
abbrev pub later_of : Cuts → UnreadText → List Boundary
later_of cuts unread = unread.later cuts []

-- what comes next, however runs are cut: the end, nothing, a boundary, or a run with its cuts
abbrev pub LeadsToEvent : {I : Type 0} → (I → Text) → UnreadText → LineEvent I → UnreadText → Type 0
LeadsToEvent text before End after = (before.text.items ≡ []) × ((after ≡ before) × ((cuts : Cuts) → later_of cuts before ≡ []))
LeadsToEvent text before Go after = (before.text.items ≢ []) × ((cuts : Cuts) → later_of cuts before ≡ later_of cuts after)
LeadsToEvent text before (Break place) after = (cuts : Cuts) → later_of cuts before ≡ boundary place 0 ∷ later_of cuts after
LeadsToEvent text before (Run run end) after =
    (before.text.items ≢ []) × (end ≡ (text run).end)
    × ((cuts : Cuts) → AreCutsOf (length (text run).items) (cuts (code_points (text run).items))
    → later_of cuts before ≡ with_status 0 (cut_places cuts (text run)) ++ after.later cuts (cut_places cuts (text run)))

-- plain pairs lead to a boundary, or to none
abbrev pub LeadsToBreak : UnreadText → Option ℕ → UnreadText → Type 0
LeadsToBreak before (Some place) after = (cuts : Cuts) → later_of cuts before ≡ boundary place 0 ∷ later_of cuts after
LeadsToBreak before None after =
    ((cuts : Cuts) → later_of cuts before ≡ later_of cuts after) × (length after.text.items ≤ length before.text.items)

-- less of the text is left
pub record LeavesLess (before after : UnreadText) : Type 0 where
  pub end : after.text.end ≡ before.text.end
  pub fewer : before.text.items ≢ [] → length after.text.items < length before.text.items

-- what is left of a text of lines: the boundary at its start, where it isn't given yet, the cuts that are left of a run, and then the
-- boundaries of what isn't read; no status of a boundary of lines is other than 0
abbrev pub line_remainder : Cuts → Bool → List ℕ → UnreadText → Remainder
line_remainder cuts started run unread =
    let rest = with_status 0 run ++ unread.later cuts run in
    record { left = if started then rest else boundary (start_of unread.text) 0 ∷ rest; status = 0 }

-- the places before an end
abbrev pub places_before : ℕ → List ℕ → List ℕ
places_before end places = filter (λ place. nat_lt place end) places

-- What comes next by the classic engine.

-- a text that is being read, and what its lines are found by
pub record UnreadLines : Type 0 where
  pub rules : TableRules Classic
  pub text : Text

-- the boundaries of an unread text but that at its start
abbrev pub unread_lines : Cuts → UnreadLines → List Boundary
unread_lines cuts unread = boundaries_in (later_boundaries (line_stretch cuts unread.rules)) unread.text

abbrev pub lines_unread : UnreadLines → UnreadText
lines_unread unread = record { text = unread.text; later = λ cuts run. unread_lines cuts unread }

-- the first unit, where there is one, and the others are those of the text
pub record AreUnitsAhead (rules : TableRules Classic) (text : Text) (next : Option UnitElement) (rest : UnitsLeft) : Type 0 where
  pub same : onto next rest.left ≡ line_elements rules text.items
  pub same_end : rest.end ≡ text.end
  pub same_table : rest.rules.table ≡ rules.table
  pub below : IfSome next (λ next. next.class < rules.table.property_count)

-- where a text has a unit, it's this one, with those after it
abbrev pub AreFirstUnits : TableRules Classic → Text → Option (UnitElement × UnitsLeft) → Type 0
AreFirstUnits rules text None = text.items ≡ []
AreFirstUnits rules text (Some (left, rest)) = AreUnitsAhead rules text (Some left) rest

-- What pairs of classes lead to, between which the table alone decides.

-- the options ask for more than the classes and the table
abbrev pub asks_more : LineStyle → Bool
asks_more style = is_keep_all style.word_option || is_loose_or_normal style.strictness

-- what is found in a text by two functions of it, where pairs of classes say this: Go, that no boundary stands before the second item; Break, that
-- one does, and what comes then is found by the other function
pub record FollowsPairs {engine : LineEngine} (rules : TableRules engine) (said : ℕ → ℕ → PlainPair) (found later : Text → List Boundary) : Type 0 where
  pub goes : (left right : ClassedItem) (after : Text) → HasClass rules left → HasClass rules right → said left.class right.class ≡ plain.Go
      → found (text_from left (text_from right after)) ≡ found (text_from right after)
  pub breaks : (left right : ClassedItem) (after : Text) → HasClass rules left → HasClass rules right → said left.class right.class ≡ plain.Break
      → found (text_from left (text_from right after)) ≡ boundary right.place 0 ∷ later (text_from right after)

-- what is found from this item on, and a boundary before it or not
abbrev pub found_passed : (found later : Text → List Boundary) → (is_break : Bool) → ClassedItem → Text → List Boundary
found_passed found later true next rest = boundary next.place 0 ∷ later (text_from next rest)
found_passed found later false next rest = found (text_from next rest)

-- pairs that say this lead from one item, with those after it, to another
pub record IsPassed {engine : LineEngine} (rules : TableRules engine) (said : ℕ → ℕ → PlainPair)
    (first : ClassedItem) (start : Text) (next : ClassedItem) (rest : Text) (is_break : Bool) : Type 0 where
  pub taken : ℕ
  pub text_is : text_from next rest ≡ rest_after taken (text_from first start)
  pub class : HasClass rules next
  pub leads : (found later : Text → List Boundary) → FollowsPairs rules said found later
      → found (text_from first start) ≡ found_passed found later is_break next rest
