-- The units of a text of lines: a base with the marks after it (UAX #14, LB9).
use Rattle.std.specs.Prelude.{ℕ, zero, suc, ◌+◌, ◌==◌, ◌&&◌, not, Bool, true, false, if◌then◌else◌, List, [], ◌∷◌, map, ◌≡◌, ◌<◌, Option, Some, None, IfSome}
use Rattle.seg_text.specs.Items.{Item}
use Rattle.seg_pairs.specs.declared.elements.Element.{Element}
use Rattle.seg_line_pairs.specs.declared.engines.LineEngine.{LineEngine}
use Rattle.seg_line_pairs.specs.declared.units.UnitDetail.{UnitDetail}
use Rattle.seg_line_pairs.specs.LineClasses.{class_number}
use Rattle.seg_line_pairs.specs.LineClasses.LineClass.{BK, CM, CM_EASTASIAN, CR, LF, NL, SP, ZW, ZWJ}
use Rattle.seg_line_pairs.specs.declared.engines.LineEngine.TheVariants.{Classic, Seventeen}
use Rattle.seg_line_pairs.specs.LineRules.{TableRules, line_class, is_one_of}

-- a code point that isn't glued, which is its base, and the marks after it: the class of the base and its code point, that which lists
-- look at where the unit stands on the left, whether the last of them is ZWJ, and whether there are no marks
pub record LineUnit : Type 0 where
  pub class : ℕ
  pub code_point : ℕ
  pub left_code_point : ℕ
  pub is_joined : Bool
  pub is_single : Bool

unfoldable pub is_mark : LineEngine → ℕ → Bool
is_mark engine class = is_one_of engine (CM ∷ CM_EASTASIAN ∷ ZWJ ∷ []) class

-- a mark after a base of one of these six classes stands alone
unfoldable pub bears_none : LineEngine → ℕ → Bool
bears_none engine class = is_one_of engine (BK ∷ CR ∷ LF ∷ NL ∷ SP ∷ ZW ∷ []) class

abbrev pub is_glued : LineEngine → ℕ → ℕ → Bool
is_glued engine base class = is_mark engine class && not (bears_none engine base)

abbrev pub is_joiner : LineEngine → ℕ → Bool
is_joiner engine class = class == class_number engine ZWJ

-- a code point alone, and a unit with one mark more: lists look at the base on the left, those of the engine 17 at the last code point
abbrev pub base_unit : {engine : LineEngine} → TableRules engine → ℕ → LineUnit
base_unit {engine} rules code_point = record {
  class = line_class rules code_point;
  code_point = code_point;
  left_code_point = code_point;
  is_joined = is_joiner engine (line_class rules code_point);
  is_single = true;
}

abbrev pub left_after : LineEngine → ℕ → ℕ → ℕ
left_after Classic before mark = before
left_after Seventeen before mark = mark

abbrev pub with_mark : {engine : LineEngine} → TableRules engine → LineUnit → ℕ → LineUnit
with_mark {engine} rules unit mark = record {
  class = unit.class;
  code_point = unit.code_point;
  left_code_point = left_after engine unit.left_code_point mark;
  is_joined = is_joiner engine (line_class rules mark);
  is_single = false;
}

-- a unit, and how many code points it has
pub record CountedUnit : Type 0 where
  pub extent : ℕ
  pub unit : LineUnit

-- the units of a list that begins with this one, or with its first code points
unfoldable pub units_from : {engine : LineEngine} → TableRules engine → CountedUnit → List ℕ → List CountedUnit
units_from rules counted [] = counted ∷ []
units_from {engine} rules counted (code_point ∷ code_points) =
    if is_glued engine counted.unit.class (line_class rules code_point)
    then units_from rules (record { extent = suc counted.extent; unit = with_mark rules counted.unit code_point }) code_points
    else counted ∷ units_from rules (record { extent = 1; unit = base_unit rules code_point }) code_points

unfoldable pub counted_units : {engine : LineEngine} → TableRules engine → List ℕ → List CountedUnit
counted_units rules [] = []
counted_units rules (code_point ∷ code_points) = units_from rules (record { extent = 1; unit = base_unit rules code_point }) code_points

abbrev pub units_of : List CountedUnit → List LineUnit
units_of counted = map (λ (one : CountedUnit). one.unit) counted

-- how many code points the first so many units have
unfoldable pub extent_of : ℕ → List CountedUnit → ℕ
extent_of zero counted = 0
extent_of (suc n) [] = 0
extent_of (suc n) (one ∷ counted) = one.extent + extent_of n counted

-- Units of lines as elements of a text, by the classic engine.

abbrev pub UnitElement : Type 0
UnitElement = Element UnitDetail

-- what a verdict looks at of an element
abbrev pub unit_seen : UnitElement → LineUnit
unit_seen element = record {
  class = element.class;
  code_point = element.detail.code_point;
  left_code_point = element.detail.code_point;
  is_joined = element.detail.is_joined;
  is_single = element.detail.is_single;
}

abbrev pub units_seen : List UnitElement → List LineUnit
units_seen elements = map unit_seen elements

-- an item alone, and an element with one mark more, each mark by its class
abbrev pub base_element : ℕ → ℕ → ℕ → UnitElement
base_element place code_point class = record {
  class = class;
  place = place;
  detail = record { code_point = code_point; is_joined = is_joiner Classic class; is_single = true };
}

abbrev pub marked_element : UnitElement → ℕ → UnitElement
marked_element element class = record {
  class = element.class;
  place = element.place;
  detail = record { code_point = element.detail.code_point; is_joined = is_joiner Classic class; is_single = false };
}

abbrev pub base_of : TableRules Classic → Item → UnitElement
base_of rules item = base_element item.0 item.1 (line_class rules item.1)

-- the elements of a text that begins with this one, or with its first items
unfoldable pub elements_from : TableRules Classic → UnitElement → List Item → List UnitElement
elements_from rules element [] = element ∷ []
elements_from rules element (item ∷ items) =
    if is_glued Classic element.class (line_class rules item.1)
    then elements_from rules (marked_element element (line_class rules item.1)) items
    else element ∷ elements_from rules (base_of rules item) items

-- the elements of a text whose first item was read already, where there was one
abbrev pub elements_after : TableRules Classic → Option UnitElement → List Item → List UnitElement
elements_after rules None items = []
elements_after rules (Some first) items = elements_from rules first items

abbrev pub line_elements : TableRules Classic → List Item → List UnitElement
line_elements rules [] = []
line_elements rules (item ∷ items) = elements_from rules (base_of rules item) items

-- what isn't read yet of the units of a text
pub record UnitsLeft : Type 0 where
  pub rules : TableRules Classic
  pub left : List UnitElement
  pub end : ℕ

-- the first item is a base by the rules, and where there is none no item is left
pub record IsFirst (rules : TableRules Classic) (first : Option UnitElement) (items : List Item) : Type 0 where
  pub none : first ≡ None → items ≡ []
  pub below : IfSome first (λ first. first.class < rules.table.property_count)
