-- What turns look at on the left.
use Rattle.std.specs.Prelude.{ℕ, Bool, suc}
use Rattle.seg_line_pairs.specs.LineRules.{TableRules, line_class}
use Rattle.seg_line_pairs.specs.LineUnits.{is_joiner}
use Rattle.seg_line_pairs.specs.declared.engines.LineEngine.TheVariants.{Seventeen}

-- An item, and the marks that are glued to it: what a turn looks at from the left.

-- how many items come after the first, which is its base; the class of the base; and the class and the code point of the last item
pub record LeftUnit : Type 0 where
  pub last : ℕ
  pub class : ℕ
  pub last_class : ℕ
  pub last_code_point : ℕ

abbrev pub left_unit : TableRules Seventeen → ℕ → LeftUnit
left_unit rules code_point = record {
  last = 0;
  class = line_class rules code_point;
  last_class = line_class rules code_point;
  last_code_point = code_point;
}

-- a unit with one item more
abbrev pub with_item : TableRules Seventeen → LeftUnit → ℕ → LeftUnit
with_item rules unit code_point =
    record unit { last = suc unit.last; last_class = line_class rules code_point; last_code_point = code_point }

-- the last item is ZWJ
abbrev pub is_joined : LeftUnit → Bool
is_joined unit = is_joiner Seventeen unit.last_class
