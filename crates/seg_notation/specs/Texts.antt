-- The rules that a text was read as.
use Rattle.std.specs.Prelude.{map}
use Rattle.seg_rules.specs.RowRules.{Row, RowRules}
use Rattle.seg_notation.specs.declared.rows.OwnRow.{OwnRow}
use Rattle.seg_notation.specs.declared.text_rules.TextRules.{TextRules}

abbrev pub row_of : OwnRow → Row
row_of rule = record { left = rule.left.items; right = rule.right.items; verdict = rule.verdict }

abbrev pub rules_in : TextRules → RowRules
rules_in t = record {
  above = map row_of t.above.items;
  below = map row_of t.below.items;
  has_marks = t.has_marks;
  marks = t.marks.marks;
  bare = t.marks.bare;
  alone = t.marks.alone;
  at_end = t.at_end;
}
