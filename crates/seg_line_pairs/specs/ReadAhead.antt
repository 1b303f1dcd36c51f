-- A text whose first item is read ahead, with its class, by either engine.
use Rattle.std.specs.Prelude.{◌≡◌, ◌-◌, ℕ, Option, Some, None, List, [], ◌∷◌}
use Rattle.seg_text.specs.Items.{Text, prefix_length, rest_after, text_before}
use Rattle.seg_text.specs.declared.boundary.Boundary.{Boundary}
use Rattle.seg_text.specs.Boundaries.{boundary}
use Rattle.seg_pairs.specs.PairTable.{PairTable}
use Rattle.seg_line_pairs.specs.declared.engines.LineEngine.{LineEngine}
use Rattle.seg_line_pairs.specs.declared.engines.LineEngine.TheVariants.{Classic}
use Rattle.seg_line_pairs.specs.declared.options.LineStyle.{LineStyle}
use Rattle.seg_line_pairs.specs.declared.plain_pairs.ClassedItem.{ClassedItem}
use Rattle.seg_line_pairs.specs.LineEvents.{IsItemAhead, UnreadLines}
use Rattle.seg_line_pairs.specs.LineRules.{TableRules, is_complex_point}

-- a text that isn't read yet, and what its classes are read by, whichever the engine
pub record UnreadItems : Type 0 where
  pub table : PairTable
  pub style : LineStyle
  pub text : Text

abbrev pub unread_by : {engine : LineEngine} → TableRules engine → Text → UnreadItems
unread_by rules text = record { table = rules.table; style = rules.style; text = text }

abbrev pub rules_of : (engine : LineEngine) → UnreadItems → TableRules engine
rules_of engine unread = record { table = unread.table; style = unread.style }

-- as a text of lines by the classic engine
abbrev pub lines_of : UnreadItems → UnreadLines
lines_of unread = record { rules = rules_of Classic unread; text = unread.text }

-- what is left after so many items
abbrev pub items_after : ℕ → UnreadItems → UnreadItems
items_after n unread = record unread { text = rest_after n unread.text }

-- the item that is ahead of a text, where there is one, and those after it
abbrev pub AreItemsAhead : {I : Type 0} {engine : LineEngine} → (I → Text) → TableRules engine → Text → Option (ClassedItem × I) → Type 0
AreItemsAhead text rules here None = here.items ≡ []
AreItemsAhead text rules here (Some (first, rest)) = IsItemAhead rules here (Some first) (text rest)

-- the complex items that come first are this run, and what is left begins with the last of them
pub record TakesRun {engine : LineEngine} (rules : TableRules engine) (before : UnreadItems) (run : Text) (after : UnreadItems) : Type 0 where
  pub run_is : let extent = prefix_length (is_complex_point rules) before.text in run ≡ text_before extent before.text
  pub rest : let extent = prefix_length (is_complex_point rules) before.text in after ≡ items_after (extent - 1) before

-- plain pairs lead to a boundary, or to none, as two functions of a text find them
abbrev pub LeadsByPairs : (found later : Text → List Boundary) → Text → Option ℕ → Text → Type 0
LeadsByPairs found later before (Some place) after = found before ≡ boundary place 0 ∷ later after
LeadsByPairs found later before None after = found before ≡ found after
