-- Pairs that the table alone decides, one after another.
use Rattle.std.proofs.Common.{◌≡◌, ℕ, ◌+◌, false, true, List, ◌∷◌, sym, ap, ◌∙◌}
use Rattle.std.proofs.lemmas.List.{drop-drop}
use Rattle.seg_text.specs.Items.{Item, Text, rest_after}
use Rattle.seg_line_pairs.specs.declared.engines.LineEngine.{LineEngine}
use Rattle.seg_line_pairs.specs.declared.engines.PlainPair.{PlainPair}
use Rattle.seg_line_pairs.specs.declared.engines.PlainPair.TheVariants as plain
use Rattle.seg_line_pairs.specs.declared.plain_pairs.ClassedItem.{ClassedItem}
use Rattle.seg_line_pairs.specs.LineEvents.{HasClass, IsPassed, text_from}
use Rattle.seg_line_pairs.specs.LineRules.{TableRules}

-- one item more
module _ {engine : LineEngine} (rules : TableRules engine) (said : ℕ → ℕ → PlainPair) (left right : ClassedItem) (rest after : Text)
    (right_class : HasClass rules right) (items : rest.items ≡ (right.place, right.code_point) ∷ after.items) (end : after.end ≡ rest.end)
    (first : ClassedItem) (start : Text) (passed : IsPassed rules said first start left rest false) where
  rest-is : rest ≡ text_from right after
  rest-is =
      ap (λ (items : List Item). record { items = items; end = rest.end }) items
      ∙ ap (λ (end : ℕ). record { items = (right.place, right.code_point) ∷ after.items; end = end }) (sym end)

  text-on : text_from right after ≡ rest_after (passed.taken + 1) (text_from first start)
  text-on =
      sym rest-is ∙ ap (rest_after 1) passed.text_is
      ∙ ap (λ (items : List Item). record { items = items; end = start.end }) (drop-drop 1 passed.taken (text_from first start).items)

  pub passed-go : plain.Go ≡ said left.class right.class → IsPassed rules said first start right after false
  passed-go is = record {
    taken = passed.taken + 1;
    text_is = text-on;
    class = right_class;
    leads = λ found later follows. passed.leads found later follows ∙ ap (λ text. found (text_from left text)) rest-is
        ∙ follows.goes left right after passed.class right_class (sym is);
  }

  pub passed-break : plain.Break ≡ said left.class right.class → IsPassed rules said first start right after true
  passed-break is = record {
    taken = passed.taken + 1;
    text_is = text-on;
    class = right_class;
    leads = λ found later follows. passed.leads found later follows ∙ ap (λ text. found (text_from left text)) rest-is
        ∙ follows.breaks left right after passed.class right_class (sym is);
  }
