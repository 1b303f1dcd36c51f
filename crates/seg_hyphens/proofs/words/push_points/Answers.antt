use Rattle.std.proofs.Common.{ℕ, Vec, Global, List, length, encode_utf8, ap, inl, inr, ◌∙◌, arith}
use Rattle.seg_hyphens.proofs.PointPlaces.{finding-none, finding-next, finding-done, next-few}
use Rattle.seg_hyphens.proofs.words.push_points.Goals.{then-has_point+in_ok-push, else-has_point}
use Rattle.seg_hyphens.proofs.words.push_points.Goals as goal

abbrev items : Vec ℕ Global → List ℕ
items v = v.items

pub items-init : goal.items-init
items-init g c = record { finding = finding-none _ _ _ _ (ap g.I.Cursor.text c.fork-rest.ensures) }

pub overflow_add-offset : goal.overflow_add-offset
overflow_add-offset g c =
    omega (
      arith,
      c.requires,
      c.len_utf8-offset.ensures.len ∙ ap (λ x. length (encode_utf8 x)) c.lower_of.ensures,
      next-few _ _ _ _ _ _ c.items.invariant.finding _ (g.I.Cursor.text c.next_item.new.self) c.in-Some.ensures.gives,
    )

pub items-preserved : goal.items-preserved
items-preserved g c = record {
  finding = finding-next _ _ _ _ _ _ c.items.invariant.finding _ _ c.in-Some.ensures.gives c.has_point.result _ _ c.in-Some.ensures.end c.has_point.ensures.some c.has_point.ensures.is
      (elim c.if-has_point.branch [ then-has_point+in_ok-push w ↦ inl (w.if-has_point.true, ap items w.places-is ∙ w.in_ok-push.ensures.items) | else-has_point w ↦ inr (w.if-has_point.false, ap items w.places-is) ])
      (c.len_utf8-offset.ensures.len ∙ ap (λ x. length (encode_utf8 x)) c.lower_of.ensures);
}

pub returns : goal.returns
returns g c = finding-done _ _ _ _ _ _ c.items.invariant.finding c.in_default.ensures.gives.0
