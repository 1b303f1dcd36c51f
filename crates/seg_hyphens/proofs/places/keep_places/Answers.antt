use Rattle.std.proofs.Common.{arith, rules, inl, inr, sym, subst, ◌∙◌, ◌↔◌, IsTrue, ◌≡◌, ◌≤◌, ◌%◌, ◌-◌, Contains, Vec, Global, List, ℕ, ap}
use Rattle.std.specs.List.Sorted.{IsStrictlyIncreasing}
use Rattle.seg_hyphens.specs.Values.{IsChosen}
use Rattle.seg_hyphens.proofs.Choosing.{counted-few, keep-step, kept-are}
use Rattle.seg_hyphens.proofs.places.keep_places.Goals.{then-first, else-first, then-is_point, else-is_point, then-first-2, else-first-2}
use Rattle.seg_hyphens.proofs.places.keep_places.Goals as goal

abbrev items : Vec ℕ Global → List ℕ
items v = v.items

pub places-preserved : goal.places-preserved
places-preserved c =
    keep-step _ _ _ _ _ _ _ _ _ c.places.invariant c.places-test.true c.requires c.count_characters-all.ensures c.is_first-first.result c.if-first.is_point _ _ _ c.is_first-first.ensures
    (elim c.if-first.branch [
      | then-first w ↦ inl (w.index.result.now, w.if-first.true, w.index.ensures, subst (λ b. IsTrue b ↔ ((w.index.result.now % 2 ≡ 1) × (c.args.minima.left ≤ c.places.before) × (c.args.minima.right ≤ c.count_characters-all.result - c.places.before))) (sym w.is_point-is) w.allow-is_point.ensures)
      | else-first w ↦ inr (w.if-first.false, w.is_point-is ∙ w.if-first.false)
    ])
    (elim c.if-is_point.branch [ then-is_point w ↦ inl (w.if-is_point.true, ap items w.values-is, w.count-is) | else-is_point w ↦ inr (w.if-is_point.false, ap items w.values-is, w.count-is) ])
    (elim c.if-first-2.branch [ then-first-2 w ↦ inl (w.if-first-2.true, w.before-is) | else-first-2 w ↦ inr (w.if-first-2.false, w.before-is) ])

pub overflow_sub-all : goal.overflow_sub-all
overflow_sub-all c = omega (arith, counted-few c.args.word.now c.places.before c.places.place c.places.invariant.counted, c.count_characters-all.ensures)

pub returns-clause-are : goal.returns-clause-are
returns-clause-are c = λ place.
    subst (λ (xs : List ℕ). Contains xs place ↔ IsChosen c.args.minima.left c.args.minima.right c.args.values.now.items c.args.word.now place)
    (sym c.truncate.ensures.items) (kept-are _ _ _ _ _ _ _ _ c.places.invariant (search rules) place)

pub returns-clause-ordered : goal.returns-clause-ordered
returns-clause-ordered c = subst IsStrictlyIncreasing (sym c.truncate.ensures.items) c.places.invariant.kept.ordered
