use Rattle.std.proofs.Common.{◌≡◌, ℕ, ◌<◌, ◌≤◌, [], ◌∙◌, subst}
use Rattle.seg_segments.specs.Kept.{codes_before}
use Rattle.seg_segments.proofs.Reading.{codes-none, codes-reached, owed-end, owed-next, owed-over}
use Rattle.seg_segments.proofs.suppress.starts.read_word.Goals as goal
use Rattle.seg_segments.proofs.suppress.starts.read_word.Goals.{else-loop-rest-test, then-loop-rest-test+in_default}

pub loop-rest-preserved : goal.loop-rest-preserved
loop-rest-preserved g c =
    owed-next _ _ _ _ _ _ _ _ _ _ _ c.loop-rest.invariant (subst (λ (n : ℕ). n < c.args.place) c.place.ensures c.loop-rest-test.true)
    c.in-Some.ensures.gives c.step.ensures c.ends_after-ended.ensures

pub returns-then-is_spent : goal.returns-then-is_spent
returns-then-is_spent g c =
    owed-over _ _ _ _ _ _ _
    (owed-next _ _ _ _ _ _ _ _ _ _ _ c.loop-rest.invariant (subst (λ (n : ℕ). n < c.args.place) c.place.ensures c.loop-rest-test.true)
    c.in-Some.ensures.gives c.step.ensures c.ends_after-ended.ensures)
    c.ends_after-ended.ensures (c.is_spent.ensures c.if-is_spent.true).0 (c.is_spent.ensures c.if-is_spent.true).1

pub returns-then-ended : goal.returns-then-ended
returns-then-ended g c =
    let none : codes_before c.args.place (g.I.Cursor.text c.loop-rest.rest).items ≡ [] =
    elim c.loop-rest-test.branch [
      | else-loop-rest-test w ↦ codes-reached _ _ _ (subst (λ (n : ℕ). c.args.place ≤ n) c.place.ensures w.loop-rest-test.false)
      | then-loop-rest-test+in_default w ↦ codes-none _ _ w.in_default.ensures.gives.0
    ] in
    owed-end _ _ _ _ _ _ c.loop-rest.invariant none ∙ c.if-ended.true

pub returns : goal.returns
returns g c =
    let none : codes_before c.args.place (g.I.Cursor.text c.loop-rest.rest).items ≡ [] =
    elim c.loop-rest-test.branch [
      | else-loop-rest-test w ↦ codes-reached _ _ _ (subst (λ (n : ℕ). c.args.place ≤ n) c.place.ensures w.loop-rest-test.false)
      | then-loop-rest-test+in_default w ↦ codes-none _ _ w.in_default.ensures.gives.0
    ] in
    owed-end _ _ _ _ _ _ c.loop-rest.invariant none ∙ c.if-ended.false
