use Rattle.std.proofs.Common.{◌≡◌, ◌||◌, ℕ, refl, ap, ◌∙◌}
use Rattle.seg_line_pairs.specs.LineRules.{line_class}
use Rattle.seg_line_pairs.specs.LineBoundaries.{rules_by}
use Rattle.seg_line_turns.specs.TurnPlaces.{left_seen}
use Rattle.seg_line_turns.specs.Turns.{opens, is_taken}
use Rattle.seg_line_turns.proofs.TurnReads.{or-first, or-second, turning-end, turning-right, turning-taken}
use Rattle.seg_line_turns.proofs.turns.turn.Goals as goal
use Rattle.seg_line_turns.proofs.turns.turn.Goals.{then-opened, else-opened}

pub returns-in_default : goal.returns-in_default
returns-in_default g c = λ whole last at.
    turning-end (rules_by c.args.pairs) whole c.args.opened c.loop-place.left _ _ _ _ (c.loop-place.invariant.turning whole last at)
    c.in_default.ensures.gives.0 c.in_default.ensures.gives.1 c.in_default.ensures.end c.place-end.ensures

pub returns-then-not-is_taken : goal.returns-then-not-is_taken
returns-then-not-is_taken g c = λ whole last at.
    turning-right (rules_by c.args.pairs) whole c.args.opened c.loop-place.left _ _ _ _ (c.loop-place.invariant.turning whole last at)
    c.in-Some.ensures.gives c.in-Some.ensures.end c.is_taken.result c.if-opened.opened c.right_turn.result
    (λ last. c.is_taken.ensures last ∙ ap (is_taken (left_seen last c.loop-place.left)) c.class.ensures.value) c.if-not-is_taken.true
    (λ last. opened_is last) c.right_turn.ensures
  where
    opened_is : (last : ℕ) → c.if-opened.opened ≡ (c.args.opened || opens (left_seen last c.loop-place.left) (line_class (rules_by c.args.pairs) c.in-Some.code_point))
    opened_is last =
        elim c.if-opened.branch [
          | then-opened w ↦ or-first _ _ _ w.opened-is w.if-opened.true
          | else-opened w ↦ or-second _ _ _ w.if-opened.false (w.opened-is ∙ w.opens-opened.ensures last ∙ ap (opens (left_seen last c.loop-place.left)) c.class.ensures.value)
        ]

pub loop-place-preserved : goal.loop-place-preserved
loop-place-preserved g c = record {
  class = c.loop-place.invariant.class;
  turning = λ whole last at.
      turning-taken (rules_by c.args.pairs) whole c.args.opened c.loop-place.left _ _ _ _ (c.loop-place.invariant.turning whole last at)
      c.in-Some.ensures.gives c.in-Some.ensures.end _ c.is_taken.result
      (λ last. c.is_taken.ensures last ∙ ap (is_taken (left_seen last c.loop-place.left)) c.class.ensures.value) c.if-not-is_taken.false
      (rw c.class.ensures.value refl);
}
