use Rattle.seg_line_pairs.specs.LineBoundaries.{rules_by}
use Rattle.seg_line_turns.proofs.TurnReads.{walking-end, walking-goes, walking-stops}
use Rattle.seg_line_turns.proofs.turn_walk.walk.Goals as goal

pub returns-in_default : goal.returns-in_default
returns-in_default g c = λ whole number saved at.
    walking-end (rules_by c.args.pairs) whole c.loop-place.walker _ _ _ _ c.walk_end.result (c.loop-place.invariant.walking whole number saved at)
    c.in_default.ensures.gives.0 c.in_default.ensures.gives.1 c.in_default.ensures.end c.place.ensures
    (λ whole number saved saved_place end. rw (← c.table.ensures.value) (c.walk_end.ensures whole number saved saved_place end))

pub returns-in-Break : goal.returns-in-Break
returns-in-Break g c = λ whole number saved at.
    walking-stops (rules_by c.args.pairs) whole c.loop-place.walker _ _ _ _ c.class.result (c.loop-place.invariant.walking whole number saved at)
    c.in-Some.ensures.gives c.in-Some.ensures.end c.class.ensures.value c.walk_step.result c.in-Break.outcome c.walk_step.ensures.value c.in-Break.is

pub loop-place-preserved : goal.loop-place-preserved
loop-place-preserved g c = record {
  state = c.in-Continue.ensures.state;
  walking = λ whole number saved at.
      walking-goes (rules_by c.args.pairs) whole c.loop-place.walker _ _ _ _ c.class.result (c.loop-place.invariant.walking whole number saved at)
      c.in-Some.ensures.gives c.in-Some.ensures.end c.class.ensures.value c.walk_step.result c.in-Continue.next c.walk_step.ensures.value c.in-Continue.is;
}
