use Rattle.std.proofs.Common.{refl, arith}
use Rattle.seg_machine.proofs.Marks.{first-push, first-skip}
use Rattle.seg_machine.proofs.provider.found.queue_of.Goals as goal
use Rattle.seg_machine.proofs.provider.found.queue_of.Goals.{then-is_to_follow, else-is_to_follow}

pub returns-then-has_no_mark : goal.returns-then-has_no_mark
returns-then-has_no_mark c =
    rw c.new-queue.ensures
    (record {
      listed = λ state marked. absurd (c.if-has_no_mark.ensures refl state marked);
      marked = λ state listed. absurd (omega (arith, listed.1));
    })

pub loop-state-init : goal.loop-state-init
loop-state-init c =
    rw c.new-queue.ensures
    (record {
      listed = λ state less marked. absurd (omega arith);
      marked = λ state listed. absurd (omega (arith, listed.1));
    })

pub loop-state-preserved : goal.loop-state-preserved
loop-state-preserved c =
    elim c.if-is_to_follow.branch [
      | then-is_to_follow w ↦
          rw w.queue-is
          (first-push c.args.marks.now c.loop-state.queue _ c.args.kept c.loop-state.state c.loop-state.invariant (w.if-is_to_follow.ensures.marked refl)
          w.push.ensures.listed w.push.ensures.more)
      | else-is_to_follow w ↦
          rw w.queue-is
          (first-skip c.args.marks.now c.loop-state.queue c.args.kept c.loop-state.state c.loop-state.invariant (w.if-is_to_follow.ensures.others refl))
    ]

pub returns : goal.returns
returns c = record {
  listed = λ state marked. c.loop-state.invariant.listed state (let low = marked.state in omega arith) marked;
  marked = c.loop-state.invariant.marked;
}
