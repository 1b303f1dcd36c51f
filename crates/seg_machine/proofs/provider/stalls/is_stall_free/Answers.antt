use Rattle.std.proofs.Common.{refl, arith}
use Rattle.seg_machine.specs.Search.{bare}
use Rattle.seg_machine.proofs.Searches.{are_followed-more, stall_free}
use Rattle.seg_machine.proofs.Marks.{unmarked}
use Rattle.seg_machine.proofs.provider.stalls.is_stall_free.Goals as goal

pub follow_pair-requires-clause-reached : goal.follow_pair-requires-clause-reached
follow_pair-requires-clause-reached c = λ pair marked. absurd (unmarked 1024 pair marked)

pub loop-kept-preserved : goal.loop-kept-preserved
loop-kept-preserved c =
    let m = bare c.args.states.now c.args.transitions.now in
    let followed = c.if-not-follow_set.ensures in
    record {
      reached = followed.reached;
      start = are_followed-more m c.loop-kept.marks _ 0 0 followed.growth.keeps c.loop-kept.invariant.start;
      done = followed.done refl;
    }

pub returns-clause-free : goal.returns-clause-free
returns-clause-free c =
    let m = bare c.args.states.now c.args.transitions.now in
    λ all. stall_free m c.loop-kept.marks (λ pair marked less. c.loop-kept.invariant.done pair marked (omega arith)) c.loop-kept.invariant.start
