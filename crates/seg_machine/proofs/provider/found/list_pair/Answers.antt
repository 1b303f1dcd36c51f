use Rattle.seg_machine.proofs.Marks.{queue-here, queue-apart}
use Rattle.seg_machine.proofs.provider.found.list_pair.Goals as goal

pub returns-then-after-kept-clause-queue : goal.returns-then-after-kept-clause-queue
returns-then-after-kept-clause-queue c =
    let marked = c.mark.ensures in
    queue-here c.args.marks.now c.mark.new.marks c.args.queue.now c.push.new.self c.args.state c.args.kept c.requires.queue
    (rw c.if-after-kept.true at marked.marked) marked.keeps (rw c.if-after-kept.true at marked.only) c.push.ensures.listed c.push.ensures.more

pub returns-else-after-kept-clause-queue : goal.returns-else-after-kept-clause-queue
returns-else-after-kept-clause-queue c =
    queue-apart c.args.marks.now c.mark.new.marks c.args.queue.now c.args.state c.args.after c.args.kept c.if-after-kept.false c.requires.queue
    c.mark.ensures.keeps c.mark.ensures.only
