use Rattle.std.proofs.Common.{ap}
use Rattle.seg_pairs.proofs.Events.{ahead-read}
use Rattle.seg_pairs.proofs.runs.Events.new.Goals as goal

pub invariant_of-result : goal.invariant_of-result
invariant_of-result g c =
    let read = c.next_element-next in
    ahead-read c.args.pairs (g.I.Cursor.text c.fork.result) (g.I.Cursor.text c.args.text) read.result read.new.self.pairs (g.I.Cursor.text read.new.self.cursor)
    (ap g.I.Cursor.text c.fork.ensures) read.ensures.gives read.ensures.end read.ensures.table read.ensures.class
