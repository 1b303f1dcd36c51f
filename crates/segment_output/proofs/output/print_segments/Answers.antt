-- Where segments are only counted, they have no lines.
use Rattle.segment_output.specs.Output.{look_of}
use Rattle.segment_output.proofs.Counting.{counted}
use Rattle.segment_output.proofs.output.print_segments.Goals as goal

pub returns-in-Counted : goal.returns-in-Counted
returns-in-Counted g c =
    counted (look_of c.args.part) c.args.part.before c.args.part.bytes.now c.in-Counted.field-0 c.in-Counted.is c.args.alone _ (g.O.Write.contents c.args.out.now) _
    c.count_segments.ensures
