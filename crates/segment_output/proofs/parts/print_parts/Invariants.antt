-- What came so far are parts, of which is written, and what is held.
use Rattle.segment_output.proofs.SplitText.{IsUnderWay}
use Rattle.segment_output.proofs.parts.print_parts.Given as goal

abbrev pub invariant-reads : goal.invariant-reads
invariant-reads g l =
    IsUnderWay l.splitting g.O.Write.contents (g.I.Read.remaining l.fn.input) (g.I.Read.remaining l.input) l.progress l.fn.out l.out
