use Rattle.std.proofs.Common.{length}
use Rattle.seg_machine.specs.Tailored.{machine_of}
use Rattle.seg_machine.proofs.ReadAhead.{IsRead, come}
use Rattle.seg_rows.proofs.rule_segmenter_v2.scan.Given as goal

abbrev pub invariant-scan : goal.invariant-scan
invariant-scan g l =
    IsRead (machine_of l.machine) (g.I.Cursor.text l.rest) l.state l.ahead.symbol (g.I.Cursor.text l.ahead.after) (g.P.KeptPlaces.kept l.kept) l.picked l.stood

abbrev pub decreases-scan : goal.decreases-scan
decreases-scan g l = length (come (machine_of l.machine) l.state l.ahead.symbol (g.I.Cursor.text l.ahead.after))
