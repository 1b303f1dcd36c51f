use Rattle.seg_machine.specs.Tailored.{parts_of}
use Rattle.seg_memo.specs.Configurations.{configuration, following}
use Rattle.std.proofs.Common.{length}
use Rattle.seg_memo.proofs.Ahead.{Scans}
use Rattle.seg_memo.proofs.search.Scanner.scan_plain.Given as goal

abbrev pub ghost-next_symbol : goal.ghost-next_symbol
ghost-next_symbol g a = g.scan.source

abbrev pub ghost-scan_kept : goal.ghost-scan_kept
ghost-scan_kept g a = record { source = g.scan.source; start = g.scan.start; last = a.last }

abbrev pub invariant-scan : goal.invariant-scan
invariant-scan g l =
    Scans g.scan.source (parts_of l.self.machine) (g.R.ReadTransitions.states l.self.reader) (g.R.ReadTransitions.transitions l.self.reader) (g.R.ReadTransitions.counted l.self.reader) l.self.table g.scan.start (configuration l.state l.place 0) l.after
    l.symbol (g.I.Cursor.text l.ahead.after) l.last l.stood

abbrev pub decreases-scan : goal.decreases-scan
decreases-scan g l = length (following g.scan.source.subject (configuration l.state l.place 0))
