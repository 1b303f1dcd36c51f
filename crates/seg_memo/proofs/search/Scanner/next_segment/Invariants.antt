use Rattle.seg_memo.proofs.search.Scanner.next_segment.Given as goal

abbrev pub ghost-scan_any : goal.ghost-scan_any
ghost-scan_any g a = record { source = g.source; start = a.start }

abbrev pub ghost-read_first : goal.ghost-read_first
ghost-read_first g a = g.source
