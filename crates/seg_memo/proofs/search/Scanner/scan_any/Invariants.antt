use Rattle.seg_memo.proofs.search.Scanner.scan_any.Given as goal

abbrev pub ghost-scan_plain : goal.ghost-scan_plain
ghost-scan_plain g a = g.scan

abbrev pub ghost-scan_plain-2 : goal.ghost-scan_plain-2
ghost-scan_plain-2 g a = g.scan
