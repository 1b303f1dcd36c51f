use Rattle.seg_memo.proofs.search.Scanner.scan_kept.Given as goal

abbrev pub ghost-outcome_from : goal.ghost-outcome_from
ghost-outcome_from g a = g.named

abbrev pub ghost-place_after : goal.ghost-place_after
ghost-place_after g a = g.named.source.whole
