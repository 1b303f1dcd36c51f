use Rattle.seg_memo.proofs.search.Scanner.outcome_from.Given as goal

abbrev pub ghost-look_up : goal.ghost-look_up
ghost-look_up g a = g.named.source

abbrev pub ghost-go_forward : goal.ghost-go_forward
ghost-go_forward g a = g.named

abbrev pub ghost-go_back : goal.ghost-go_back
ghost-go_back g a = g.named
