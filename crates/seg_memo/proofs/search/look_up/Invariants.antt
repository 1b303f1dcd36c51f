use Rattle.seg_memo.proofs.search.look_up.Given as goal

abbrev pub ghost-next_symbol : goal.ghost-next_symbol
ghost-next_symbol g a = g.source
