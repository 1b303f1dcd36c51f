use Rattle.seg_rules.proofs.relation.+ends.Given as goal

abbrev pub decreases-ends : goal.decreases-ends
decreases-ends l = l.fuel
