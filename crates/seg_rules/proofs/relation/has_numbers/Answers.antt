use Rattle.seg_rules.proofs.relation.has_numbers.Goals as goal

pub returns : goal.returns
returns c = λ rules n yes.
    (c.is_number.ensures rules n c.if-not-is_number.false, (c.is_number-else-not-is_number.ensures rules n c.if-not-is_number-2.false, c.is_newest_number.ensures rules n yes))
