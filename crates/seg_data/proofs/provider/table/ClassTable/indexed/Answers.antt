use Rattle.seg_data.proofs.provider.table.ClassTable.indexed.Goals as goal

pub invariant_of-result : goal.invariant_of-result
invariant_of-result c = (c.self.invariant.0, c.self.invariant.1, rw (← c.as_slice.ensures.value) c.in_ok-pages.ensures.stand)
