use Rattle.seg_data.proofs.provider.table.ClassTable.get_wide.Goals as goal

pub returns-in-Some : goal.returns-in-Some
returns-in-Some c = rw (← c.self.view_is) (c.in-Some.ensures.value _ c.self.invariant.2)
