use Rattle.seg_data.proofs.provider.table.pages.Pages.try_new.Goals as goal

pub returns-clause-stand : goal.returns-clause-stand
returns-clause-stand c = rw (c.shrink_to_fit.ensures.items, c.shrink_to_fit-2.ensures.items) c.in_ok-add_all.ensures.stand
