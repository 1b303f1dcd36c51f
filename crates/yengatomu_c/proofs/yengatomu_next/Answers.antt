use Rattle.yengatomu_c.proofs.yengatomu_next.Goals as goal

pub returns-in-Ok-clause-nearest : goal.returns-in-Ok-clause-nearest
returns-in-Ok-clause-nearest c = rw (c.in-Ok.ensures.0, ← c.get.ensures) (c.next-found.result, c.next-found.ensures.nearest, c.unwrap_or.ensures)
