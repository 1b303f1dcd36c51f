use Rattle.yengatomu_c.proofs.utf16.near.yengatomu_previous_utf16.Goals as goal

pub returns-in-Ok-clause-nearest : goal.returns-in-Ok-clause-nearest
returns-in-Ok-clause-nearest c = rw (c.in-Ok.ensures.0, ← c.get.ensures) (c.previous-found.result, c.previous-found.ensures.nearest, c.unwrap_or.ensures)
