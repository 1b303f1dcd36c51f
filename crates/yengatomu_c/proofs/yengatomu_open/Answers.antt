use Rattle.yengatomu_segmenter.proofs.Feeds.{feeds-reset}
use Rattle.yengatomu_c.proofs.yengatomu_open.Goals as goal

pub returns-in-Ok-clause-feeds : goal.returns-in-Ok-clause-feeds
returns-in-Ok-clause-feeds c = rw (c.put.ensures.0, c.in-Ok.ensures.made) (feeds-reset c.in-Some.request)
