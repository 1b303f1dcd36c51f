use Rattle.yengatomu_segmenter.specs.Finders.{find_by, finder_of}
use Rattle.seg_text.proofs.GoingOn.{behind-utf8}
use Rattle.yengatomu_c.proofs.yengatomu_boundaries.Goals as goal

pub returns-in-Ok-clause-whole : goal.returns-in-Ok-clause-whole
returns-in-Ok-clause-whole c = rw c.in-Ok.ensures.0 (λ restart has. behind-utf8 (find_by (finder_of c.in-Ok.lease.segmenter)) restart c.args.text.now c.args.from has)
