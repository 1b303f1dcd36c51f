use Rattle.seg_wrap.proofs.Given.{place-boundary}
use Rattle.seg_wrap.proofs.wrap.part.Goals as goal

pub range-requires-clause-start_boundary : goal.range-requires-clause-start_boundary
range-requires-clause-start_boundary c some = place-boundary _ _ c.utf8.text c.requires.start

pub range-requires-clause-end_boundary : goal.range-requires-clause-end_boundary
range-requires-clause-end_boundary c = place-boundary _ _ c.utf8.text c.requires.end
