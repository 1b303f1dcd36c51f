use Rattle.seg_lines.proofs.Tailorings.{for-borrowed}
use Rattle.seg_lines.proofs.line.neo.borrowed_line_machine.Goals as goal

pub returns-clause-accepted : goal.returns-clause-accepted
returns-clause-accepted c = rw (for-borrowed _ _, c.in_ok-tailoring_for.ensures.found) c.borrowed_with.ensures.accepted

pub returns-clause-rejected : goal.returns-clause-rejected
returns-clause-rejected c = rw (for-borrowed _ _, c.in_ok-tailoring_for.ensures.found) c.borrowed_with.ensures.rejected
