use Rattle.seg_machine.proofs.Marks.{marked-here, marked-keeps, marked-only}
use Rattle.seg_machine.proofs.provider.found.mark.Goals as goal

pub returns-clause-marked : goal.returns-clause-marked
returns-clause-marked c = rw c.bit_number-bit.ensures (marked-here c.args.marks.now c.args.state c.args.kept c.requires.state c.ranges.kept.fits c.told-marks)

pub returns-clause-keeps : goal.returns-clause-keeps
returns-clause-keeps c = rw c.bit_number-bit.ensures (marked-keeps c.args.marks.now c.args.state c.args.kept c.requires.state c.ranges.kept.fits c.told-marks)

pub returns-clause-only : goal.returns-clause-only
returns-clause-only c = rw c.bit_number-bit.ensures (marked-only c.args.marks.now c.args.state c.args.kept c.requires.state c.ranges.kept.fits c.told-marks)
