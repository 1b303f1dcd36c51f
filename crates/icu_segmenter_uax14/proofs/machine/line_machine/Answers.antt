use Rattle.icu_segmenter_uax14.specs.Lines.{line_machine}
use Rattle.icu_segmenter_uax14.proofs.LineTables.{waits}
use Rattle.icu_segmenter_uax29.proofs.MachineTests.{memory-alone}
use Rattle.icu_segmenter_uax14.proofs.Machines.{line-machine-is-sound}
use Rattle.icu_segmenter_uax14.proofs.machine.line_machine.Goals as goal

pub returns-clause-rejected : goal.returns-clause-rejected
unfolding line_machine
returns-clause-rejected c = memory-alone line_machine 126 72 waits line-machine-is-sound c.machine_of.result c.machine_of.ensures.rejected
