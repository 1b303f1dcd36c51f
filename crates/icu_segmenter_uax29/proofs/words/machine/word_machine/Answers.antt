use Rattle.icu_segmenter_uax29.specs.Words.{word_machine}
use Rattle.icu_segmenter_uax29.proofs.WordCertificate.{waits}
use Rattle.icu_segmenter_uax29.proofs.Faults.{word-is-sound}
use Rattle.icu_segmenter_uax29.proofs.MachineTests.{memory-alone}
use Rattle.icu_segmenter_uax29.proofs.words.machine.word_machine.Goals as goal

pub returns-clause-rejected : goal.returns-clause-rejected
unfolding word_machine
returns-clause-rejected c = memory-alone word_machine 23 21 waits word-is-sound c.machine_of.result c.machine_of.ensures.rejected
