use Rattle.icu_segmenter_uax29.specs.Sentences.{sentence_machine}
use Rattle.icu_segmenter_uax29.proofs.SentenceCertificate.{waits}
use Rattle.icu_segmenter_uax29.proofs.Faults.{sentence-is-sound}
use Rattle.icu_segmenter_uax29.proofs.MachineTests.{memory-alone}
use Rattle.icu_segmenter_uax29.proofs.sentences.machine.sentence_machine.Goals as goal

pub returns-clause-rejected : goal.returns-clause-rejected
unfolding sentence_machine
returns-clause-rejected c = memory-alone sentence_machine 12 15 waits sentence-is-sound c.machine_of.result c.machine_of.ensures.rejected
