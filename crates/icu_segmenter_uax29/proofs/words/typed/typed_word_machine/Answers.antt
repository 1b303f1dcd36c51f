use Rattle.icu_segmenter_uax29.specs.TypedWords.{typed_word_machine}
use Rattle.icu_segmenter_uax29.proofs.MachineTests.{memory-alone}
use Rattle.icu_segmenter_uax29.proofs.Faults.{typed-is-sound}
use Rattle.icu_segmenter_uax29.proofs.TypedStates.{waits}
use Rattle.icu_segmenter_uax29.proofs.words.typed.typed_word_machine.Goals as goal

pub returns-clause-rejected : goal.returns-clause-rejected
unfolding typed_word_machine
returns-clause-rejected c = memory-alone typed_word_machine 29 22 waits typed-is-sound c.machine_with_scripts.result c.machine_with_scripts.ensures.rejected
