use Rattle.std.specs.Prelude.{None}
use Rattle.icu_segmenter.specs.Clusters.{owned_sentence_rules}
use Rattle.icu_segmenter.specs.Faults.{IsFaultless}
use Rattle.icu_segmenter.specs.MachineFaults.{HasTailoringFault}
use Rattle.icu_segmenter_uax29.specs.Sentences.{FindsSentences, sentence_machine}
use Rattle.icu_segmenter_data.proofs.Found.{found}
use Rattle.icu_segmenter_data.proofs.Refused.{machine-memory-alone}
use Rattle.icu_segmenter_data.proofs.segmenters.sentences_by_scans.Goals as goal

pub returns-clause-sentences : goal.returns-clause-sentences
returns-clause-sentences c =
    found owned_sentence_rules sentence_machine FindsSentences c.sentences_are_uax29.ensures.sentences c.try_new_neo.result c.in_ok-machine.machine
    (λ sentences. IsFaultless (HasTailoringFault c.in_ok-machine.machine None)) c.in_ok-machine.ensures.made c.try_new_neo.ensures.accepted

pub returns-clause-rejected : goal.returns-clause-rejected
returns-clause-rejected c = machine-memory-alone c.try_new_neo.result c.in_ok-machine.machine c.try_new_neo.ensures.rejected
