use Rattle.seg_data.specs.Faults.{IsFaultless}
use Rattle.icu_segmenter.specs.Words.{HasWordMachineFault}
use Rattle.icu_segmenter_data.proofs.TypedWords.{are-words, finds-words}
use Rattle.icu_segmenter_data.proofs.Refused.{words-memory-alone}
use Rattle.icu_segmenter_data.proofs.segmenters.words_by_scans.Goals as goal

pub returns-clause-words : goal.returns-clause-words
returns-clause-words c =
    let m = c.in_ok-typed_word_machine.field-0 in
    let clusters = c.in_ok-cluster_table.field-0 in
    finds-words _ m clusters (λ words. IsFaultless (HasWordMachineFault m clusters)) c.in_ok-typed_word_machine.ensures.made c.typed_words_are_words.ensures.words
    c.try_new_neo_for_non_complex_scripts.ensures.accepted

pub returns-clause-types : goal.returns-clause-types
returns-clause-types c =
    let m = c.in_ok-typed_word_machine.field-0 in
    let clusters = c.in_ok-cluster_table.field-0 in
    are-words _ m clusters (λ words. IsFaultless (HasWordMachineFault m clusters)) c.in_ok-typed_word_machine.ensures.made c.word_types.ensures
    c.try_new_neo_for_non_complex_scripts.ensures.accepted

pub returns-clause-rejected : goal.returns-clause-rejected
returns-clause-rejected c =
    words-memory-alone c.try_new_neo_for_non_complex_scripts.result c.in_ok-typed_word_machine.field-0 c.in_ok-cluster_table.field-0
    c.in_ok-typed_word_machine.ensures.made c.in_ok-cluster_table.ensures.made c.try_new_neo_for_non_complex_scripts.ensures.rejected
