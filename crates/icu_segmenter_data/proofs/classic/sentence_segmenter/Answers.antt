use Rattle.icu_segmenter_data.proofs.Refused.{sentences-memory-alone}
use Rattle.icu_segmenter_data.proofs.classic.sentence_segmenter.Goals as goal

pub returns-clause-rejected : goal.returns-clause-rejected
returns-clause-rejected c =
    sentences-memory-alone c.try_new.result c.in_ok-sentence_table.field-0 c.in_ok-sentence_table.ensures.made c.try_new.ensures.rejected
