use Rattle.icu_segmenter_data.proofs.Refused.{clusters-memory-alone}
use Rattle.icu_segmenter_data.proofs.classic.grapheme_segmenter.Goals as goal

pub returns-clause-rejected : goal.returns-clause-rejected
returns-clause-rejected c =
    clusters-memory-alone c.try_new.result c.in_ok-cluster_table.field-0 c.in_ok-cluster_table.ensures.made c.try_new.ensures.rejected
