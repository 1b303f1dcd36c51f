use Rattle.icu_segmenter_data.proofs.Refused.{word-table-memory-alone}
use Rattle.icu_segmenter_data.proofs.classic.word_segmenter.Goals as goal

pub returns-clause-rejected : goal.returns-clause-rejected
returns-clause-rejected c =
    word-table-memory-alone c.try_new_for_non_complex_scripts.result c.in_ok-table.table c.in_ok-clusters.clusters
    c.in_ok-table.ensures.made c.in_ok-clusters.ensures.made c.try_new_for_non_complex_scripts.ensures.rejected
