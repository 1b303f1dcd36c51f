use Rattle.icu_segmenter_data.specs.Unicode.{cluster_table}
use Rattle.icu_segmenter_data.proofs.TableTests.{memory-alone}
use Rattle.icu_segmenter_data.proofs.Tables.{cluster-table-is-sound}
use Rattle.icu_segmenter_data.proofs.clusters.cluster_table.Goals as goal

pub returns-clause-rejected : goal.returns-clause-rejected
returns-clause-rejected c = memory-alone cluster_table cluster-table-is-sound c.table_of.result c.table_of.ensures.rejected
