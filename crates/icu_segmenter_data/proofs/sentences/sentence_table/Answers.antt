use Rattle.icu_segmenter_data.specs.Unicode.{sentence_table}
use Rattle.icu_segmenter_data.proofs.TableTests.{memory-alone}
use Rattle.icu_segmenter_data.proofs.Tables.{sentence-table-is-sound}
use Rattle.icu_segmenter_data.proofs.sentences.sentence_table.Goals as goal

pub returns-clause-rejected : goal.returns-clause-rejected
returns-clause-rejected c = memory-alone sentence_table sentence-table-is-sound c.table_of.result c.table_of.ensures.rejected
