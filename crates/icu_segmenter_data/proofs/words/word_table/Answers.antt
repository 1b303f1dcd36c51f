use Rattle.icu_segmenter_data.specs.Unicode.{word_table}
use Rattle.icu_segmenter_data.proofs.TableTests.{memory-alone}
use Rattle.icu_segmenter_data.proofs.Tables.{word-table-is-sound}
use Rattle.icu_segmenter_data.proofs.words.word_table.Goals as goal

pub returns-clause-rejected : goal.returns-clause-rejected
returns-clause-rejected c = memory-alone word_table word-table-is-sound c.table_of.result c.table_of.ensures.rejected
