use Rattle.icu_segmenter_data.specs.Unicode.{line_17_table}
use Rattle.icu_segmenter_data.proofs.TableTests.{memory-alone}
use Rattle.icu_segmenter_data.proofs.Tables.{line-17-table-is-sound}
use Rattle.icu_segmenter_data.proofs.lines_17.line_17_table.Goals as goal

pub returns-clause-rejected : goal.returns-clause-rejected
returns-clause-rejected c = memory-alone line_17_table line-17-table-is-sound c.table_of.result c.table_of.ensures.rejected
