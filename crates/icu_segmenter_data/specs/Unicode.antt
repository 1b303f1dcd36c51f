-- Unicode's data for pair tables: of just the arrays that stand in the code.
use Rattle.std.specs.Prelude.{[]}
use Rattle.icu_segmenter.specs.PairTable.{PairTable, pair_table}
use Rattle.icu_segmenter.specs.Table.{table}
use Rattle.icu_segmenter_data.specs.declared.clusters.data.TheConstants as clusters
use Rattle.icu_segmenter_data.specs.declared.lines.data.TheConstants as lines
use Rattle.icu_segmenter_data.specs.declared.lines_17.data.TheConstants as lines_17
use Rattle.icu_segmenter_data.specs.declared.sentences.data.TheConstants as sentences
use Rattle.icu_segmenter_data.specs.declared.words.data.TheConstants as words

abbrev pub cluster_table : PairTable
cluster_table =
    let numbers = clusters.NUMBERS in
    pair_table (table clusters.CLASSES clusters.OTHER_CLASS) clusters.ENTRIES [] numbers.count numbers.last numbers.start_of_text numbers.end_of_text numbers.complex

abbrev pub word_table : PairTable
word_table =
    let numbers = words.NUMBERS in
    pair_table (table words.CLASSES words.OTHER_CLASS) words.ENTRIES words.STATUSES numbers.count numbers.last numbers.start_of_text numbers.end_of_text numbers.complex

abbrev pub sentence_table : PairTable
sentence_table =
    let numbers = sentences.NUMBERS in
    pair_table (table sentences.CLASSES sentences.OTHER_CLASS) sentences.ENTRIES [] numbers.count numbers.last numbers.start_of_text numbers.end_of_text numbers.complex

abbrev pub line_table : PairTable
line_table =
    let numbers = lines.NUMBERS in
    pair_table (table lines.CLASSES lines.OTHER_CLASS) lines.ENTRIES [] numbers.count numbers.last numbers.start_of_text numbers.end_of_text numbers.complex

abbrev pub line_17_table : PairTable
line_17_table =
    let numbers = lines_17.NUMBERS in
    pair_table (table lines_17.CLASSES lines_17.OTHER_CLASS) lines_17.ENTRIES [] numbers.count numbers.last numbers.start_of_text numbers.end_of_text numbers.complex
