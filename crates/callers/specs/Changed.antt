-- Unicode's classes of words with one changed: U+005F LOW LINE has that of U+0021 EXCLAMATION MARK.
use Rattle.std.specs.Prelude.{ℕ, [], ◌∷◌}
use Rattle.icu_segmenter.specs.Table.{Table, table, value_of}
use Rattle.icu_segmenter_data.specs.Unicode.{word_table}

-- an override by which a low line has a class: of any other character it names none, which is 0
abbrev pub low_line_of : ℕ → Table
low_line_of class = table ((0x5F, 0x5F, class) ∷ []) 0

abbrev pub low_line_alone : Table
low_line_alone = low_line_of (value_of word_table.property_table 0x21)
