-- The bench pair tables of grapheme clusters, of sentences and of words, hand-written ones for tests and for the program.
use Rattle.std.specs.Prelude.{ℕ, List, [], ◌∷◌}
use Rattle.seg_pairs.specs.declared.provider.pairs.BreakState.{BreakState}
use Rattle.seg_pairs.specs.declared.provider.pairs.BreakState.TheVariants.{Break, Keep, Index}
use Rattle.icu_segmenter.specs.Table.{Table}
use Rattle.icu_segmenter.specs.PairTable.{PairTable, pair_table}

-- 1 carriage return, 2 line feed, 3 what extends a cluster, 0 any other character
abbrev pub cluster_classes : Table
cluster_classes = record {
  ranges =
      (0x0A, 0x0A, 2) ∷ (0x0D, 0x0D, 1) ∷ (0x300, 0x36F, 3) ∷ (0xE31, 0xE31, 3) ∷ (0xE34, 0xE3A, 3)
      ∷ (0xE47, 0xE4E, 3) ∷ (0x200D, 0x200D, 3) ∷ [];
  default = 0;
}

-- a row for each class, then those of the text's start and end
abbrev pub cluster_entries : List BreakState
cluster_entries =
    Break ∷ Break ∷ Break ∷ Keep ∷ Break ∷ Break
    ∷ Break ∷ Break ∷ Keep ∷ Break ∷ Break ∷ Break
    ∷ Break ∷ Break ∷ Break ∷ Break ∷ Break ∷ Break
    ∷ Break ∷ Break ∷ Break ∷ Keep ∷ Break ∷ Break
    ∷ Break ∷ Break ∷ Break ∷ Break ∷ Break ∷ Break
    ∷ Break ∷ Break ∷ Break ∷ Break ∷ Break ∷ Break
    ∷ []

abbrev pub cluster_table : PairTable
cluster_table = pair_table cluster_classes cluster_entries [] 6 3 4 5 127

-- 1 what ends a sentence, 2 space, 3 what ends a line, 0 any other character
abbrev pub sentence_classes : Table
sentence_classes = record {
  ranges =
      (0x0A, 0x0A, 3) ∷ (0x0D, 0x0D, 3) ∷ (0x20, 0x20, 2) ∷ (0x21, 0x21, 1) ∷ (0x2E, 0x2E, 1)
      ∷ (0x3F, 0x3F, 1) ∷ [];
  default = 0;
}

-- a row for each class and for state 4, the spaces after what ends a sentence, then those of the text's start and end
abbrev pub sentence_entries : List BreakState
sentence_entries =
    Keep ∷ Keep ∷ Keep ∷ Keep ∷ Keep ∷ Keep ∷ Keep
    ∷ Keep ∷ Keep ∷ Index 4 ∷ Keep ∷ Keep ∷ Keep ∷ Keep
    ∷ Keep ∷ Keep ∷ Keep ∷ Keep ∷ Keep ∷ Keep ∷ Keep
    ∷ Break ∷ Break ∷ Break ∷ Break ∷ Break ∷ Break ∷ Break
    ∷ Break ∷ Break ∷ Index 4 ∷ Keep ∷ Keep ∷ Keep ∷ Keep
    ∷ Break ∷ Break ∷ Break ∷ Break ∷ Break ∷ Break ∷ Break
    ∷ Keep ∷ Keep ∷ Keep ∷ Keep ∷ Keep ∷ Keep ∷ Keep
    ∷ []

abbrev pub sentence_table : PairTable
sentence_table = pair_table sentence_classes sentence_entries [] 7 3 5 6 127

-- 1 Latin letters, 2 digits, 3 what is complex, 0 any other character
abbrev pub word_classes : Table
word_classes = record {
  ranges =
      (0x30, 0x39, 2) ∷ (0x41, 0x5A, 1) ∷ (0x61, 0x7A, 1) ∷ (0xC0, 0x24F, 1) ∷ (0xE01, 0xE3A, 3)
      ∷ (0xE40, 0xE4E, 3) ∷ (0x1000, 0x103F, 3) ∷ (0x1E00, 0x1EFF, 1) ∷ (0x4E00, 0x9FFF, 3)
      ∷ (0x20000, 0x2A6DF, 3) ∷ [];
  default = 0;
}

-- a row for each class, then those of the text's start and end
abbrev pub word_entries : List BreakState
word_entries =
    Break ∷ Break ∷ Break ∷ Break ∷ Break ∷ Break
    ∷ Break ∷ Keep ∷ Keep ∷ Break ∷ Break ∷ Break
    ∷ Break ∷ Keep ∷ Keep ∷ Break ∷ Break ∷ Break
    ∷ Break ∷ Break ∷ Break ∷ Break ∷ Break ∷ Break
    ∷ Break ∷ Break ∷ Break ∷ Break ∷ Break ∷ Break
    ∷ Break ∷ Break ∷ Break ∷ Break ∷ Break ∷ Break
    ∷ []

-- the statuses of classes 1 to 3: 1 is that of a number, and 2 that of a word of letters
abbrev pub word_statuses : List ℕ
word_statuses = 2 ∷ 1 ∷ 2 ∷ []

abbrev pub word_table : PairTable
word_table = pair_table word_classes word_entries word_statuses 6 3 4 5 3
