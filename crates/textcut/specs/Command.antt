-- The words of each command, and what it prints of a text.
use Rattle.std.specs.Prelude.{◌≢◌, ℕ, None, List, [], ◌∷◌, map, codes}
use Rattle.std.specs.Borrow.{Bor}
use Rattle.icu_segmenter.specs.Decoding.{utf8}
use Rattle.icu_segmenter.specs.Boundaries.{offsets}
use Rattle.icu_segmenter.specs.Items.{Text}
use Rattle.icu_segmenter.specs.Rules.{boundaries_of}
use Rattle.icu_segmenter.specs.LineBreaks.{LineRules, line_boundaries_of, machine_lines, table_lines, turn_lines}
use Rattle.icu_segmenter.specs.LineRules.{default_rules}
use Rattle.icu_segmenter.specs.Lines.{without_ja}
use Rattle.icu_segmenter.specs.WordRules.{machine_words, table_words, word_boundaries_of}
use Rattle.icu_segmenter.specs.Rules.Rules.{ByTable, ByMachine}
use Rattle.bench.specs.Clusters.{cluster_machine}
use Rattle.bench.specs.Dictionaries.{dictionary_words}
use Rattle.bench.specs.Sentences.{sentence_machine}
use Rattle.bench.specs.Words.{word_machine}
use Rattle.bench.specs.Lines.{line_machine}
use Rattle.bench.specs.LineTables.{line_table}
use Rattle.bench.specs.PairTables.{cluster_table, sentence_table, word_table}
use Rattle.bench.specs.TurnTables.{turn_table}
use Rattle.textcut.specs.declared.command.Command.{Command}
use Rattle.textcut.specs.declared.command.Command.TheVariants.{GraphemeClassic, GraphemeNeo, SentenceClassic, SentenceNeo, WordClassic, WordNeo, LineClassic, Line17, LineNeo}

-- the texts that references point to
abbrev pub texts : List (Bor (List ℕ)) → List (List ℕ)
texts words = map (λ word. word.now) words

-- the words of a command
abbrev pub words_of : Command → List (List ℕ)
words_of GraphemeClassic = codes "grapheme" ∷ codes "classic" ∷ []
words_of GraphemeNeo = codes "grapheme" ∷ codes "neo" ∷ []
words_of SentenceClassic = codes "sentence" ∷ codes "classic" ∷ []
words_of SentenceNeo = codes "sentence" ∷ codes "neo" ∷ []
words_of WordClassic = codes "word" ∷ codes "classic" ∷ []
words_of WordNeo = codes "word" ∷ codes "neo" ∷ []
words_of LineClassic = codes "line" ∷ codes "classic" ∷ []
words_of Line17 = codes "line" ∷ codes "17" ∷ []
words_of LineNeo = codes "line" ∷ codes "neo" ∷ []

-- words that no command has
abbrev pub IsNoCommand : List (List ℕ) → Type 0
IsNoCommand words = (command : Command) → words ≢ words_of command

-- lines by the sample machine, with the sample dictionaries; by default options it isn't tailored
abbrev pub sample_lines : LineRules
sample_lines = machine_lines line_machine cluster_machine (without_ja dictionary_words)

-- the places of the boundaries that a command finds in a text
abbrev pub places_in : Command → Text → List ℕ
places_in GraphemeClassic text = offsets (boundaries_of (ByTable cluster_table None) text)
places_in GraphemeNeo text = offsets (boundaries_of (ByMachine cluster_machine) text)
places_in SentenceClassic text = offsets (boundaries_of (ByTable sentence_table None) text)
places_in SentenceNeo text = offsets (boundaries_of (ByMachine sentence_machine) text)
places_in WordClassic text = offsets (word_boundaries_of (table_words word_table None cluster_table dictionary_words) text)
places_in WordNeo text = offsets (word_boundaries_of (machine_words word_machine cluster_table dictionary_words) text)
places_in LineClassic text = offsets (line_boundaries_of (table_lines (default_rules line_table) cluster_table (without_ja dictionary_words)) text)
places_in Line17 text = offsets (line_boundaries_of (turn_lines (default_rules turn_table) cluster_table (without_ja dictionary_words)) text)
places_in LineNeo text = offsets (line_boundaries_of sample_lines text)

-- .. and in the text of some bytes
abbrev pub places_of : Command → List ℕ → List ℕ
places_of command bytes = places_in command (utf8 bytes)
