-- The dictionaries have the words that the definition names, in whatever order they keep them.
use Rattle.std.proofs.Common.{◌≡◌, ℕ, List, OnOk, sym, ap, subst, ◌∙◌}
use Rattle.std.specs.Prelude.{None}
use Rattle.std.specs.Io.KnownBytes.{Appends}
use Rattle.icu_segmenter.specs.Boundaries.{offsets}
use Rattle.icu_segmenter.specs.PairTable.{PairTable}
use Rattle.icu_segmenter.specs.ScriptWords.{ScriptWords, script_words}
use Rattle.icu_segmenter.specs.Decoding.{utf8}
use Rattle.icu_segmenter.specs.WordRules.{WordRules, table_words, word_boundaries_of}
use Rattle.icu_segmenter.specs.Words.{word_rules}
use Rattle.icu_segmenter.proofs.Callers.{words-are-sets}
use Rattle.bench.specs.Dictionaries.{dictionary_words}
use Rattle.bench.specs.PairTables.{cluster_table, word_table}
use Rattle.textcut.specs.Lines.{lines_of}
use Rattle.textcut.proofs.run.print_words_by_table.Goals as goal

pub returns-clause-printed : goal.returns-clause-printed
returns-clause-printed g c =
    let words = script_words c.in_ok-dictionaries.dictionaries in
    let rules : word_rules c.in-Ok.segmenter ≡ table_words word_table None cluster_table words =
    c.in-Ok.ensures.accepted.0
    ∙ ap (λ (words : ScriptWords). table_words c.in_ok-table.table None c.in_ok-clusters.clusters words) c.as_borrowed-borrowed.ensures
    ∙ ap (λ (t : PairTable). table_words t None c.in_ok-clusters.clusters words) c.in_ok-table.ensures.value
    ∙ ap (λ (clusters : PairTable). table_words word_table None clusters words) c.in_ok-clusters.ensures.value in
    let text = utf8 c.args.text.now in
    let places =
    ap (λ (words : WordRules). offsets (word_boundaries_of words text)) rules
    ∙ sym (ap offsets (words-are-sets (table_words word_table None cluster_table words) dictionary_words c.in_ok-dictionaries.ensures text)) in
    subst (λ (places : List ℕ). OnOk c.print_words.result (Appends (g.O.Write.contents c.args.out.now) (g.O.Write.contents c.print_words.new.out) (lines_of places)))
    places c.print_words.ensures.printed
