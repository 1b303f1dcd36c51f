-- The dictionaries have the words that the definition names, in whatever order they keep them.
use Rattle.std.proofs.Common.{◌≡◌, ℕ, List, OnOk, sym, ap, subst, ◌∙◌}
use Rattle.std.specs.Io.KnownBytes.{Appends}
use Rattle.icu_segmenter.specs.Boundaries.{offsets}
use Rattle.icu_segmenter.specs.Machine.{Machine}
use Rattle.icu_segmenter.specs.PairTable.{PairTable}
use Rattle.icu_segmenter.specs.ScriptWords.{ScriptWords, filled, no_words, script_words}
use Rattle.icu_segmenter.specs.Decoding.{utf8}
use Rattle.icu_segmenter.specs.WordRules.{WordRules, machine_words, with_words, word_boundaries_of}
use Rattle.icu_segmenter.specs.Words.{word_rules}
use Rattle.icu_segmenter.proofs.Callers.{words-are-sets}
use Rattle.bench.specs.Dictionaries.{dictionary_words}
use Rattle.bench.specs.PairTables.{cluster_table}
use Rattle.bench.specs.Words.{word_machine}
use Rattle.textcut.specs.Lines.{lines_of}
use Rattle.textcut.proofs.run.print_words_by_machine.Goals as goal

pub returns-clause-printed : goal.returns-clause-printed
returns-clause-printed g c =
    let words = script_words c.in_ok-dictionaries.dictionaries in
    let made : word_rules c.in-Ok.segmenter ≡ machine_words word_machine cluster_table no_words =
    c.in-Ok.ensures.accepted.0
    ∙ ap (λ (m : Machine). machine_words m c.in_ok-clusters.clusters no_words) c.in_ok-machine.ensures.value
    ∙ ap (λ (clusters : PairTable). machine_words word_machine clusters no_words) c.in_ok-clusters.ensures.value in
    let rules : word_rules c.load_dictionary.new.self ≡ machine_words word_machine cluster_table words =
    c.load_dictionary.ensures
    ∙ ap (λ (borrowed : ScriptWords). with_words (word_rules c.in-Ok.segmenter) (filled (word_rules c.in-Ok.segmenter).payloads.words borrowed)) c.as_borrowed.ensures
    ∙ ap (λ (made : WordRules). with_words made (filled made.payloads.words words)) made in
    let text = utf8 c.args.text.now in
    let places =
    ap (λ (words : WordRules). offsets (word_boundaries_of words text)) rules
    ∙ sym (ap offsets (words-are-sets (machine_words word_machine cluster_table words) dictionary_words c.in_ok-dictionaries.ensures text)) in
    subst (λ (places : List ℕ). OnOk c.print_words.result (Appends (g.O.Write.contents c.args.out.now) (g.O.Write.contents c.print_words.new.out) (lines_of places)))
    places c.print_words.ensures.printed
