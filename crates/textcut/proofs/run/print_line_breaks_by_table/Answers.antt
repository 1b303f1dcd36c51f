-- The dictionaries have the words that the definition names, in whatever order they keep them.
use Rattle.std.proofs.Common.{◌≡◌, ℕ, List, OnOk, sym, ap, subst, ◌∙◌}
use Rattle.std.specs.Io.KnownBytes.{Appends}
use Rattle.icu_segmenter.specs.Boundaries.{offsets}
use Rattle.icu_segmenter.specs.LineBreaks.{LineRules, line_boundaries_of, table_lines}
use Rattle.icu_segmenter.specs.Lines.{line_rules, without_ja}
use Rattle.icu_segmenter.specs.LineRules.{default_rules, style_of}
use Rattle.icu_segmenter.specs.PairTable.{PairTable}
use Rattle.icu_segmenter.specs.ScriptWords.{ScriptWords, script_words}
use Rattle.icu_segmenter.specs.Decoding.{utf8}
use Rattle.icu_segmenter.proofs.Callers.{line-words-are-sets}
use Rattle.bench.specs.Dictionaries.{dictionary_words}
use Rattle.bench.specs.LineTables.{line_table}
use Rattle.bench.specs.PairTables.{cluster_table}
use Rattle.textcut.specs.Lines.{lines_of}
use Rattle.textcut.proofs.LineFaults.{same-without_ja, table-default}
use Rattle.textcut.proofs.run.print_line_breaks_by_table.Goals as goal

pub returns-clause-printed : goal.returns-clause-printed
returns-clause-printed g c =
    let words = without_ja (script_words c.in_ok-dictionaries.dictionaries) in
    let rules : line_rules c.in-Ok.lines ≡ table_lines (default_rules line_table) cluster_table words =
    c.in-Ok.ensures.accepted.0
    ∙ ap (λ (borrowed : ScriptWords). table_lines (record { table = c.in_ok-table.table; style = style_of c.default-options.result }) c.in_ok-clusters.clusters (without_ja borrowed)) c.as_borrowed-words.ensures
    ∙ table-default c.default-options.result c.default-options.ensures c.in_ok-table.table c.in_ok-clusters.clusters words
    ∙ ap (λ (t : PairTable). table_lines (default_rules t) c.in_ok-clusters.clusters words) c.in_ok-table.ensures.value
    ∙ ap (λ (clusters : PairTable). table_lines (default_rules line_table) clusters words) c.in_ok-clusters.ensures.value in
    let text = utf8 c.args.text.now in
    let places =
    ap (λ (rules : LineRules). offsets (line_boundaries_of rules text)) rules
    ∙ sym (ap offsets (line-words-are-sets (table_lines (default_rules line_table) cluster_table words) (without_ja dictionary_words) (same-without_ja _ _ c.in_ok-dictionaries.ensures) text)) in
    subst (λ (places : List ℕ). OnOk c.print_line_breaks.result (Appends (g.O.Write.contents c.args.out.now) (g.O.Write.contents c.print_line_breaks.new.out) (lines_of places)))
    places c.print_line_breaks.ensures.printed
