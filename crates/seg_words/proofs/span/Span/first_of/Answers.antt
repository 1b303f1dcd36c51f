use Rattle.std.proofs.Common.{ap, sym, ◌∙◌}
use Rattle.seg_text.specs.Boundaries.{with_status}
use Rattle.seg_text.specs.Items.{code_points}
use Rattle.seg_data.specs.ScriptWords.{borrowed_words, words_after, words_in}
use Rattle.seg_machine.specs.Tailored.{machine_of}
use Rattle.seg_clusters.specs.Clusters.{cluster_rules}
use Rattle.seg_clusters.specs.DictionaryCuts.{dictionary_cuts}
use Rattle.seg_clusters.specs.Payloads.{payloads_of}
use Rattle.seg_clusters.specs.Rules.{boundaries_by}
use Rattle.seg_words.specs.WordRules.{letters}
use Rattle.seg_words.proofs.Runs.{first-piece, first-run}
use Rattle.seg_words.proofs.Spans.{cut-boundaries}
use Rattle.seg_words.proofs.span.Span.first_of.Goals as goal

pub returns-in-None : goal.returns-in-None
returns-in-None g c =
    first-piece (machine_of c.args.machine) (payloads_of c.args.payloads) (g.I.Cursor.text c.args.text.now) (g.I.Cursor.text c.next_item.new.self) (c.in-Some.field-0-0, c.in-Some.first)
    c.piece_of.result.left (rw c.fork.ensures at c.in-Some.ensures.gives)
    (ap (words_in (borrowed_words c.args.payloads.dictionaries)) (sym c.script.ensures) ∙ sym c.in-None.ensures)
    (rw c.fork-in-None.ensures at c.piece_of.ensures)

pub returns-in_ok-run-in-Some-cursor : goal.returns-in_ok-run-in-Some-cursor
returns-in_ok-run-in-Some-cursor g c =
    let run = g.I.Cursor.text c.in_ok-run-in-Some-cursor.run' in
    let cuts = dictionary_cuts (words_after c.in-Some-cursor.words) (boundaries_by (cluster_rules c.args.payloads.clusters)) (code_points run.items) in
    first-run (machine_of c.args.machine) (payloads_of c.args.payloads) (g.I.Cursor.text c.args.text.now) (g.I.Cursor.text c.next_item.new.self) run (c.in-Some.field-0-0, c.in-Some.first)
    (words_after c.in-Some-cursor.words) (with_status letters c.new.result) (rw c.fork.ensures at c.in-Some.ensures.gives)
    (ap (words_in (borrowed_words c.args.payloads.dictionaries)) (sym c.script.ensures) ∙ sym c.in-Some-cursor.ensures)
    (rw c.fork-in-Some-cursor.ensures at c.in_ok-run-in-Some-cursor.ensures.1)
    (ap (with_status letters) c.new.ensures ∙ cut-boundaries letters run cuts)
