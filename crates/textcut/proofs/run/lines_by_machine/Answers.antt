-- The dictionaries have the words that the definition names, in whatever order they keep them.
use Rattle.std.proofs.Common.{◌≡◌, sym, ap, subst, ◌∙◌}
use Rattle.icu_segmenter.specs.Items.{Text}
use Rattle.icu_segmenter.specs.LineBreaks.{LineRules, line_boundaries_of, machine_lines, lines_with_words, IsByPairTable}
use Rattle.icu_segmenter.specs.Lines.{owned_line_rules, without_ja}
use Rattle.icu_segmenter.specs.Machine.{Machine}
use Rattle.icu_segmenter.specs.ScriptWords.{filled, no_words, script_words}
use Rattle.icu_segmenter.proofs.Callers.{line-words-are-sets}
use Rattle.bench.specs.Clusters.{cluster_machine}
use Rattle.bench.specs.Dictionaries.{dictionary_words}
use Rattle.bench.specs.Lines.{line_machine}
use Rattle.textcut.proofs.LineFaults.{no-fault, chosen-plain, same-without_ja}
use Rattle.textcut.proofs.run.lines_by_machine.Goals as goal

pub unreachable-requires : goal.unreachable-requires
unreachable-requires c =
    no-fault _ _ c.default-options.result c.default-options.ensures _ c.in_ok-machine.ensures c.in_default.ensures.rejected.is_there

pub returns : goal.returns
returns c =
    let words = without_ja (script_words c.in_ok-dictionaries.dictionaries) in
    let made : owned_line_rules c.in-Ok.lines ≡ machine_lines line_machine cluster_machine no_words =
    c.in-Ok.ensures.accepted.0
    ∙ chosen-plain _ _ c.default-options.result c.default-options.ensures _
    ∙ ap (λ (m : Machine). machine_lines m c.in_ok-clusters.clusters no_words) c.in_ok-machine.ensures
    ∙ ap (λ (clusters : Machine). machine_lines line_machine clusters no_words) c.in_ok-clusters.ensures in
    let rules : owned_line_rules c.load_dictionary.new.self ≡ machine_lines line_machine cluster_machine words =
    c.load_dictionary.ensures
    ∙ ap (λ (made : LineRules). lines_with_words made (filled made.payloads.words words)) made in
    record {
      breaks = λ (text : Text). ap (λ (rules : LineRules). line_boundaries_of rules text) rules
          ∙ sym (line-words-are-sets (machine_lines line_machine cluster_machine words) (without_ja dictionary_words) (same-without_ja _ _ c.in_ok-dictionaries.ensures) text);
      finder = subst (λ (rules : LineRules). IsByPairTable rules.finder → ⊥) (sym rules) (λ (is : IsByPairTable (machine_lines line_machine cluster_machine words).finder). is);
    }
