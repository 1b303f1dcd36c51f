-- When the loop ends nothing is to come, so what was looked up is all.
use Rattle.std.proofs.Common.{sym, ap, ◌∙◌}
use Rattle.std.proofs.lemmas.Option.{same_Some}
use Rattle.icu_segmenter.specs.Decoding.{utf8, utf8_from}
use Rattle.icu_segmenter.specs.Rules.{machine_in}
use Rattle.icu_segmenter.specs.Configurations.{reading}
use Rattle.callers.specs.Spaces.{spaces_machine}
use Rattle.callers.proofs.Reached.{all-looked-up, none-left}
use Rattle.callers.proofs.memo.read_count.Goals as goal

pub returns : goal.returns
returns c =
    let made = c.in_ok-with_memo.ensures.made in
    all-looked-up spaces_machine (utf8 c.args.text.now) c.next.new.self c.lookups.result (rw (← c.in_ok-machine.ensures.machine) c.in_ok-machine.ensures.checked)
    (c.next.ensures.steps.2 ∙ c.runs.invariant.0 ∙ c.with_reader-memo.ensures.machine
    ∙ ap (λ m. reading m spaces_machine.transitions) (same_Some _ _ (sym made.machine ∙ ap machine_in (c.segment_str.ensures.source.0 ∙ c.in_ok-runs.ensures)) ∙ c.in_ok-machine.ensures.machine))
    (c.next.ensures.steps.3 ∙ c.runs.invariant.1 ∙ c.with_reader-memo.ensures.text ∙ made.text ∙ ap (λ from. utf8_from from.place from.units) c.segment_str.ensures.source.1)
    (none-left c.runs.memo.coming c.next.new.self.coming c.next.result (sym c.is_some.ensures ∙ c.runs-test.false) c.next.ensures.steps.1) c.lookups.ensures.given c.lookups.ensures.different
