use Rattle.std.proofs.Common.{subst, ◌∙◌}
use Rattle.icu_segmenter.specs.LineBreaks.{LineRules, IsByPairTable}
use Rattle.segment_output.proofs.machine_lines.MachineLines.wrapper.Goals as goal

pub unreachable-requires : goal.unreachable-requires
unreachable-requires c =
    c.args.self.now.by_machine (subst (λ (rules : LineRules). IsByPairTable rules.finder) c.as_borrowed.ensures c.in_default.ensures.rejected)

pub returns-in-Some-clause-lines : goal.returns-in-Some-clause-lines
returns-in-Some-clause-lines c = c.by_cluster.ensures.lines ∙ c.in-Ok.ensures.made.0 ∙ c.as_borrowed.ensures

pub returns-in-None-clause-lines : goal.returns-in-None-clause-lines
returns-in-None-clause-lines c = c.in-Ok.ensures.made.0 ∙ c.as_borrowed.ensures
