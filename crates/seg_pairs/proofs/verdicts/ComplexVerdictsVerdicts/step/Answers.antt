use Rattle.std.proofs.Common.{◌∙◌, sym}
use Rattle.seg_pairs.specs.Elements.{classes_of}
use Rattle.seg_pairs.specs.Verdict.{named_verdict}
use Rattle.seg_pairs.proofs.Landings.{complex-last, complex-pair, complex-break, complex-run}
use Rattle.seg_pairs.proofs.verdicts.ComplexVerdictsVerdicts.step.Goals as goal

pub returns-in_default-clause-lands : goal.returns-in_default-clause-lands
returns-in_default-clause-lands g c = complex-last _ _ _ _ c.in_default.ensures.gives.0 c.in_default.ensures.gives.1

pub returns-then-right-complex-clause-lands : goal.returns-then-right-complex-clause-lands
returns-then-right-complex-clause-lands g c =
    complex-pair (λ elements state. named_verdict c.args.self.now.table.now state c.args.left.class (classes_of elements)) _ _ _ _ _ _ _ c.in-Some.ensures.gives (λ is. c.if-right-complex.true (is ∙ sym c.complex_property-complex.ensures)) (c.pair_step.ensures.lands _)

pub returns-then-left-complex-clause-lands : goal.returns-then-left-complex-clause-lands
returns-then-left-complex-clause-lands g c = complex-break _ _ _ _ _ c.in-Some.ensures.gives (c.if-right-complex.false ∙ c.complex_property-complex.ensures) (λ is. c.if-left-complex.true (is ∙ sym c.complex_property-complex.ensures))

pub returns-clause-lands : goal.returns-clause-lands
returns-clause-lands g c = complex-run _ _ _ _ _ c.in-Some.ensures.gives (c.if-right-complex.false ∙ c.complex_property-complex.ensures) (c.if-left-complex.false ∙ c.complex_property-complex.ensures)
