use Rattle.std.proofs.Common.{refl, ap, ◌∙◌}
use Rattle.seg_line_pairs.specs.declared.engines.LineEngine.{LineEngine}
use Rattle.seg_line_pairs.specs.LineRules.{class_read, line_class}
use Rattle.seg_line_pairs.proofs.line_pairs.LinePairs.strict_class.Goals as goal

pub returns-clause-value : goal.returns-clause-value
unfolding line_class
returns-clause-value g c =
    c.strict_read.ensures ∙ ap (λ (engine : LineEngine). class_read engine c.args.self.style c.complex_property.result c.class-class.result) c.ENGINE.ensures
    ∙ rw (c.complex_property.ensures, c.class-class.ensures.value, c.new.ensures.table, c.new.ensures.overriding) refl
