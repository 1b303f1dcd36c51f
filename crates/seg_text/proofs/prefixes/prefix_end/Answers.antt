use Rattle.std.proofs.Common.{sym, ◌∙◌}
use Rattle.seg_text.proofs.Passing.{passing-next}
use Rattle.seg_text.proofs.prefixes.prefix_end.Goals as goal

pub loop-code_point-preserved : goal.loop-code_point-preserved
loop-code_point-preserved g c = record {
  passing = passing-next _ _ _ _ _ c.loop-code_point.invariant.passing c.in-Some.ensures.gives c.in-Some.ensures.end (sym c.accepts.ensures ∙ c.if-not-accepts.false);
}
