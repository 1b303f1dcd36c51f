use Rattle.std.proofs.Common.{sym, ◌∙◌}
use Rattle.seg_line_pairs.proofs.RunEnds.{running-next}
use Rattle.seg_line_pairs.proofs.read_ahead.run_ends.Goals as goal

pub loop-code_point-preserved : goal.loop-code_point-preserved
loop-code_point-preserved g c = record {
  running = running-next _ _ _ _ _ _ _ c.loop-code_point.invariant.running c.place-place.ensures c.in-Some.ensures.gives c.in-Some.ensures.end
      (sym c.accepts.ensures ∙ c.if-not-accepts.false);
}
