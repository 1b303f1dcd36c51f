use Rattle.std.proofs.Common.{arith, length, ap, ◌∙◌}
use Rattle.std.proofs.lemmas.List.{length_push}
use Rattle.seg_machine.proofs.Entries.{entries-more}
use Rattle.seg_machine.proofs.dense_rows.entries_of.Goals as goal

pub loop-index-preserved : goal.loop-index-preserved
loop-index-preserved c = record {
  long = omega (arith, ap length c.in_ok-push.ensures.items ∙ length_push _ _, c.loop-index.invariant.long);
  stand = entries-more _ _ _ _ _ c.loop-index.invariant.long c.loop-index.invariant.stand c.entry_at.ensures c.in_ok-push.ensures.items;
}
