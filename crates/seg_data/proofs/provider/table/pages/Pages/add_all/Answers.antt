use Rattle.std.proofs.Common.{rules, arith}
use Rattle.std.proofs.lemmas.Grind.{common_steps}
use Rattle.seg_data.proofs.Paged.{pages-pushed}
use Rattle.seg_data.proofs.provider.table.pages.Pages.add_all.Goals as goal

pub loop-page-preserved : goal.loop-page-preserved
loop-page-preserved c = record {
  count = first_of (search rules, grind (arith, common_steps));
  stand = pages-pushed _ _ _ _ _ _ _ _ c.push.ensures.items c.loop-page.invariant.count c.block_of.ensures.grows c.loop-page.invariant.stand c.in_ok-block.ensures.stands;
  blocks = c.in_ok-block.ensures.blocks;
  plain = c.in_ok-block.ensures.plain;
}
