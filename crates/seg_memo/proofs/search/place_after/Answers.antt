use Rattle.seg_memo.proofs.Reading.{goes-more}
use Rattle.seg_memo.proofs.search.place_after.Goals as goal

pub loop-item-preserved : goal.loop-item-preserved
loop-item-preserved g c = goes-more g.whole _ _ c.loop-item.item c.loop-item.invariant c.skip.ensures
