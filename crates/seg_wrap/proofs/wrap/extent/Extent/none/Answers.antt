use Rattle.std.proofs.Common.{refl}
use Rattle.seg_wrap.specs.Wrapping.{columns_of}
use Rattle.seg_wrap.specs.Wrapping.{total_of}
use Rattle.seg_wrap.proofs.wrap.extent.Extent.none.Goals as goal

pub returns : goal.returns
unfolding columns_of total_of
returns c = refl
