use Rattle.std.proofs.Common.{refl}
use Rattle.seg_wrap.proofs.Parts.{uncut}
use Rattle.seg_wrap.proofs.wrap.parts.parts.Goals as goal

pub returns-in-None : goal.returns-in-None
returns-in-None g c = rw c.in-None.is (record { are = c.requires.are; cut = uncut _ _ _ c.requires.are c.requires.whole; rest = refl })
