use Rattle.seg_text.proofs.Utf8Reads.{ascii-at}
use Rattle.seg_text.proofs.indices.utf8.PotentiallyIllFormedUtf8ReadsUnitsU8.read_single.Goals as goal

pub returns-then-first-lt128 : goal.returns-then-first-lt128
returns-then-first-lt128 c = ascii-at 0 _ c.requires c.if-first-lt128.true
