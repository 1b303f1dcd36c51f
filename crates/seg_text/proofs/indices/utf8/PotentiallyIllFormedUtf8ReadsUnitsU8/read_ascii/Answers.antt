use Rattle.seg_text.proofs.Utf8Reads.{ascii-at}
use Rattle.seg_text.proofs.Wide.{utf8-wide}
use Rattle.seg_text.proofs.indices.utf8.PotentiallyIllFormedUtf8ReadsUnitsU8.read_ascii.Goals as goal

pub returns-then-first-lt128 : goal.returns-then-first-lt128
returns-then-first-lt128 c = (c.if-first-lt128.true, ascii-at 0 _ c.requires c.if-first-lt128.true)

pub returns-else-first-lt128 : goal.returns-else-first-lt128
returns-else-first-lt128 c = utf8-wide _ c.if-first-lt128.false
