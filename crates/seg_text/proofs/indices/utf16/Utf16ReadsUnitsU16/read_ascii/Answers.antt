use Rattle.seg_text.proofs.Wide.{utf16-ascii, utf16-wide}
use Rattle.seg_text.proofs.indices.utf16.Utf16ReadsUnitsU16.read_ascii.Goals as goal

pub returns-then-first-lt128 : goal.returns-then-first-lt128
returns-then-first-lt128 c = (c.if-first-lt128.true, utf16-ascii _ c.requires c.if-first-lt128.true)

pub returns-else-first-lt128 : goal.returns-else-first-lt128
returns-else-first-lt128 c = utf16-wide _ c.if-first-lt128.false
