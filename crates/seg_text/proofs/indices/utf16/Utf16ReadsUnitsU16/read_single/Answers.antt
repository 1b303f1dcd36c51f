use Rattle.seg_text.proofs.Utf16.{single-at}
use Rattle.seg_text.proofs.indices.utf16.Utf16ReadsUnitsU16.read_single.Goals as goal

pub returns-then-first : goal.returns-then-first
returns-then-first c = single-at _ c.requires c.if-first.true
